use Rattle.std.proofs.Common.{Err, rules, ◌≡◌, ℕ, false, take, sym, ap, ◌∙◌, arith}
use Rattle.names.specs.Names.{Bytes}
use Rattle.names.specs.Spelled.{spelled}
use Rattle.faults.specs.Causes.{extended}
use Rattle.faults.specs.Trails.{steps}
use Rattle.script.specs.Made.{entries}
use Rattle.script.specs.Pages.{content}
use Rattle.script.specs.Searched.{candidate}
use Rattle.script.specs.View.{view}
use Rattle.clean.specs.Answered.{yielded}
use Rattle.clean.specs.Chains.{opened}
use Rattle.clean.specs.Evaluate.{failed, as_answer}
use Rattle.clean.specs.Opening.{begins}
use Rattle.clean.specs.Status.{status, is_absent}
use Rattle.clean.specs.Told.{told}
use Rattle.clean.specs.Files.{laid}
use Rattle.clean.proofs.Drives.{too_deep, opened-run, stopped-run, passed, asked-fault, there, deeper}
use Rattle.clean.proofs.evaluate.OpenTarget.+drive_evaluate_fetch_tell.Goals as goal

pub evaluate-returns-in_err-opening : goal.evaluate-returns-in_err-opening
evaluate-returns-in_err-opening t c =
    let L = laid c.args.self.now.files.now in
    let C = opened c.args.self.now.chain in
    let T = spelled c.args.self.now.target in
    let r : c.from_residual.result ≡ Err c.in_err-opening.field-0.0 = search rules in
    ap yielded r ∙ stopped-run L C T c.in_err-opening.field-0.0 c.in_err-opening.ensures

pub evaluate-returns : goal.evaluate-returns
evaluate-returns t c =
    let L = laid c.args.self.now.files.now in
    let C = opened c.args.self.now.chain in
    let T = spelled c.args.self.now.target in
    let o = c.in_ok-opening.opening in
    let es = entries c.seek.new.entries in
    let s : c.stem-stem.result.now ≡ (candidate T o.script).stem = c.stem-stem.ensures ∙ ap (take o.script.stem_len) c.as_bytes.ensures.value in
    c.drive.ensures ∙ ap as_answer (opened-run L C T c.stem-stem.result.now (content o.text) es (view c.new-run.result) c.new-run.ensures
    (ap (λ (x : Bytes). begins x (content o.text) es) s ∙ c.in_ok-opening.ensures))

pub fetch-returns-then-is_full : goal.fetch-returns-then-is_full
fetch-returns-then-is_full t c =
    let L = laid c.args.self.now.files.now in
    let C = opened c.args.self.now.chain in
    let n = spelled c.args.name.now in
    let e = c.new-then-is_full.ensures in
    (λ i. failed ((e.0 ∙ c.into-then-is_full.ensures) i) (e.1 i))
    ∙ sym (ap as_answer (too_deep L C n (sym c.requires ∙ ap told c.in-Target.is) (sym c.if-contains.ensures) (sym c.if-is_full.ensures)))

pub fetch-returns-else-is_full : goal.fetch-returns-else-is_full
fetch-returns-else-is_full t c =
    let L = laid c.args.self.now.files.now in
    let C = opened c.args.self.now.chain in
    let n = spelled c.args.name.now in
    c.evaluate.ensures ∙ ap as_answer (deeper L C _ n (sym c.requires ∙ ap told c.in-Target.is) (sym c.if-contains.ensures) (sym c.if-is_full.ensures) c.with.ensures)

pub tell-returns-in-Err-fetch : goal.tell-returns-in-Err-fetch
tell-returns-in-Err-fetch t c =
    let L = laid c.args.self.now.files.now in
    let C = opened c.args.self.now.chain in
    let T = spelled c.args.self.now.target in
    let n = spelled c.args.question.name in
    let p = view c.args.run.now in
    let h : is_absent (status L n) ≡ false = ap is_absent (sym c.of-status.ensures) ∙ there c.of-status.result c.in_default.not-Absent in
    record {
      value =
          ap (λ x. failed x (steps c.pass.new.self.trail)) c.pass.ensures.0
          ∙ passed L C T n p.line c.in-Err-fetch.fault.cause (steps c.in-Err-fetch.fault.trail) (steps c.pass.new.self.trail) _ c.requires
          c.in-Err-fetch.ensures
          (c.pass.ensures.1 ∙ ap (λ (l : ℕ). extended c.in-Err-fetch.fault.cause (steps c.in-Err-fetch.fault.trail) T l) c.line-in-Err-fetch.ensures)
          (asked-fault L C T p c.args.question.word n h c.in_default-refusal.ensures);
      falls = omega arith;
    }
