use Rattle.std.proofs.Common.{◌+◌, sym, refl, ap, ◌∙◌, subst}
use Rattle.script.specs.Lines.{filled}
use Rattle.script.specs.Tree.{Tree}
use Rattle.script.specs.Made.{entries as made}
use Rattle.script.specs.Pages.{content}
use Rattle.script.specs.View.{view, Went}
use Rattle.script.proofs.Runs.{skipped, ran, played}
use Rattle.script.proofs.run.Run.read_line.Goals as goal

pub returns-in-Skipping-default-clause-tells : goal.returns-in-Skipping-default-clause-tells
returns-in-Skipping-default-clause-tells c = skipped _ _ _ _ _ _ _ _ c.requires c.cut.ensures.front c.cut.ensures.behind c.in-Skipping-default.is-0

pub returns-in-Running-Nothing-clause-tells : goal.returns-in-Running-Nothing-clause-tells
returns-in-Running-Nothing-clause-tells c =
    ran _ _ _ _ _ _ _ _ c.requires c.cut.ensures.front c.cut.ensures.behind c.in-Running-Nothing.is-0 _ _ (sym c.in-Running-Nothing.is-1 ∙ c.read_word-word.ensures.0) refl
    ∙ simp c.in-Running-Nothing.is-0

pub returns-in-Running-Unknown-clause-tells : goal.returns-in-Running-Unknown-clause-tells
returns-in-Running-Unknown-clause-tells c =
    ran _ _ _ _ _ _ _ _ c.requires c.cut.ensures.front c.cut.ensures.behind c.in-Running-Unknown.is-0 _ _ (sym c.in-Running-Unknown.is-1 ∙ c.read_word-word.ensures.0) refl

pub returns-in-Running-Known-clause-tells : goal.returns-in-Running-Known-clause-tells
returns-in-Running-Known-clause-tells c =
    let r = c.args.self.now in
    let p = view r in
    let behind = c.cut.result.1.now in
    subst (λ (t : Tree). Went c.perform.result (record { stem = p.stem; mode = c.perform.new.self.mode; line = p.line + 1; made = made c.perform.new.self.entries; page = content c.perform.new.self.page; rest = behind }) t)
    (sym
    (ran p.stem p.mode (p.line + 1) p.made p.page p.rest _ behind c.requires c.cut.ensures.front c.cut.ensures.behind
    c.in-Running-Known.is-0 _ _ (sym c.in-Running-Known.is-1 ∙ c.read_word-word.ensures.0)
    (ap (filled p.stem) c.read_word-word.ensures.1)))
    (played p.stem behind (p.line + 1) r.work c.perform.new.self c.in-Running-Known.is-0 c.perform.result _ c.perform.ensures)
