use Rattle.std.proofs.Common.{◌≡◌, ◌++◌, [], ◌∙◌, subst}
use Rattle.names.specs.Names.{Bytes}
use Rattle.script.specs.Candidates.{candidates}
use Rattle.script.specs.Searched.{to_come}
use Rattle.script.specs.declared.candidates.Candidates.{Candidates}
use Rattle.script.proofs.Stems.{parts, ends_told, no_target, all_candidates}
use Rattle.script.proofs.candidates.Candidates.new.Goals as goal

pub returns-then-ends_with : goal.returns-then-ends_with
returns-then-ends_with c =
    let t = c.as_bytes-target.result.now in
    subst (λ (n : Bytes). [] ≡ candidates n) c.as_bytes-target.ensures.value
    (no_target t (ends_told t c.ends_with.result c.ends_with.ensures.value ∙ c.if-ends_with.true))

pub returns : goal.returns
returns c =
    let t = c.as_bytes-target.result.now in
    let cs : Candidates = record { own = c.own_script.result; ending = c.ending_script.result; fallback = c.fallback_script.result } in
    subst (λ (n : Bytes). to_come n cs ≡ candidates n) c.as_bytes-target.ensures.value
    (parts t cs
    ∙ ((λ i. c.own_script.ensures i ++ (c.ending_script.ensures i ++ c.fallback_script.ensures i))
    ∙ all_candidates t (ends_told t c.ends_with.result c.ends_with.ensures.value ∙ c.if-ends_with.false)))
