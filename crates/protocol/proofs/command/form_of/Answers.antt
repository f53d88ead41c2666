use Rattle.std.proofs.Common.{rules, tests, refl, ap, ◌∙◌}
use Rattle.std.specs.Slice.Iter.{iter_rest}
use Rattle.std.proofs.lemmas.Iterator.Search.{find_from_yields_List}
use Rattle.std.proofs.lemmas.Iterator.{YieldsList-from_slice}
use Rattle.protocol.proofs.LookUps.{is_spelled, form_in, form_found}
use Rattle.protocol.proofs.command.form_of.Goals as goal

pub returns : goal.returns
returns c =
    let s = c.args.word.now in
    let ws = iter_rest c.iter.result in
    let e = find_from_yields_List (is_spelled s) _ _ c.find.result c.find.ensures.ran (YieldsList-from_slice ws refl) (λ x b q k. search (rules, tests)) in
    form_found s ws c.find.result c.map.result _ e c.map.ensures.cases (λ x f k. search rules) ∙ ap (form_in s) c.iter.ensures.rest
