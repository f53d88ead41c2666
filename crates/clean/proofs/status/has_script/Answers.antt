use Rattle.std.proofs.Common.{rules, refl, true, false, tests, ap, ◌∙◌}
use Rattle.std.proofs.lemmas.Iterator.{cases_from_any}
use Rattle.std.proofs.lemmas.Iterator.Consumers.{YieldsList-from_first}
use Rattle.names.specs.Spelled.{spelled}
use Rattle.script.specs.Searched.{left}
use Rattle.clean.specs.Files.{laid}
use Rattle.clean.specs.Status.{any_laid}
use Rattle.clean.proofs.Scripted.{IsLaid, searched}
use Rattle.clean.proofs.status.has_script.Goals as goal

pub returns : goal.returns
returns c =
    let L = laid c.args.files.now in
    let t = spelled c.args.name.now in
    searched L t (left c.new.result) c.any.result
    (cases_from_any c.any.new.self _ _ (IsLaid L true) (IsLaid L false) c.any.ensures.ran (YieldsList-from_first (λ x. x) left (left c.new.result) refl)
    (λ x q k. search (rules, tests)) (λ x q k. search (rules, tests)))
    ∙ ap (any_laid L) c.new.ensures
