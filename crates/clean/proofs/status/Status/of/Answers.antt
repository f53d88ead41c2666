use Rattle.std.proofs.Common.{Bool, cond, ap, ◌∙◌}
use Rattle.names.specs.Spelled.{spelled}
use Rattle.clean.specs.Files.{laid}
use Rattle.clean.specs.Status.{target, plain, status}
use Rattle.clean.proofs.status.Status.of.Goals as goal

pub returns-then-has_script : goal.returns-then-has_script
unfolding status
returns-then-has_script c =
    ap (λ (b : Bool). cond b target (plain (laid c.args.files.now (spelled c.args.name.now)))) c.if-has_script.ensures

pub returns-in-Some : goal.returns-in-Some
unfolding status
returns-in-Some c =
    ap plain c.in-Some.ensures
    ∙ ap (λ (b : Bool). cond b target (plain (laid c.args.files.now (spelled c.args.name.now)))) c.if-has_script.ensures

pub returns-in-None : goal.returns-in-None
unfolding status
returns-in-None c =
    ap plain c.in-None.ensures
    ∙ ap (λ (b : Bool). cond b target (plain (laid c.args.files.now (spelled c.args.name.now)))) c.if-has_script.ensures
