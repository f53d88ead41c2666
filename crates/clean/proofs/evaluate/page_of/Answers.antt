use Rattle.std.proofs.Common.{◌≡◌, [], ◌∷◌, ◌++◌, take, ap, sym, ◌∙◌, rules}
use Rattle.names.specs.Limits.{depth_max}
use Rattle.names.specs.Spelled.{spelled}
use Rattle.clean.specs.Evaluate.{clean}
use Rattle.clean.specs.Files.{laid}
use Rattle.clean.specs.Told.{told}
use Rattle.clean.proofs.Drives.{asked_alone}
use Rattle.clean.proofs.evaluate.page_of.Goals as goal

pub returns-in-Target : goal.returns-in-Target
returns-in-Target c =
    let L = laid c.args.files.now in
    let n = c.in_ok-target.target in
    let e : spelled n ≡ c.args.name.now = search rules in
    c.evaluate.ensures
    ∙ asked_alone L (spelled n) _ n.lawful (sym c.of.ensures ∙ ap told c.in-Target.is)
    (c.with-chain.ensures ∙ ap (λ l. take depth_max (l ++ (spelled n ∷ []))) c.new-in-Target.ensures)
    ∙ ap (clean L) e
