use Rattle.std.proofs.Common.{sym, ap, ◌∙◌}
use Rattle.std.specs.Option.{option_map}
use Rattle.script.specs.Pages.{content}
use Rattle.clean.specs.Files.{laid}
use Rattle.clean.proofs.Held.{held_get}
use Rattle.clean.proofs.files.Files.get.Goals as goal

pub returns : goal.returns
unfolding laid
returns c =
    ap (option_map content) (c.copied.ensures ∙ c.get.ensures.value) ∙ sym (held_get c.args.self.now.map c.args.name.now)
