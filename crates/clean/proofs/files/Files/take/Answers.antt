use Rattle.std.proofs.Common.{is_some, None, sym, ap, ◌∙◌}
use Rattle.std.specs.BTreeMap as tree
use Rattle.names.specs.Order.{name_order}
use Rattle.clean.specs.Files.{laid}
use Rattle.clean.proofs.Held.{held-put, held_get, some_there}
use Rattle.clean.proofs.files.Files.take.Goals as goal

pub returns-clause-value : goal.returns-clause-value
unfolding laid
returns-clause-value c =
    let m = c.args.self.now.map in
    let k = c.args.name.now in
    c.is_some.ensures ∙ (ap is_some c.remove.ensures.value ∙ (sym (some_there (tree.get name_order m k)) ∙ ap is_some (sym (held_get m k))))

pub returns-clause-after : goal.returns-clause-after
unfolding laid
returns-clause-after c = held-put c.args.self.now.map c.remove.new.self c.args.name.now None c.remove.ensures.updates.0
