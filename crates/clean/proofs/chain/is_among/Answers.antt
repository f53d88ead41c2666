use Rattle.std.proofs.Common.{◌∙◌}
use Rattle.names.specs.Spelled.{spelled}
use Rattle.clean.proofs.Chains.{any_among}
use Rattle.clean.proofs.chain.is_among.Goals as goal

pub returns : goal.returns
returns c = c.contains.ensures.value ∙ any_among (spelled c.args.name.now) c.args.targets.now
