use Rattle.names.specs.Order.{names_ordered}
use Rattle.names.proofs.laws.laws.Goals as goal

pub returns-clause-total : goal.returns-clause-total
returns-clause-total c = names_ordered
