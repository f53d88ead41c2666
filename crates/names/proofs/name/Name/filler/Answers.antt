use Rattle.std.proofs.Common.{refl, arith}
use Rattle.names.specs.Names.{is_name}
use Rattle.names.proofs.name.Name.filler.Goals as goal

pub invariant_of-result : goal.invariant_of-result
unfolding is_name
invariant_of-result c = record { short = omega arith; lawful = refl }
