-- The open targets, outermost first.
use Rattle.std.specs.Prelude.{List, map}
use Rattle.names.specs.Names.{Bytes}
use Rattle.names.specs.Spelled.{spelled}
use Rattle.clean.specs.declared.chain.Chain.{Chain}

abbrev pub opened : Chain → List Bytes
opened c = map spelled c.targets.items
