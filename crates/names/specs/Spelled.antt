-- The bytes that a name stands for.
use Rattle.std.specs.Prelude.{take}
use Rattle.names.specs.Names.{Bytes}
use Rattle.names.specs.declared.name.Name.{Name}

abbrev pub spelled : Name → Bytes
spelled n = take n.len n.bytes
