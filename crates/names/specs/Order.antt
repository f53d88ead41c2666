-- Names are equal, and ordered, by their bytes.
use Rattle.std.specs.Prelude.{Bool}
use Rattle.std.specs.declared.cmp.Ordering.{Ordering}
use Rattle.std.specs.Cmp.{IsTotalOrder}
use Rattle.std.specs.Cmp.Lexicographic.{slice_cmp, on_texts}
use Rattle.std.specs.Str.{bytes_eq}
use Rattle.names.specs.Names.{Bytes}
use Rattle.names.specs.Spelled.{spelled}
use Rattle.names.specs.declared.name.Name.{Name}
use Rattle.std.specs.Ordering.{nat_cmp}

-- the first byte that differs decides, and else the shorter comes first
abbrev pub byte_order : Bytes → Bytes → Ordering
byte_order a b = slice_cmp nat_cmp a b

abbrev pub same_name : Name → Name → Bool
same_name a b = bytes_eq (spelled a) (spelled b)

abbrev pub name_order : Name → Name → Ordering
name_order a b = byte_order (spelled a) (spelled b)

-- the order is total, so that names are keys of a map
abbrev pub names_ordered : IsTotalOrder name_order
names_ordered = on_texts spelled
