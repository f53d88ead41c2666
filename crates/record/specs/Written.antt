-- The bytes of a record: its stamp, the number of its entries, a pair of offset and length for each, and the bodies.
-- Numbers are written lowest byte first.
use Rattle.std.specs.Prelude.{ℕ, ◌+◌, ◌*◌, ◌/◌, ◌%◌, List, [], ◌∷◌, ◌++◌, map, length}
use Rattle.names.specs.Names.{Bytes}
use Rattle.record.specs.Limits.{header_size, pair_size}
use Rattle.record.specs.Entries.{EntryValue, stamp_of}
use Rattle.record.specs.declared.entry.Kind.{Kind}
use Rattle.record.specs.declared.entry.Kind.TheVariants.{Script, Need, Absent}

abbrev pub two : ℕ → Bytes
two n = n % 256 ∷ n / 256 % 256 ∷ []

abbrev pub four : ℕ → Bytes
four n = n % 256 ∷ n / 256 % 256 ∷ n / 65536 % 256 ∷ n / 16777216 % 256 ∷ []

abbrev pub kind_byte : Kind → ℕ
kind_byte (Script s) = 0
kind_byte (Need s) = 1
kind_byte Absent = 2

-- what stands before the name: kind, line and stamp
abbrev pub head : EntryValue → Bytes
head e = kind_byte e.kind ∷ (two e.line ++ four (stamp_of e.kind))

abbrev pub body : EntryValue → Bytes
body e = head e ++ e.name

-- offset and length of each body, the first of which stands at `at`, each other where the one before it ends
abbrev pub pairs : ℕ → List Bytes → Bytes
pairs at [] = []
pairs at (b ∷ bs) = (two at ++ two (length b)) ++ pairs (at + length b) bs

abbrev pub joined : List Bytes → Bytes
joined [] = []
joined (b ∷ bs) = b ++ joined bs

-- what stands before the bodies
abbrev pub front_size : ℕ → ℕ
front_size n = header_size + pair_size * n

unfoldable pub written : ℕ → List EntryValue → Bytes
written stamp es =
    four stamp ++ (length es ∷ (pairs (front_size (length es)) (map body es) ++ joined (map body es)))
