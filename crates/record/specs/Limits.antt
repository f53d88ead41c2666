-- The sizes of a record's parts. `src/limits.rt` has the same numbers for the code.
use Rattle.std.specs.Prelude.{ℕ, ◌+◌, ◌*◌}
use Rattle.names.specs.Limits.{name_max, entries_max}

-- the stamp and the number of entries
abbrev pub header_size : ℕ
header_size = 5

-- the offset and the length of one body
abbrev pub pair_size : ℕ
pair_size = 4

-- the kind, the line and the stamp of one entry, which stand before its name
abbrev pub head_size : ℕ
head_size = 7

-- the longest body
abbrev pub body_max : ℕ
body_max = head_size + name_max

-- the longest record
abbrev pub record_max : ℕ
record_max = header_size + entries_max * (pair_size + body_max)
