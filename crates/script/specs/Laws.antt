-- A law of candidates.
use Rattle.std.specs.Prelude.{◌≡◌, ◌+◌, true, ◌++◌, length, Some, codes, nat_le}
use Rattle.names.specs.Limits.{name_max}
use Rattle.names.specs.Names.{Bytes, is_name}
use Rattle.script.specs.Candidates.{cut_last}

-- A name's candidates are skipped for their length alone, and what precedes the last dot of a name is a name.
abbrev pub CandidatesAreSkippedForLength : Type 0
CandidatesAreSkippedForLength =
    (t : Bytes) → is_name t ≡ true
    → (is_name (t ++ codes ".do") ≡ nat_le (length t + 3) name_max)
    × ((stem ending : Bytes) → cut_last t ≡ Some (stem, ending)
    → (is_name stem ≡ true) × (is_name (codes "default." ++ (ending ++ codes ".do")) ≡ nat_le (length ending + 11) name_max))
