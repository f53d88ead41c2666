-- What holds of records as bytes.
use Rattle.std.specs.Prelude.{◌≡◌, ℕ, ◌^◌, ◌<◌, ◌≤◌, List, length, Some}
use Rattle.std.specs.List.{AllByRecursion}
use Rattle.names.specs.Names.{Bytes}
use Rattle.names.specs.Limits.{entries_max}
use Rattle.record.specs.Limits.{record_max}
use Rattle.record.specs.Entries.{EntryValue, Fitting}
use Rattle.record.specs.Written.{written}
use Rattle.record.specs.Read.{read}

-- a record can hold this stamp and these entries
pub record Writable (stamp : ℕ) (es : List EntryValue) : Type 0 where
  pub stamp_fits : stamp < 2 ^ 32
  pub some : 1 ≤ length es
  pub few : length es ≤ entries_max
  pub fitting : AllByRecursion Fitting es

-- what is written reads back as the same stamp and entries
abbrev pub ReadsBack : Type 0
ReadsBack = (stamp : ℕ) (es : List EntryValue) → Writable stamp es → read (written stamp es) ≡ Some (stamp, es)

-- bytes that read as a record are exactly the bytes that writing it gives
abbrev pub Exact : Type 0
Exact = (bs : Bytes) (stamp : ℕ) (es : List EntryValue) → read bs ≡ Some (stamp, es) → (written stamp es ≡ bs) × Writable stamp es

-- no record is longer than 985 bytes
abbrev pub Short : Type 0
Short = (stamp : ℕ) (es : List EntryValue) → Writable stamp es → length (written stamp es) ≤ record_max

-- and one is as long
abbrev pub Reached : Type 0
Reached = (stamp : ℕ) × (es : List EntryValue) × Writable stamp es × (length (written stamp es) ≡ record_max)
