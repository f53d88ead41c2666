-- The bytes of a record that was written.
use Rattle.std.specs.Prelude.{◌≡◌, ℕ, ◌≤◌, List, length, Some}
use Rattle.names.specs.Names.{Bytes}
use Rattle.record.specs.Limits.{record_max}
use Rattle.record.specs.Entries.{EntryValue}
use Rattle.record.specs.Written.{written}
use Rattle.record.specs.Read.{read}
use Rattle.record.specs.Filled.{filled}
use Rattle.record.specs.declared.finished.Record.{Record}

abbrev pub bytes_of : Record → Bytes
bytes_of r = filled r.buffer

-- the bytes are those of a record with this stamp and these entries
pub record Records (stamp : ℕ) (es : List EntryValue) (bytes : Bytes) : Type 0 where
  pub exact : bytes ≡ written stamp es
  pub reads_back : read bytes ≡ Some (stamp, es)
  pub short : length bytes ≤ record_max
