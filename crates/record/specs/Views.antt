-- What a view of a record shows.
use Rattle.std.specs.Prelude.{◌≡◌, ℕ, ◌+◌, ◌≤◌, Bool, cond, ◌&&◌, length, take, drop, Some, None, Option, nat_le, nat_lt}
use Rattle.names.specs.Names.{Bytes}
use Rattle.record.specs.Limits.{record_max}
use Rattle.record.specs.Entries.{EntryValue}
use Rattle.record.specs.Written.{front_size, written}
use Rattle.record.specs.Read.{entry_from, entries_in, is_body, read}
use Rattle.record.specs.Formed.{pair_at}
use Rattle.record.specs.declared.view.RecordView.{RecordView}

abbrev pub bytes_under : RecordView → Bytes
bytes_under v = v.bytes.now

-- the view is of these bytes, which are a record: they read as its stamp and entries, and are what writing those gives
pub record Shows (bs : Bytes) (v : RecordView) : Type 0 where
  pub same : bytes_under v ≡ bs
  pub count_is : v.count ≡ length (entries_in bs)
  pub reads : read bs ≡ Some (v.stamp, entries_in bs)
  pub exact : written v.stamp (entries_in bs) ≡ bs
  pub short : length bs ≤ record_max

-- the body that the i-th pair names, where the pair and the body lie within the bytes
abbrev pub part_at : Bytes → ℕ → Bytes
part_at bs i = take (pair_at bs i).1 (drop (pair_at bs i).0 bs)

abbrev pub has_part : Bytes → ℕ → Bool
has_part bs i = nat_le (front_size (i + 1)) (length bs) && nat_le ((pair_at bs i).0 + (pair_at bs i).1) (length bs)

-- the i-th entry, where it is there and lawful
unfoldable pub entry_at : RecordView → ℕ → Option EntryValue
entry_at v i =
    cond (nat_lt i v.count && (has_part (bytes_under v) i && is_body (part_at (bytes_under v) i))) (Some (entry_from (part_at (bytes_under v) i))) None
