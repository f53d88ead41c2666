-- Keys by their kind and name, and the key that a value of the code stands for.
use Rattle.std.specs.Prelude.{ℕ, Bool, ◌&&◌, codes, ◌==◌}
use Rattle.std.specs.Str.{bytes_eq}
use Rattle.names.specs.Names.{Bytes}
use Rattle.names.specs.Spelled.{spelled}
use Rattle.disk.specs.declared.key.Key.{Key}
use Rattle.disk.specs.declared.key.Key.TheVariants.{Laid, Made, Record, Draft, Stamp}

pub record KeyId : Type 0 where
  pub kind : ℕ
  pub name : Bytes

abbrev pub same_key : KeyId → KeyId → Bool
same_key a b = a.kind == b.kind && bytes_eq a.name b.name

-- 0 holds laid files, 1 made pages, 2 records, 3 the draft, 4 the last stamp
abbrev pub kind_of : Key → ℕ
kind_of (Laid n) = 0
kind_of (Made n) = 1
kind_of (Record n) = 2
kind_of Draft = 3
kind_of Stamp = 4

-- kinds 3 and 4 have one name each
abbrev pub name_of : Key → Bytes
name_of (Laid n) = spelled n
name_of (Made n) = spelled n
name_of (Record n) = spelled n
name_of Draft = codes "draft"
name_of Stamp = codes "stamp"

abbrev pub key_of : Key → KeyId
key_of k = record { kind = kind_of k; name = name_of k }

-- the keys by their kinds
abbrev pub laid_key : Bytes → KeyId
laid_key n = record { kind = 0; name = n }

abbrev pub made_key : Bytes → KeyId
made_key n = record { kind = 1; name = n }

abbrev pub record_key : Bytes → KeyId
record_key n = record { kind = 2; name = n }

abbrev pub draft_key : KeyId
draft_key = record { kind = 3; name = codes "draft" }

abbrev pub stamp_key : KeyId
stamp_key = record { kind = 4; name = codes "stamp" }
