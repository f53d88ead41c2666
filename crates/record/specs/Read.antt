-- Which bytes are a record, and of what.
use Rattle.std.specs.Prelude.{ℕ, zero, suc, ◌+◌, ◌*◌, Bool, true, cond, ◌&&◌, List, [], ◌∷◌, map, length, take, drop, Some, None, Option, ◌==◌, nat_le, slice_index}
use Rattle.std.specs.Str.{bytes_eq}
use Rattle.names.specs.Names.{Bytes, is_name}
use Rattle.names.specs.Limits.{entries_max}
use Rattle.record.specs.Entries.{EntryValue}
use Rattle.record.specs.Written.{body, written}
use Rattle.record.specs.declared.entry.Kind.{Kind}
use Rattle.record.specs.declared.entry.Kind.TheVariants.{Script, Need, Absent}

-- the numbers at the front of the bytes
abbrev pub number_of_two : Bytes → ℕ
number_of_two bs = slice_index bs 0 + slice_index bs 1 * 256

abbrev pub number_of_four : Bytes → ℕ
number_of_four bs = slice_index bs 0 + slice_index bs 1 * 256 + slice_index bs 2 * 65536 + slice_index bs 3 * 16777216

-- the entry that a body would be
abbrev pub kind_from : ℕ → ℕ → Kind
kind_from k stamp = cond (k == 0) (Script stamp) (cond (k == 1) (Need stamp) Absent)

abbrev pub entry_from : Bytes → EntryValue
entry_from b = record {
  kind = kind_from (slice_index b 0) (number_of_four (drop 3 b));
  line = number_of_two (drop 1 b);
  name = drop 7 b;
}

-- a body is lawful if its name is, and the entry that it would be, written, gives the body back
unfoldable pub is_body : Bytes → Bool
is_body b = is_name (drop 7 b) && bytes_eq (body (entry_from b)) b

abbrev pub are_bodies : List Bytes → Bool
are_bodies [] = true
are_bodies (b ∷ bs) = is_body b && are_bodies bs

-- offset and length, as a pair stands at the front of the bytes
abbrev pub pair_in : Bytes → ℕ × ℕ
pair_in bs = (number_of_two bs, number_of_two (drop 2 bs))

-- the first n pairs of offset and length
abbrev pub pairs_from : ℕ → Bytes → List (ℕ × ℕ)
pairs_from zero bs = []
pairs_from (suc n) bs = pair_in bs ∷ pairs_from n (drop 4 bs)

-- the parts of the bytes that pairs of offset and length name
abbrev pub parts : List (ℕ × ℕ) → Bytes → List Bytes
parts ps bs = map (λ p. take p.1 (drop p.0 bs)) ps

-- the stamp, the number of entries and the entries that the bytes would be a record of, if they are one
abbrev pub count_in : Bytes → ℕ
count_in bs = slice_index bs 4

abbrev pub entries_in : Bytes → List EntryValue
entries_in bs = map entry_from (parts (pairs_from (count_in bs) (drop 5 bs)) bs)

abbrev pub names_lawful : List EntryValue → Bool
names_lawful [] = true
names_lawful (e ∷ es) = is_name e.name && names_lawful es

-- they are one if it has 1 to 28 entries with lawful names, and writing them gives the bytes back
unfoldable pub is_record : Bytes → Bool
is_record bs =
    (nat_le 1 (length (entries_in bs)) && nat_le (length (entries_in bs)) entries_max)
    && (names_lawful (entries_in bs) && bytes_eq (written (number_of_four bs) (entries_in bs)) bs)

unfoldable pub read : Bytes → Option (ℕ × List EntryValue)
read bs = cond (is_record bs) (Some (number_of_four bs, entries_in bs)) None
