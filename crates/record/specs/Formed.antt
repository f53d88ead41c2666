-- The form of a record, as a reader goes through the bytes.
use Rattle.std.specs.Prelude.{ℕ, ◌+◌, Bool, ◌&&◌, List, [], ◌∷◌, length, take, drop, ◌==◌, nat_le}
use Rattle.names.specs.Names.{Bytes}
use Rattle.names.specs.Limits.{entries_max}
use Rattle.record.specs.Limits.{header_size}
use Rattle.record.specs.Written.{front_size}
use Rattle.record.specs.Read.{pair_in, count_in, pairs_from, is_body}

-- offset and length of the i-th body
abbrev pub pair_at : Bytes → ℕ → ℕ × ℕ
pair_at bs i = pair_in (drop (front_size i) bs)

-- the body that a pair names starts at `at`, lies within the bytes and is lawful
unfoldable pub body_stands : ℕ → ℕ × ℕ → Bytes → Bool
body_stands at p bs = (p.0 == at && nat_le (at + p.1) (length bs)) && is_body (take p.1 (drop p.0 bs))

-- the bodies stand one behind the other from `at` on, and the last ends the bytes
abbrev pub bodies_stand : ℕ → List (ℕ × ℕ) → Bytes → Bool
bodies_stand at [] bs = at == length bs
bodies_stand at (p ∷ ps) bs = body_stands at p bs && bodies_stand (at + p.1) ps bs

-- there are 1 to 28 entries, their pairs are there, and the bodies stand behind the last pair
abbrev pub well_formed : Bytes → Bool
well_formed bs =
    (nat_le header_size (length bs) && (nat_le 1 (count_in bs) && nat_le (count_in bs) entries_max))
    && (nat_le (front_size (count_in bs)) (length bs) && bodies_stand (front_size (count_in bs)) (pairs_from (count_in bs) (drop 5 bs)) bs)
