-- The places of a two-copy disk: each keeps two contents of one key.
use Rattle.std.specs.Prelude.{ℕ, zero, suc, ◌/◌, min, Bool, true, false, cond, not, ◌&&◌, ◌||◌, List, [], ◌∷◌, is_some, None, Option}
use Rattle.std.specs.List.{position}
use Rattle.std.specs.Option.{option_or}
use Rattle.names.specs.Limits.{keys_max}
use Rattle.disk.specs.Keys.{KeyId, same_key, key_of}
use Rattle.disk.specs.DiskState.{Content}
use Rattle.disk.specs.Blocks.{content_of}
use Rattle.disk.specs.declared.key.Key.TheVariants.{Draft}
use Rattle.two_copy.specs.declared.place.Place.{Place}

-- the bytes of memory that one key is reckoned at
abbrev pub place_bytes : ℕ
place_bytes = 2100

-- the places that so many bytes of memory give
abbrev pub places_in : ℕ → ℕ
places_in bytes = min keys_max (bytes / place_bytes)

abbrev pub used_place : Place → Bool
used_place p = is_some p.present || not p.firm

-- a place that is not used
abbrev pub idle : Place
idle = record { key = Draft; settled = None; present = None; firm = true }

-- the place is used, and for the key
abbrev pub is_at : Place → KeyId → Bool
is_at p k = used_place p && same_key (key_of p.key) k

-- what is kept of a key: its content at the last settle or restart, its present one, and whether it is firm
pub record Copies : Type 0 where
  pub settled : Content
  pub present : Content
  pub firm : Bool

abbrev pub copies_at : Place → Copies
copies_at p = record { settled = content_of p.settled; present = content_of p.present; firm = p.firm }

abbrev pub copies : List Place → KeyId → Copies
copies [] k = record { settled = None; present = None; firm = true }
copies (p ∷ ps) k = cond (is_at p k) (copies_at p) (copies ps k)

abbrev pub found : List Place → KeyId → Bool
found [] k = false
found (p ∷ ps) k = is_at p k || found ps k

-- the first place for the key
abbrev pub place_of : List Place → KeyId → Option ℕ
place_of ps k = position (λ p. is_at p k) ps

-- the first place that is not used
abbrev pub vacancy_in : List Place → Option ℕ
vacancy_in ps = position (λ p. not (used_place p)) ps

-- the place for the key, or else one that is not used
abbrev pub room_for : List Place → KeyId → Option ℕ
room_for ps k = option_or (place_of ps k) (vacancy_in ps)

-- a place made firm, at its settled content (`old`) or at its present one
abbrev pub refresh : Bool → Place → Place
refresh old p = record { key = p.key; settled = cond old p.settled p.present; present = cond old p.settled p.present; firm = true }

-- no two used places are for one key
abbrev pub apart : List Place → Bool
apart [] = true
apart (p ∷ ps) = not (used_place p && found ps (key_of p.key)) && apart ps

-- a place that is not used keeps nothing
abbrev pub tidy : List Place → Bool
tidy [] = true
tidy (p ∷ ps) = (used_place p || not (is_some p.settled)) && tidy ps

-- the place i may be put to the key's use: it is not used or is the key's, and no other is the key's
abbrev pub fits : List Place → ℕ → KeyId → Bool
fits [] i k = false
fits (p ∷ ps) zero k = (not (used_place p) || same_key (key_of p.key) k) && not (found ps k)
fits (p ∷ ps) (suc i) k = not (is_at p k) && fits ps i k
