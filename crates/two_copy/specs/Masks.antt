-- The used places as one number.
use Rattle.std.specs.Prelude.{ℕ, ◌+◌, ◌*◌, cond, List, [], ◌∷◌}
use Rattle.two_copy.specs.declared.place.Place.{Place}
use Rattle.two_copy.specs.Places.{used_place}

-- a bit for each place, the first place lowest
abbrev pub mask : List Place → ℕ
mask [] = 0
mask (p ∷ ps) = 2 * mask ps + cond (used_place p) 1 0
