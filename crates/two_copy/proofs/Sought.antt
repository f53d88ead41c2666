-- Where a key's place stands, and where there is room for it, as numbers: the number of places where there is none.
use Rattle.std.proofs.Common.{ℕ, suc, cond, List, [], ◌∷◌}
use Rattle.disk.specs.Keys.{KeyId}
use Rattle.two_copy.specs.declared.place.Place.{Place}
use Rattle.two_copy.specs.Places.{used_place, is_at, found}

abbrev pub seek : List Place → KeyId → ℕ
seek [] k = 0
seek (p ∷ ps) k = cond (is_at p k) 0 (suc (seek ps k))

abbrev pub vacant : List Place → ℕ
vacant [] = 0
vacant (p ∷ ps) = cond (used_place p) (suc (vacant ps)) 0

abbrev pub slot : List Place → KeyId → ℕ
slot ps k = cond (found ps k) (seek ps k) (vacant ps)
