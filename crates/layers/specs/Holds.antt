-- The holds of a read cache, and what they are to say of the disk below.
use Rattle.std.specs.Prelude.{◌≡◌, ℕ, Bool, false, cond, ◌||◌, List, [], ◌∷◌, Some, None, Option}
use Rattle.std.specs.List.{position}
use Rattle.disk.specs.Keys.{KeyId, same_key, key_of}
use Rattle.disk.specs.DiskState.{DiskState, shown}
use Rattle.disk.specs.Blocks.{bytes_of}
use Rattle.disk.specs.declared.block.Block.{Block}
use Rattle.disk.specs.declared.key.Key.{Key}
use Rattle.layers.specs.declared.hold.Hold.{Hold}
use Rattle.layers.specs.declared.cache.ReadCache.{ReadCache}

-- how many holds a cache has
abbrev pub holds_max : ℕ
holds_max = 4

abbrev pub key_is : Option Key → KeyId → Bool
key_is None k = false
key_is (Some j) k = same_key (key_of j) k

abbrev pub is_for : Hold → KeyId → Bool
is_for h k = key_is h.key k

abbrev pub held : List Hold → KeyId → Bool
held [] k = false
held (h ∷ hs) k = is_for h k || held hs k

-- the first hold for the key
abbrev pub hold_of : List Hold → KeyId → Option ℕ
hold_of hs k = position (λ h. is_for h k) hs

-- a hold emptied, if it is for the key
abbrev pub forgotten : KeyId → Hold → Hold
forgotten k h = cond (is_for h k) (record { key = None; block = h.block }) h

-- a hold has what its key shows
abbrev pub Says : DiskState → Option Key → Block → Type 0
Says m None b = Unit {0}
Says m (Some k) b = shown m (key_of k) ≡ Some (bytes_of b)

abbrev pub Agree : DiskState → List Hold → Type 0
Agree m [] = Unit {0}
Agree m (h ∷ hs) = Says m h.key h.block × Agree m hs

-- m is a state of the disk below, and the holds say what it shows
abbrev pub Caches : {D : Type 0} → (D → DiskState → Type 0) → ReadCache D → DiskState → Type 0
Caches below c m = below c.below m × Agree m c.holds
