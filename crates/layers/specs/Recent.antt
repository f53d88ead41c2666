-- The holds stand in the order of their last reads, the latest first.
use Rattle.std.specs.Prelude.{◌≡◌, ℕ, ◌+◌, Bool, false, cond, List, [], ◌∷◌, ◌++◌, take, drop, Some, None, Ok, Err, Option, Result, slice_index_or}
use Rattle.disk.specs.Keys.{KeyId, same_key, key_of}
use Rattle.disk.specs.declared.key.Key.{Key}
use Rattle.disk.specs.declared.refusal.Refusal.{Refusal}
use Rattle.layers.specs.declared.hold.Hold.{Hold}
use Rattle.layers.specs.Holds.{holds_max}

abbrev pub key_in : Option Key → Option KeyId
key_in None = None
key_in (Some k) = Some (key_of k)

-- the keys held; an emptied hold has none
abbrev pub keys_held : List Hold → List (Option KeyId)
keys_held [] = []
keys_held (h ∷ hs) = key_in h.key ∷ keys_held hs

abbrev pub names_key : Option KeyId → KeyId → Bool
names_key None k = false
names_key (Some j) k = same_key j k

-- the keys without the first that is k
abbrev pub other_keys : KeyId → List (Option KeyId) → List (Option KeyId)
other_keys k [] = []
other_keys k (j ∷ js) = cond (names_key j k) js (j ∷ other_keys k js)

-- after a read that gave bytes the key is the latest of the last four; any other read leaves the holds alone
abbrev pub Recent : Result (Option ℕ) Refusal → KeyId → List Hold → List Hold → Type 0
Recent (Ok (Some n)) k old new = keys_held new ≡ take holds_max (Some k ∷ other_keys k (keys_held old))
Recent (Ok None) k old new = new ≡ old
Recent (Err why) k old new = new ≡ old

-- the hold at i moved to the front
abbrev pub to_front : List Hold → ℕ → Hold → List Hold
to_front hs i d = slice_index_or hs i d ∷ (take i hs ++ drop (i + 1) hs)
