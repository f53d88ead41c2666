-- What holds of every state that a disk means.
use Rattle.std.specs.Prelude.{◌≡◌, ◌≤◌, Bool, true, false, not, ◌&&◌, ◌||◌, List, [], ◌∷◌}
use Rattle.names.specs.Limits.{keys_max}
use Rattle.disk.specs.Keys.{KeyId, same_key}
use Rattle.disk.specs.DiskState.{Content, DiskState, used_at, shown}
use Rattle.disk.specs.Restart.{Small, Allows}

abbrev pub member : KeyId → List KeyId → Bool
member k [] = false
member k (j ∷ js) = same_key j k || member k js

abbrev pub distinct : List KeyId → Bool
distinct [] = true
distinct (k ∷ ks) = not (member k ks) && distinct ks

pub record Lawful (m : DiskState) : Type 0 where
  -- the keys of the list are those that are used, each once
  pub once : distinct m.keys ≡ true
  pub listed : (k : KeyId) → member k m.keys ≡ used_at m k
  pub few : m.limit ≤ keys_max
  -- a mark allows what its key shows, and nothing that does not fit
  pub stays : (k : KeyId) → Allows (m.cells k) (shown m k)
  pub small : (k : KeyId) (s : Content) → Allows (m.cells k) s → Small s
