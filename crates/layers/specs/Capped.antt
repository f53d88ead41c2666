-- A disk with a lower limit.
use Rattle.std.specs.Prelude.{◌≡◌, ℕ, min, Bool, not, ◌&&◌, nat_le, nat_lt}
use Rattle.std.proofs.Math.Nat.{le_trans, min-le_left}
use Rattle.disk.specs.Keys.{KeyId}
use Rattle.disk.specs.DiskState.{DiskState, used_at, count}
use Rattle.disk.specs.Calls.{dark}
use Rattle.disk.specs.Lawful.{Lawful}

-- the state n with its limit lowered to the cap
abbrev pub capped : ℕ → DiskState → DiskState
capped cap n = record { limit = min n.limit cap; charge = n.charge; keys = n.keys; cells = n.cells }

-- a lower limit keeps a state lawful
pub capped_lawful : (cap : ℕ) (n : DiskState) → Lawful n → Lawful (capped cap n)
capped_lawful cap n l = record { once = l.once; listed = l.listed; few = le_trans (min-le_left n.limit cap) l.few; stays = l.stays; small = l.small }

-- m is worked out from a state of the disk below
abbrev pub Capped : (DiskState → Type 0) → ℕ → DiskState → Type 0
Capped below cap m = (n : DiskState) × (below n × (m ≡ capped cap n))

-- the key would be one too many for the cap, which is lower than the limit below; at charge 0 that is no reason yet
abbrev pub over : ℕ → DiskState → KeyId → Bool
over cap n k = not (dark n) && (nat_lt cap n.limit && (nat_le cap (count n) && not (used_at n k)))
