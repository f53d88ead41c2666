-- What a restart may leave: the only call whose outcome the state does not settle.
use Rattle.std.specs.Prelude.{◌≡◌, ℕ, ◌≤◌, ◌⊎◌, length, is_some, Some, None}
use Rattle.names.specs.Limits.{block_max}
use Rattle.disk.specs.Keys.{KeyId}
use Rattle.disk.specs.DiskState.{Content, firm, either, loose, Cell, DiskState, shown}
use Rattle.disk.specs.Calls.{keep}

-- nothing, or bytes that fit a key
abbrev pub Small : Content → Type 0
Small None = Unit {0}
Small (Some bs) = length bs ≤ block_max

-- the contents that the mark of a cell allows
abbrev pub Allows : Cell → Content → Type 0
Allows c s = elim c.mark [ firm ↦ s ≡ c.shows | either a b ↦ (s ≡ a) ⊎ (s ≡ b) | loose ↦ Small s ]

-- n is what m may be after a restart at that charge
pub record Restarted (m : DiskState) (charge : ℕ) (n : DiskState) : Type 0 where
  pub same_limit : n.limit ≡ m.limit
  pub given : n.charge ≡ charge
  pub allowed : (k : KeyId) → Allows (m.cells k) (shown n k)
  pub all_firm : (k : KeyId) → (n.cells k).mark ≡ firm
  pub left : n.keys ≡ keep (λ k. is_some (shown n k)) m.keys
