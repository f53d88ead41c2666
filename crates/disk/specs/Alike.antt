-- States that differ at most in what their marks allow.
use Rattle.std.specs.Prelude.{◌≡◌}
use Rattle.disk.specs.Keys.{KeyId}
use Rattle.disk.specs.DiskState.{DiskState, is_firm, shown}

pub record Alike (m n : DiskState) : Type 0 where
  pub limits : m.limit ≡ n.limit
  pub charges : m.charge ≡ n.charge
  pub shows : (k : KeyId) → shown m k ≡ shown n k
  pub firms : (k : KeyId) → is_firm (m.cells k).mark ≡ is_firm (n.cells k).mark
