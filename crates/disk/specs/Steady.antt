-- What no call and no restart changes.
use Rattle.std.specs.Prelude.{◌≡◌, ◌≤◌}
use Rattle.disk.specs.Keys.{KeyId}
use Rattle.disk.specs.DiskState.{DiskState, firm, shown, count}
use Rattle.disk.specs.Calls.{settled}
use Rattle.disk.specs.Lawful.{Lawful}

pub record Steady (m n : DiskState) : Type 0 where
  pub same_limit : n.limit ≡ m.limit
  pub within : count m ≤ m.limit → count n ≤ n.limit
  -- the count is the number of the used keys, each once
  pub lawful : Lawful n

-- what a restart from m to n leaves
pub record Survived (m n : DiskState) : Type 0 where
  pub firm_key : (k : KeyId) → (m.cells k).mark ≡ firm → shown n k ≡ shown m k
  -- where nothing came between the settle and the restart, every key shows what it showed before them
  pub settled_disk : (p : DiskState) → m.cells ≡ (settled p).cells → (k : KeyId) → shown n k ≡ shown p k
