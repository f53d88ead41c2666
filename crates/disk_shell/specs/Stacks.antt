-- What a stack means: each layer by the disk below it.
use Rattle.std.specs.Prelude.{ℕ}
use Rattle.disk.specs.DiskState.{DiskState, blank}
use Rattle.two_copy.specs.Places.{places_in}
use Rattle.two_copy.specs.Described.{Describes}
use Rattle.layers.specs.Capped.{capped, Capped}
use Rattle.layers.specs.Holds.{Caches}
use Rattle.disk_shell.specs.declared.stack.Layers.{Layers}
use Rattle.disk_shell.specs.declared.stack.Layers.TheVariants.{Bare as AsBare, Quota as AsQuota, Cache as AsCache, QuotaOverCache as AsQuotaOverCache, CacheOverQuota as AsCacheOverQuota}
use Rattle.disk_shell.specs.declared.stack.Stack.{Stack}
use Rattle.disk_shell.specs.declared.stack.Stack.TheVariants.{Bare, Quota, Cache, QuotaOverCache, CacheOverQuota}

abbrev pub Models : Stack → DiskState → Type 0
Models (Bare d) m = Describes d m
Models (Quota d) m = Capped (Describes d.below) d.cap m
Models (Cache d) m = Caches Describes d m
Models (QuotaOverCache d) m = Capped (Caches Describes d.below) d.cap m
Models (CacheOverQuota d) m = Caches (λ q. Capped (Describes q.below) q.cap) d m

-- how a stack begins: empty, and with as many keys as its quota leaves
abbrev pub start : Layers → ℕ → ℕ → DiskState
start AsBare bytes charge = blank (places_in bytes) charge
start (AsQuota q) bytes charge = capped q (blank (places_in bytes) charge)
start AsCache bytes charge = blank (places_in bytes) charge
start (AsQuotaOverCache q) bytes charge = capped q (blank (places_in bytes) charge)
start (AsCacheOverQuota q) bytes charge = capped q (blank (places_in bytes) charge)
