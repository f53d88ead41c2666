use Rattle.std.proofs.Common.{◌≡◌, ℕ, max, sym, subst, arith}
use Rattle.disk.specs.DiskState.{DiskState, blank}
use Rattle.two_copy.specs.Places.{places_in}
use Rattle.layers.specs.Capped.{capped}
use Rattle.disk_shell.specs.declared.stack.Layers.{Layers}
use Rattle.disk_shell.specs.declared.stack.Stack.{Stack}
use Rattle.disk_shell.specs.declared.stack.Stack.TheVariants.{Quota, Cache, QuotaOverCache, CacheOverQuota}
use Rattle.disk_shell.specs.Stacks.{Models, start}
use Rattle.disk_shell.proofs.stack.Stack.new.Goals as goal

-- a stack that models the state that its layers start from, if those are the layers given
started : (p : Stack) (l k : Layers) (bytes charge : ℕ) → l ≡ k → Models p (start k bytes charge) → Models p (start l bytes charge)
started p l k bytes charge e h = subst (λ (z : Layers). Models p (start z bytes charge)) (sym e) h

-- no key is used yet, so that the cap is the quota's number
capped-blank : (P : DiskState → Type 0) (q : ℕ) (n : DiskState) → P (capped (max q 0) n) → P (capped q n)
capped-blank P q n h = let e : max q 0 ≡ q = omega arith in subst (λ (z : ℕ). P (capped z n)) e h

pub returns-in-Quota : goal.returns-in-Quota
returns-in-Quota c =
    let b = blank (places_in c.args.bytes) c.args.charge in
    let d = c.new-in-Quota.result in
    started (Quota d) _ _ c.args.bytes c.args.charge c.in-Quota.is
    (capped-blank (λ m. Models (Quota d) m) c.in-Quota.q b (c.new-in-Quota.ensures b c.in_ok-base.ensures))

pub returns-in-Cache : goal.returns-in-Cache
returns-in-Cache c =
    let b = blank (places_in c.args.bytes) c.args.charge in
    started (Cache c.new-in-Cache.result) _ _ c.args.bytes c.args.charge c.in-Cache.is (c.new-in-Cache.ensures b c.in_ok-base.ensures)

pub returns-in-QuotaOverCache : goal.returns-in-QuotaOverCache
returns-in-QuotaOverCache c =
    let b = blank (places_in c.args.bytes) c.args.charge in
    let d = c.new-in-QuotaOverCache-2.result in
    started (QuotaOverCache d) _ _ c.args.bytes c.args.charge c.in-QuotaOverCache.is
    (capped-blank (λ m. Models (QuotaOverCache d) m) c.in-QuotaOverCache.q b (c.new-in-QuotaOverCache-2.ensures b (c.new-in-QuotaOverCache.ensures b c.in_ok-base.ensures)))

pub returns-in-CacheOverQuota : goal.returns-in-CacheOverQuota
returns-in-CacheOverQuota c =
    let b = blank (places_in c.args.bytes) c.args.charge in
    let d = c.new-in-CacheOverQuota-2.result in
    started (CacheOverQuota d) _ _ c.args.bytes c.args.charge c.in-CacheOverQuota.is
    (capped-blank (λ m. Models (CacheOverQuota d) m) c.in-CacheOverQuota.q b (c.new-in-CacheOverQuota-2.ensures _ (c.new-in-CacheOverQuota.ensures b c.in_ok-base.ensures)))
