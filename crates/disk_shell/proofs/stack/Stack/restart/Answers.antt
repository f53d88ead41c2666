use Rattle.std.proofs.Common.{subst}
use Rattle.disk_shell.specs.declared.stack.Stack.{Stack}
use Rattle.disk_shell.specs.Stacks.{Models}
use Rattle.disk_shell.proofs.stack.Stack.restart.Goals as goal

pub returns-in-Quota : goal.returns-in-Quota
returns-in-Quota c = λ m h. let e = c.cut_power-in-Quota.ensures m (subst (λ (p : Stack). Models p m) c.in-Quota.is h) in (e.0, (e.1.1.0, e.1.0))

pub returns-in-QuotaOverCache : goal.returns-in-QuotaOverCache
returns-in-QuotaOverCache c = λ m h. let e = c.cut_power-in-QuotaOverCache.ensures m (subst (λ (p : Stack). Models p m) c.in-QuotaOverCache.is h) in (e.0, (e.1.1.0, e.1.0))

pub returns-in-CacheOverQuota : goal.returns-in-CacheOverQuota
returns-in-CacheOverQuota c = λ m h. let e = c.cut_power-in-CacheOverQuota.ensures m (subst (λ (p : Stack). Models p m) c.in-CacheOverQuota.is h) in (e.0, (e.1.1.0, e.1.0))
