use Rattle.std.proofs.Common.{subst}
use Rattle.disk_shell.specs.declared.stack.Stack.{Stack}
use Rattle.disk_shell.specs.Stacks.{Models}
use Rattle.disk_shell.proofs.stack.Stack.call.Goals as goal

pub returns-in-Quota : goal.returns-in-Quota
returns-in-Quota c = λ m h. c.perform-in-Quota.ensures.step m (subst (λ (p : Stack). Models p m) c.in-Quota.is h)

pub returns-in-QuotaOverCache : goal.returns-in-QuotaOverCache
returns-in-QuotaOverCache c = λ m h. c.perform-in-QuotaOverCache.ensures.step m (subst (λ (p : Stack). Models p m) c.in-QuotaOverCache.is h)

pub returns-in-CacheOverQuota : goal.returns-in-CacheOverQuota
returns-in-CacheOverQuota c = λ m h. c.perform-in-CacheOverQuota.ensures.step m (subst (λ (p : Stack). Models p m) c.in-CacheOverQuota.is h)
