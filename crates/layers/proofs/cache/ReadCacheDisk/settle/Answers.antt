use Rattle.disk.specs.Calls.{settle}
use Rattle.disk.proofs.Shown.{settle-shown}
use Rattle.layers.proofs.Agreed.{agree_moved}
use Rattle.layers.proofs.cache.ReadCacheDisk.settle.Goals as goal

pub returns-clause-value : goal.returns-clause-value
returns-clause-value g c = λ m h.
    let e = c.settle.ensures m h.0 in
    (e.0, (e.1, agree_moved m (settle m).1 c.args.self.now.holds (λ k. settle-shown m k) h.1))
