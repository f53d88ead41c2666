use Rattle.disk.specs.Keys.{key_of}
use Rattle.disk.specs.Calls.{remove}
use Rattle.disk.proofs.Shown.{remove_other}
use Rattle.layers.proofs.Agreed.{agree_dropped}
use Rattle.layers.proofs.cache.ReadCacheDisk.remove.Goals as goal

pub returns-clause-value : goal.returns-clause-value
returns-clause-value g c = λ m h.
    let k = key_of c.args.key.now in
    let e = c.remove.ensures m h.0 in
    (e.0, (e.1, rw c.forget_all.ensures (agree_dropped m (remove m k).1 k c.args.self.now.holds (λ j n. remove_other m j k n) h.1)))
