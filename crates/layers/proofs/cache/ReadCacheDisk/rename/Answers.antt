use Rattle.std.proofs.Common.{map}
use Rattle.disk.specs.Keys.{key_of}
use Rattle.disk.specs.Calls.{rename}
use Rattle.disk.proofs.Shown.{rename_other}
use Rattle.layers.specs.Holds.{forgotten}
use Rattle.layers.proofs.Agreed.{agree_forgotten, agree_off_two, silent_forgotten, silent_still}
use Rattle.layers.proofs.cache.ReadCacheDisk.rename.Goals as goal

pub returns-clause-value : goal.returns-clause-value
returns-clause-value g c = λ m h.
    let a = key_of c.args.from.now in
    let b = key_of c.args.to.now in
    let hs = c.args.self.now.holds in
    let e = c.rename.ensures m h.0 in
    let f = agree_off_two m (rename m a b).1 a b (map (forgotten b) (map (forgotten a) hs)) (silent_still a b _ (silent_forgotten a hs)) (silent_forgotten b _) (λ j n o. rename_other m j a b n o) (agree_forgotten m b _ (agree_forgotten m a hs h.1)) in
    (e.0, (e.1, rw (c.forget_all-2.ensures, c.forget_all.ensures) f))
