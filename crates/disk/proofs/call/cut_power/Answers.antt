use Rattle.disk.proofs.Steady.{restart_steady, restart_survived}
use Rattle.disk.proofs.call.cut_power.Goals as goal

pub returns : goal.returns
returns g c = λ m h.
    let e = c.restart.ensures m h in
    let n = e.0 in
    let r = e.1.0 in
    (n, (e.1.1, (r, (restart_survived m c.args.charge n r, restart_steady m c.args.charge n r (g.met.D.Disk.lawful c.args.disk.now m h)))))
