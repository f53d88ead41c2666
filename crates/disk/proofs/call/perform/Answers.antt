use Rattle.disk.proofs.Steady.{call_steady}
use Rattle.disk.proofs.call.perform.Goals as goal

pub returns-clause-steady : goal.returns-clause-steady
returns-clause-steady g c = λ m h. call_steady m c.args.call.now c.args.bytes.now (g.met.D.Disk.lawful c.args.disk.now m h)
