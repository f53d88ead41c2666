use Rattle.std.proofs.Common.{◌≡◌, true, drop}
use Rattle.names.proofs.Scan.{scan}
use Rattle.names.proofs.judge.is_name.Given as goal

abbrev pub invariant-loop-b : goal.invariant-loop-b
invariant-loop-b l = scan l.after_dot (drop l.b-index l.bytes) ≡ scan true l.bytes
