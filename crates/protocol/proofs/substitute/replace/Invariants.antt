use Rattle.std.proofs.Common.{◌≡◌, ◌++◌, map, take, drop}
use Rattle.protocol.specs.Substitutes.{replaced}
use Rattle.protocol.proofs.substitute.replace.Given as goal

abbrev pub invariant-loop-b : goal.invariant-loop-b
invariant-loop-b l = l.bytes ≡ map (replaced l.from l.to) (take l.b-index l.initial.bytes) ++ drop l.b-index l.initial.bytes
