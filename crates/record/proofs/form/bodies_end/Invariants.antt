use Rattle.std.proofs.Common.{◌≡◌, map, drop}
use Rattle.record.specs.Read.{pair_in}
use Rattle.record.specs.Formed.{bodies_stand}
use Rattle.record.proofs.form.bodies_end.Given as goal

abbrev pub invariant-loop-pair : goal.invariant-loop-pair
invariant-loop-pair l = bodies_stand l.end (map pair_in (drop l.pair-index l.pairs)) l.bytes ≡ bodies_stand l.at (map pair_in l.pairs) l.bytes
