use Rattle.std.proofs.Common.{◌≡◌, ◌++◌, map, take, drop}
use Rattle.two_copy.specs.Places.{refresh}
use Rattle.two_copy.proofs.two_copy.search.refresh_all.Given as goal

abbrev pub invariant-loop-p : goal.invariant-loop-p
invariant-loop-p l = l.places ≡ map (refresh l.old) (take l.p-index l.initial.places) ++ drop l.p-index l.initial.places
