use Rattle.std.proofs.Common.{◌≡◌, ◌++◌, map, take, drop}
use Rattle.disk.specs.Keys.{key_of}
use Rattle.layers.specs.Holds.{forgotten}
use Rattle.layers.proofs.cache.forget_all.Given as goal

abbrev pub invariant-loop-hold : goal.invariant-loop-hold
invariant-loop-hold l = l.holds ≡ map (forgotten (key_of l.key)) (take l.hold-index l.initial.holds) ++ drop l.hold-index l.initial.holds
