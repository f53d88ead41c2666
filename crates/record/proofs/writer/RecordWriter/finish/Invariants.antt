use Rattle.std.proofs.Common.{◌≡◌, ◌+◌, ◌*◌, ◌∷◌, ◌++◌, length, take}
use Rattle.std.specs.List.{flat_map as JoinedBy}
use Rattle.record.specs.Written.{four, front_size}
use Rattle.record.specs.Filled.{filled}
use Rattle.record.proofs.Finishes.{pair}
use Rattle.record.proofs.writer.RecordWriter.finish.Given as goal

abbrev pub invariant-loop-offset : goal.invariant-loop-offset
invariant-loop-offset l =
    (filled l.out ≡ four l.stamp ++ (l.count ∷ JoinedBy (pair (front_size l.count)) (take l.offset-index l.self.pairs.items)))
    × (length (filled l.out) ≡ 5 + 4 * l.offset-index)
