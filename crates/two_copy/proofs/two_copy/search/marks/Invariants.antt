use Rattle.std.proofs.Common.{◌≡◌, take}
use Rattle.two_copy.specs.Masks.{mask}
use Rattle.two_copy.proofs.two_copy.search.marks.Given as goal

abbrev pub invariant-loop-i : goal.invariant-loop-i
invariant-loop-i l = l.marks ≡ mask (take l.i l.places)
