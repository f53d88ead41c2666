use Rattle.std.proofs.Common.{◌≡◌, ◌≤◌, length}
use Rattle.script.specs.View.{view, tree_of}
use Rattle.script.proofs.run.Run.next.Given as goal

abbrev pub invariant-loop-self : goal.invariant-loop-self
invariant-loop-self l = (tree_of (view l.initial.self) ≡ tree_of (view l.self)) × (length l.self.rest.now ≤ length l.initial.self.rest.now)

abbrev pub decreases-loop-self : goal.decreases-loop-self
decreases-loop-self l = length l.self.rest.now
