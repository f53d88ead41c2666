use Rattle.std.proofs.Common.{◌≡◌, ◌+◌, ◌-◌, ◌*◌, length}
use Rattle.names.specs.Limits.{depth_max}
use Rattle.names.specs.Spelled.{spelled}
use Rattle.script.specs.View.{view, tree_of}
use Rattle.clean.specs.Answered.{finished}
use Rattle.clean.specs.Chains.{opened}
use Rattle.clean.specs.Files.{laid}
use Rattle.clean.proofs.evaluate.OpenTarget.+drive_evaluate_fetch_tell.Given as goal

abbrev pub decreases-fetch : goal.decreases-fetch
decreases-fetch l = 4 * (depth_max - length (opened l.self.now.chain))

abbrev pub decreases-tell : goal.decreases-tell
decreases-tell l = 4 * (depth_max - length (opened l.self.now.chain)) + 1

abbrev pub decreases-drive : goal.decreases-drive
decreases-drive l = 4 * (depth_max - length (opened l.self.now.chain)) + 2

abbrev pub decreases-evaluate : goal.decreases-evaluate
decreases-evaluate l = 4 * (depth_max - length (opened l.self.now.chain)) + 3

abbrev pub invariant-drive-loop-run : goal.invariant-drive-loop-run
invariant-drive-loop-run l =
    finished (laid l.self.files.now) (opened l.self.chain) (spelled l.self.target) (tree_of (view l.initial.run))
    ≡ finished (laid l.self.files.now) (opened l.self.chain) (spelled l.self.target) (tree_of (view l.run))

abbrev pub decreases-drive-loop-run : goal.decreases-drive-loop-run
decreases-drive-loop-run l = length l.run.rest.now
