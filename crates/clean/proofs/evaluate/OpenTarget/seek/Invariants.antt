use Rattle.std.proofs.Common.{◌≡◌, []}
use Rattle.names.specs.Spelled.{spelled}
use Rattle.script.specs.Candidates.{candidates}
use Rattle.script.specs.Made.{entries}
use Rattle.script.specs.Searched.{to_come}
use Rattle.clean.specs.Files.{laid}
use Rattle.clean.specs.Opening.{opening}
use Rattle.clean.proofs.evaluate.OpenTarget.seek.Given as goal

abbrev pub invariant-loop-script : goal.invariant-loop-script
invariant-loop-script l =
    opening (laid l.self.files.now) (to_come (spelled l.self.target) l.script-iterator) (entries l.entries)
    ≡ opening (laid l.self.files.now) (candidates (spelled l.self.target)) []
