use Rattle.std.proofs.Common.{◌≡◌, ◌++◌, drop}
use Rattle.script.specs.Lines.{filled}
use Rattle.script.specs.Templates.{meant}
use Rattle.script.proofs.template.Template.fill.Given as goal

abbrev pub invariant-loop-b : goal.invariant-loop-b
invariant-loop-b g l = l.out.items ++ filled l.self.stem.now (drop l.b-index l.self.text.now) ≡ meant l.self
