use Rattle.std.proofs.Common.{◌≡◌, ◌≤◌, map, take}
use Rattle.names.specs.Limits.{page_max}
use Rattle.script.specs.Pages.{content}
use Rattle.protocol.specs.Substitutes.{newline, bar, replaced}
use Rattle.preview.proofs.session.decode.Given as goal

abbrev pub invariant-loop-b : goal.invariant-loop-b
invariant-loop-b l = (content l.page ≡ map (replaced bar newline) (take l.b-index l.text)) × (l.b-index ≤ page_max)
