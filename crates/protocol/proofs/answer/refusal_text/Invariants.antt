use Rattle.std.proofs.Common.{◌≡◌, ◌++◌, map, take, string_bytes}
use Rattle.faults.specs.Trails.{step}
use Rattle.protocol.specs.Answers.{trail_text}
use Rattle.protocol.proofs.answer.refusal_text.Given as goal

abbrev pub invariant-loop-frame : goal.invariant-loop-frame
invariant-loop-frame l = string_bytes l.text ≡ string_bytes l.initial.text ++ trail_text (map step (take l.frame-index l.frame-items))
