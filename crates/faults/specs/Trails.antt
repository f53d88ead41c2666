-- A trail: each open target with its line, innermost first.
use Rattle.std.specs.Prelude.{List, ◌∷◌, ◌++◌, map, ℕ, decimal}
use Rattle.names.specs.Names.{Bytes}
use Rattle.names.specs.Spelled.{spelled}
use Rattle.faults.specs.declared.frame.Frame.{Frame}
use Rattle.faults.specs.declared.trail.Trail.{Trail}

abbrev pub Steps : Type 0
Steps = List (Bytes × ℕ)

abbrev pub step : Frame → Bytes × ℕ
step f = (spelled f.target, f.line)

abbrev pub steps : Trail → Steps
steps t = map step t.frames.items

-- a frame as it is printed: the target and the line, with a colon between
abbrev pub frame_text : Bytes × ℕ → Bytes
frame_text f = f.0 ++ (58 ∷ decimal f.1)
