-- The same lines, byte by byte as they are collected.
use Rattle.std.specs.Prelude.{ℕ, Bool, true, false, cond, List, [], ◌∷◌, ◌++◌, Some, None, ◌==◌}
use Rattle.names.specs.Names.{Bytes}
use Rattle.protocol.specs.Substitutes.{newline}
use Rattle.protocol.specs.InputLines.{Line, bounded}
use Rattle.protocol.specs.declared.line_buffer.LineBuffer.{LineBuffer}
use Rattle.protocol.specs.declared.line_buffer.Extent.{Extent}
use Rattle.protocol.specs.declared.line_buffer.Extent.TheVariants.{Within, Over}
use Rattle.protocol.specs.declared.line_buffer.Progress.TheVariants.{Open, Ended}

-- a line with one byte more
abbrev pub grown : Line → ℕ → Line
grown None b = None
grown (Some l) b = bounded (l ++ b ∷ [])

abbrev pub is_empty : Line → Bool
is_empty None = false
is_empty (Some []) = true
is_empty (Some (b ∷ bs)) = false

-- the lines that the bytes give, where l has been collected before them
abbrev pub lines_from : Line → Bytes → List Line
lines_from l [] = cond (is_empty l) [] (l ∷ [])
lines_from l (b ∷ bs) = cond (b == newline) (l ∷ lines_from (Some []) bs) (lines_from (grown l b) bs)

-- a line by its bytes, or none of them where it is over-long
abbrev pub line_of : Extent → Bytes → Line
line_of Within bs = Some bs
line_of Over bs = None

-- the line: ended, or as far as it has come
abbrev pub held : LineBuffer → Line
held s = line_of s.extent s.bytes.items

-- what the next byte joins
abbrev pub begun : LineBuffer → Line
begun s = elim s.progress [ Open ↦ held s | Ended ↦ Some [] ]

abbrev pub is_open : LineBuffer → Bool
is_open s = elim s.progress [ Open ↦ true | Ended ↦ false ]

-- the lines that a buffer will give of the bytes
abbrev pub to_come : LineBuffer → Bytes → List Line
to_come s bs = lines_from (begun s) bs
