-- The lines of an input: each ends at a byte 10, and bytes behind the last one are a line if there are any.
use Rattle.std.specs.Prelude.{ℕ, cond, List, [], ◌∷◌, map, length, Some, None, Option, ◌==◌, nat_le}
use Rattle.names.specs.Limits.{line_max}
use Rattle.names.specs.Names.{Bytes}
use Rattle.protocol.specs.Substitutes.{newline}

-- b in front of the first line
abbrev pub on_first : ℕ → List Bytes → List Bytes
on_first b [] = (b ∷ []) ∷ []
on_first b (l ∷ ls) = (b ∷ l) ∷ ls

abbrev pub cut : Bytes → List Bytes
cut [] = []
cut (b ∷ bs) = cond (b == newline) ([] ∷ cut bs) (on_first b (cut bs))

-- a line by its bytes, or none of them where it is over-long
abbrev pub Line : Type 0
Line = Option Bytes

abbrev pub bounded : Bytes → Line
bounded l = cond (nat_le (length l) line_max) (Some l) None

abbrev pub input_lines : Bytes → List Line
input_lines bs = map bounded (cut bs)
