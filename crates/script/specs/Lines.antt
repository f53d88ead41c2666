-- A text as lines, and a line as what stands before and behind its first blank.
use Rattle.std.specs.Prelude.{ℕ, cond, List, [], ◌∷◌, ◌++◌, ◌==◌}
use Rattle.names.specs.Names.{Bytes}

-- what stands before the first byte c, and behind it
abbrev pub before : ℕ → Bytes → Bytes
before c [] = []
before c (b ∷ bs) = cond (b == c) [] (b ∷ before c bs)

abbrev pub after : ℕ → Bytes → Bytes
after c [] = []
after c (b ∷ bs) = cond (b == c) bs (after c bs)

-- b in front of the first line
abbrev pub on_first : ℕ → List Bytes → List Bytes
on_first b [] = (b ∷ []) ∷ []
on_first b (l ∷ ls) = (b ∷ l) ∷ ls

-- the lines of a text: each ends at a byte 10, the last at the text's end if any bytes are left
abbrev pub lines : Bytes → List Bytes
lines [] = []
lines (b ∷ bs) = cond (b == 10) ([] ∷ lines bs) (on_first b (lines bs))

-- each `%` becomes the stem
abbrev pub piece : Bytes → ℕ → Bytes
piece stem b = cond (b == 37) stem (b ∷ [])

abbrev pub filled : Bytes → Bytes → Bytes
filled stem [] = []
filled stem (b ∷ bs) = piece stem b ++ filled stem bs
