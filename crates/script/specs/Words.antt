-- The words of a script, and which word a line begins with.
use Rattle.std.specs.Prelude.{Bool, true, cond, List, [], ◌∷◌, codes, ◌==◌}
use Rattle.std.specs.Str.{bytes_eq}
use Rattle.names.specs.Names.{Bytes}
use Rattle.script.specs.Lines.{before, after, filled}
use Rattle.script.specs.declared.word.Word.{Word}
use Rattle.script.specs.declared.word.Word.TheVariants.{Need, IfCreate, IfHas, Say, Copy}
use Rattle.script.specs.declared.word.Rest.{Rest}
use Rattle.script.specs.declared.word.Rest.TheVariants.{Name, Text}
use Rattle.script.specs.declared.word.Spelled.{Spelled}
use Rattle.script.specs.declared.word.Spelled.TheVariants.{Nothing, Unknown, Known}

-- each word with its bytes and the form of its rest
abbrev pub table : List (Bytes × Word × Rest)
table =
    (codes "need", Need, Name)
    ∷ (codes "ifcreate", IfCreate, Name)
    ∷ (codes "ifhas", IfHas, Name)
    ∷ (codes "say", Say, Text)
    ∷ (codes "copy", Copy, Name)
    ∷ []

abbrev pub find : List (Bytes × Word × Rest) → Bytes → Spelled
find [] w = Unknown
find (r ∷ rs) w = cond (bytes_eq r.0 w) (Known r.1 r.2) (find rs w)

-- an empty line, or one that begins with `#`
abbrev pub idle : Bytes → Bool
idle [] = true
idle (b ∷ bs) = b == 35

-- the word that a line begins with: it ends at the first blank
abbrev pub spelled_by : Bytes → Spelled
spelled_by line = cond (idle line) Nothing (find table (before 32 line))

-- what follows that blank, with the stem in place of each `%`
abbrev pub rest_of : Bytes → Bytes → Bytes
rest_of stem line = filled stem (after 32 line)
