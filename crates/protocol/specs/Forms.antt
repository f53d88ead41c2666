-- The forms of a line, each by what it looks like.
use Rattle.std.specs.Prelude.{◌≡◌, ◌≤◌, Bool, true, not, ◌&&◌, ◌⊎◌, [], ◌∷◌, ◌++◌, codes, decimal, ◌==◌}
use Rattle.names.specs.Names.{Bytes}
use Rattle.protocol.specs.Decimals.{number_max}
use Rattle.protocol.specs.Commands.{Request, lay, take, show, build, page, restart}

abbrev pub no_blank : Bytes → Bool
no_blank [] = true
no_blank (b ∷ bs) = not (b == 32) && no_blank bs

-- the line is the word with its blank, and behind it a name without a blank
abbrev pub Behind : Bytes → Bytes → Bytes → Type 0
Behind line word name = (no_blank name ≡ true) × (line ≡ word ++ name)

-- the line gives this command
abbrev pub Gives : Bytes → Request → Type 0
Gives line (lay name text) =
    (no_blank name ≡ true) × ((line ≡ codes "lay " ++ (name ++ 32 ∷ text)) ⊎ ((text ≡ []) × (line ≡ codes "lay " ++ name)))
Gives line (take name) = Behind line (codes "take ") name
Gives line (show name) = Behind line (codes "show ") name
Gives line (build name) = Behind line (codes "build ") name
Gives line (page name) = Behind line (codes "page ") name
Gives line (restart charge pick) =
    (charge ≤ number_max) × (pick ≤ number_max) × (line ≡ codes "restart " ++ (decimal charge ++ 32 ∷ decimal pick))
