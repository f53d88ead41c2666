-- The commands, and the lines that give them.
use Rattle.std.specs.Prelude.{ℕ, cond, List, [], ◌∷◌, Some, None, codes, Option, ◌==◌}
use Rattle.std.specs.Str.{bytes_eq}
use Rattle.names.specs.Names.{Bytes}
use Rattle.protocol.specs.Decimals.{number_of}
use Rattle.protocol.specs.declared.command.Form.{Form}
use Rattle.protocol.specs.declared.command.Form.TheVariants.{NameAndText, NameAlone, TwoNumbers}
use Rattle.protocol.specs.declared.command.Verb.{Verb}
use Rattle.protocol.specs.declared.command.Verb.TheVariants.{Take, Show, Build, Page}

pub data Request : Type 0 where
  lay : Bytes → Bytes → Request
  take : Bytes → Request
  show : Bytes → Request
  build : Bytes → Request
  page : Bytes → Request
  restart : ℕ → ℕ → Request

-- b in front of the first of two parts
abbrev pub in_front : ℕ → Option (Bytes × Bytes) → Option (Bytes × Bytes)
in_front b None = None
in_front b (Some p) = Some (b ∷ p.0, p.1)

-- what stands before the first blank, and all that stands behind it
abbrev pub divided : Bytes → Option (Bytes × Bytes)
divided [] = None
divided (b ∷ bs) = cond (b == 32) (Some ([], bs)) (in_front b (divided bs))

-- each word with the form of what follows it
abbrev pub words : List (Bytes × Form)
words =
    (codes "lay", NameAndText)
    ∷ (codes "take", NameAlone Take)
    ∷ (codes "show", NameAlone Show)
    ∷ (codes "build", NameAlone Build)
    ∷ (codes "page", NameAlone Page)
    ∷ (codes "restart", TwoNumbers)
    ∷ []

abbrev pub look_up : List (Bytes × Form) → Bytes → Option Form
look_up [] w = None
look_up (e ∷ es) w = cond (bytes_eq e.0 w) (Some e.1) (look_up es w)

abbrev pub form_of : Bytes → Option Form
form_of w = look_up words w

abbrev pub named : Verb → Bytes → Request
named Take n = take n
named Show n = show n
named Build n = build n
named Page n = page n

abbrev pub both_numbers : Option ℕ → Option ℕ → Option Request
both_numbers None p = None
both_numbers (Some c) None = None
both_numbers (Some c) (Some p) = Some (restart c p)

-- what follows the word, whole and as divided: a name's text may be missing, a name alone holds no blank, and there are two numbers
abbrev pub with_rest : Form → Bytes → Option (Bytes × Bytes) → Option Request
with_rest NameAndText rest None = Some (lay rest [])
with_rest NameAndText rest (Some p) = Some (lay p.0 p.1)
with_rest (NameAlone v) rest None = Some (named v rest)
with_rest (NameAlone v) rest (Some p) = None
with_rest TwoNumbers rest None = None
with_rest TwoNumbers rest (Some p) = both_numbers (number_of p.0) (number_of p.1)

abbrev pub with_form : Option Form → Bytes → Option Request
with_form None rest = None
with_form (Some f) rest = with_rest f rest (divided rest)

abbrev pub with_parts : Option (Bytes × Bytes) → Option Request
with_parts None = None
with_parts (Some p) = with_form (form_of p.0) p.1

-- the command that a line gives; a line of another form gives none
abbrev pub request_of : Bytes → Option Request
request_of line = with_parts (divided line)
