-- A search among the open targets.
use Rattle.std.proofs.Common.{◌≡◌, ◌||◌, List, [], ◌∷◌, map, ap, refl}
use Rattle.std.specs.List.{list_any}
use Rattle.std.specs.Str.{bytes_eq}
use Rattle.names.specs.Names.{Bytes}
use Rattle.names.specs.Spelled.{spelled}
use Rattle.names.specs.declared.name.Name.{Name}
use Rattle.clean.specs.Evaluate.{member}

pub any_among : (n : Bytes) (ts : List Name) → list_any (λ t. bytes_eq (spelled t) n) ts ≡ member n (map spelled ts)
any_among n [] = refl
any_among n (t ∷ ts) = ap (λ b. bytes_eq (spelled t) n || b) (any_among n ts)
