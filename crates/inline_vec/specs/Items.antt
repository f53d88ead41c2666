-- What a contract sees of a vector of a fixed capacity.
use Rattle.std.specs.Prelude.{List, refl}
use Rattle.std.specs.Coded.{Coded, code_by, coded×, coded_list}

-- the items, in order, and what lies in the free places, of which a clause says only that a refusal leaves it
pub record Items (T : Type 0) : Type 0 where
  pub items : List T
  pub spare : List T

-- a vector is stored as the two lists
abbrev pub items_code : {T : Type 0} → Coded T → Coded (Items T)
items_code {T} code =
    code_by (List T × List T) (coded× (coded_list code) (coded_list code)) (λ v. (v.items, v.spare)) (λ p. record { items = p.0; spare = p.1 }) (λ _. refl)
