-- Which bytes are a name.
use Rattle.std.specs.Prelude.{ℕ, Bool, true, false, not, ◌&&◌, ◌||◌, List, [], ◌∷◌, length, ◌==◌, nat_le}
use Rattle.names.specs.Limits.{name_max}

abbrev pub Bytes : Type 0
Bytes = List ℕ

abbrev pub dot : ℕ → Bool
dot b = b == 46

-- a to z, 0 to 9, underscore and hyphen
abbrev pub plain : ℕ → Bool
plain b = (nat_le 97 b && nat_le b 122) || ((nat_le 48 b && nat_le b 57) || (b == 95 || b == 45))

-- each byte may stand in a name
abbrev pub allowed : Bytes → Bool
allowed [] = true
allowed (b ∷ bs) = (plain b || dot b) && allowed bs

abbrev pub starts_with_dot : Bytes → Bool
starts_with_dot [] = false
starts_with_dot (b ∷ bs) = dot b

abbrev pub ends_with_dot : Bytes → Bool
ends_with_dot [] = false
ends_with_dot (b ∷ []) = dot b
ends_with_dot (a ∷ b ∷ bs) = ends_with_dot (b ∷ bs)

abbrev pub has_two_dots_in_a_row : Bytes → Bool
has_two_dots_in_a_row [] = false
has_two_dots_in_a_row (a ∷ []) = false
has_two_dots_in_a_row (a ∷ b ∷ bs) = (dot a && dot b) || has_two_dots_in_a_row (b ∷ bs)

-- 1 to 24 bytes from a to z, 0 to 9, dot, underscore and hyphen, with no dot at either end and no two dots in a row
unfoldable pub is_name : Bytes → Bool
is_name s =
    (nat_le 1 (length s) && nat_le (length s) name_max)
    && (not (starts_with_dot s) && (allowed s && (not (ends_with_dot s) && not (has_two_dots_in_a_row s))))
