-- Numbers in decimal, without a leading zero.
use Rattle.std.specs.Prelude.{ℕ, ◌+◌, ◌-◌, ◌*◌, Bool, true, false, cond, not, ◌&&◌, [], ◌∷◌, Some, None, Option, ◌==◌, nat_le}
use Rattle.names.specs.Names.{Bytes}

abbrev pub digit : ℕ → Bool
digit b = nat_le 48 b && nat_le b 57

abbrev pub all_digits : Bytes → Bool
all_digits [] = true
all_digits (b ∷ bs) = digit b && all_digits bs

-- there is a first byte, and it is `0` only where it is the last too
abbrev pub starts_well : Bytes → Bool
starts_well [] = false
starts_well (b ∷ []) = true
starts_well (b ∷ c ∷ cs) = not (b == 48)

-- the number that the digits write behind those of n
abbrev pub value_behind : ℕ → Bytes → ℕ
value_behind n [] = n
value_behind n (b ∷ bs) = value_behind (n * 10 + (b - 48)) bs

abbrev pub within : ℕ → ℕ → Option ℕ
within most n = cond (nat_le n most) (Some n) None

-- the number up to `most` that the bytes write, if they write one
abbrev pub decimal_up_to : ℕ → Bytes → Option ℕ
decimal_up_to most bs = cond (starts_well bs && all_digits bs) (within most (value_behind 0 bs)) None

-- the numbers of a command are at most this
abbrev pub number_max : ℕ
number_max = 65535

abbrev pub number_of : Bytes → Option ℕ
number_of bs = decimal_up_to number_max bs
