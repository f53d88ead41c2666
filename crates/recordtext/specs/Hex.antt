-- Bytes as text, two hex digits for each.
use Rattle.std.specs.Prelude.{◌≡◌, ℕ, ◌+◌, ◌-◌, ◌*◌, ◌/◌, ◌%◌, ◌<◌, cond, ◌&&◌, [], ◌∷◌, Some, None, Option, nat_le, nat_lt}
use Rattle.std.specs.List.{AllByRecursion}
use Rattle.names.specs.Names.{Bytes}

-- 0 to 9, then a to f
abbrev pub digit : ℕ → ℕ
digit n = cond (nat_lt n 10) (48 + n) (87 + n)

abbrev pub hex_text : Bytes → Bytes
hex_text [] = []
hex_text (b ∷ bs) = digit (b / 16) ∷ digit (b % 16) ∷ hex_text bs

-- the number that a digit stands for
abbrev pub digit_value : ℕ → Option ℕ
digit_value c = cond (nat_le 48 c && nat_le c 57) (Some (c - 48)) (cond (nat_le 97 c && nat_le c 102) (Some (c - 87)) None)

-- the byte of two digits
abbrev pub byte_value : Option ℕ → Option ℕ → Option ℕ
byte_value (Some h) (Some l) = Some (16 * h + l)
byte_value (Some h) None = None
byte_value None l = None

abbrev pub with_byte : Option ℕ → Option Bytes → Option Bytes
with_byte (Some b) (Some bs) = Some (b ∷ bs)
with_byte (Some b) None = None
with_byte None bs = None

-- the bytes that a text of hex digits stands for, if it is one
abbrev pub hex_bytes : Bytes → Option Bytes
hex_bytes [] = Some []
hex_bytes (a ∷ []) = None
hex_bytes (a ∷ b ∷ cs) = with_byte (byte_value (digit_value a) (digit_value b)) (hex_bytes cs)

-- the text of bytes stands for those bytes
abbrev pub HexBack : Type 0
HexBack = (bs : Bytes) → AllByRecursion (λ b. b < 256) bs → hex_bytes (hex_text bs) ≡ Some bs
