-- What is answered to a line.
use Rattle.std.specs.Prelude.{◌≡◌, ℕ, Bool, true, false, ◌⊎◌, List, Some, None, codes, Option, ◌==◌, slice_index}
use Rattle.names.specs.Names.{Bytes}
use Rattle.record.specs.Entries.{EntryValue}
use Rattle.record.specs.Read.{read}
use Rattle.recordtext.specs.Hex.{hex_text, hex_bytes}
use Rattle.recordtext.specs.Words.{record_words}

-- the text is, byte for byte, what is told of the record that the bytes are
abbrev pub Tells : Bytes → Bytes → Type 0
Tells text bytes = (stamp : ℕ) × (es : List EntryValue) × (read bytes ≡ Some (stamp, es)) × (record_words stamp es ≡ text)

abbrev pub told : Option (ℕ × List EntryValue) → Bytes
told None = codes "no record"
told (Some r) = record_words r.0 r.1

-- to hex digits: the record that they are, in words
abbrev pub told_hex : Option Bytes → Bytes
told_hex None = codes "refused: not pairs of hex digits"
told_hex (Some bs) = told (read bs)

-- to a line of words: the hex digits of the record that it tells, or a refusal
abbrev pub Hexed : Bytes → Bytes → Type 0
Hexed line out = ((bytes : Bytes) × Tells line bytes × (out ≡ hex_text bytes)) ⊎ (out ≡ codes "refused: not a line of 1 to 28 entries")

-- a line of words begins with s, as no hex digit does
abbrev pub is_words : Bytes → Bool
is_words line = slice_index line 0 == 115

abbrev pub Answered : Bool → Bytes → Bytes → Type 0
Answered true line out = Hexed line out
Answered false line out = out ≡ told_hex (hex_bytes line)
