-- The words of a line: what single blanks divide.
use Rattle.std.specs.Prelude.{cond, [], ◌∷◌, Some, None, Option, ◌==◌}
use Rattle.std.specs.Borrow.{Bor}
use Rattle.names.specs.Names.{Bytes}
use Rattle.disk_shell.specs.declared.words.Words.{Words}

-- the bytes before the first blank
abbrev pub first_word : Bytes → Bytes
first_word [] = []
first_word (b ∷ bs) = cond (b == 32) [] (b ∷ first_word bs)

-- the bytes behind the first blank, if there is one
abbrev pub after_word : Bytes → Option Bytes
after_word [] = None
after_word (b ∷ bs) = cond (b == 32) (Some bs) (after_word bs)

abbrev pub bytes_in : Option (Bor Bytes) → Option Bytes
bytes_in None = None
bytes_in (Some r) = Some r.now

-- what is left of the line; nothing behind its last word
abbrev pub left : Words → Option Bytes
left w = bytes_in w.rest

abbrev pub word_of : Option Bytes → Option Bytes
word_of None = None
word_of (Some s) = Some (first_word s)

abbrev pub rest_of : Option Bytes → Option Bytes
rest_of None = None
rest_of (Some s) = after_word s
