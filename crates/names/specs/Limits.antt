-- The limits of the subject, each in one place of the definitions. `src/limits.rt` has the same numbers for the code, but for
-- the charge, which is any number of 16 bits.
use Rattle.std.specs.Prelude.{ℕ}

-- the bytes of a name
abbrev pub name_max : ℕ
name_max = 24

-- the bytes of a page, and of a laid file
abbrev pub page_max : ℕ
page_max = 1020

-- the bytes that one key of a disk shows: a page behind its stamp
abbrev pub block_max : ℕ
block_max = 1024

-- the keys that a disk takes at most
abbrev pub keys_max : ℕ
keys_max = 64

-- the charge of a disk
abbrev pub charge_max : ℕ
charge_max = 65535

-- the last stamp that is drawn
abbrev pub stamp_max : ℕ
stamp_max = 1000000

-- the entries of one run
abbrev pub entries_max : ℕ
entries_max = 28

-- the targets that are open at once
abbrev pub depth_max : ℕ
depth_max = 8

-- the bytes of a console line
abbrev pub line_max : ℕ
line_max = 1100
