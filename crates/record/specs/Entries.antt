-- An entry by its value: the name as its bytes.
use Rattle.std.specs.Prelude.{◌≡◌, ℕ, ◌^◌, ◌<◌, true}
use Rattle.names.specs.Names.{Bytes, is_name}
use Rattle.record.specs.declared.entry.Kind.{Kind}
use Rattle.record.specs.declared.entry.Kind.TheVariants.{Script, Need, Absent}

pub record EntryValue : Type 0 where
  pub kind : Kind
  pub line : ℕ
  pub name : Bytes

-- the stamp that a kind carries, 0 where it carries none
abbrev pub stamp_of : Kind → ℕ
stamp_of (Script s) = s
stamp_of (Need s) = s
stamp_of Absent = 0

-- what an entry has to be for a record to hold it: a lawful name, a line of two bytes, a stamp of four
pub record Fitting (e : EntryValue) : Type 0 where
  pub lawful : is_name e.name ≡ true
  pub line_fits : e.line < 2 ^ 16
  pub stamp_fits : stamp_of e.kind < 2 ^ 32
