-- What a name is: a target if one of its candidates is laid, else a source if it is laid itself, else absent.
use Rattle.std.specs.Prelude.{Bool, true, false, cond, ◌||◌, List, [], ◌∷◌, is_some, Some, None, Option}
use Rattle.names.specs.Names.{Bytes}
use Rattle.script.specs.Candidates.{Candidate, candidates}
use Rattle.clean.specs.Files.{Files}

pub data Status : Type 0 where
  absent : Status
  source : Bytes → Status
  target : Status

abbrev pub any_laid : Files → List Candidate → Bool
any_laid laid [] = false
any_laid laid (c ∷ cs) = is_some (laid c.script) || any_laid laid cs

abbrev pub plain : Option Bytes → Status
plain None = absent
plain (Some b) = source b

unfoldable pub status : Files → Bytes → Status
status laid n = cond (any_laid laid (candidates n)) target (plain (laid n))

abbrev pub is_absent : Status → Bool
is_absent absent = true
is_absent (source b) = false
is_absent target = false
