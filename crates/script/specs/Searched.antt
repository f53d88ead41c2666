-- The candidates in memory, by what they mean.
use Rattle.std.specs.Prelude.{◌≡◌, List, ◌++◌, map, length, take, Some, None, Option}
use Rattle.std.specs.Option.{option_to_list}
use Rattle.std.specs.Borrow.{Bor}
use Rattle.names.specs.Names.{Bytes}
use Rattle.names.specs.Spelled.{spelled}
use Rattle.script.specs.Candidates as spec
use Rattle.script.specs.declared.candidates.Candidate.{Candidate}
use Rattle.script.specs.declared.candidates.Candidates.{Candidates}

-- a candidate of the target t
abbrev pub candidate : Bytes → Candidate → spec.Candidate
candidate t c = record { script = spelled c.script; stem = take c.stem_len t }

abbrev pub listed : Bytes → Option Candidate → List spec.Candidate
listed t o = map (candidate t) (option_to_list o)

-- the two parts of a name around its last dot, the first of them its front
abbrev pub Parted : Option (Bor Bytes × Bor Bytes) → Bytes → Type 0
Parted None n = spec.cut_last n ≡ None
Parted (Some p) n = (spec.cut_last n ≡ Some (p.0.now, p.1.now)) × (take (length p.0.now) n ≡ p.0.now)

-- the candidates that are still to come, in memory and by what they mean
abbrev pub left : Candidates → List Candidate
left cs = option_to_list cs.own ++ (option_to_list cs.ending ++ option_to_list cs.fallback)

abbrev pub to_come : Bytes → Candidates → List spec.Candidate
to_come t cs = map (candidate t) (left cs)
