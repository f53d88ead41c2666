-- The search for a target's script among laid files: the run that it opens, or why none begins.
use Rattle.std.specs.Prelude.{cond, List, [], ◌∷◌, is_some, Some, None, Option}
use Rattle.names.specs.Names.{Bytes}
use Rattle.faults.specs.declared.script_fault.ScriptFault.{ScriptFault}
use Rattle.faults.specs.declared.script_fault.ScriptFault.TheVariants.{Absent as NotThere, TooManyEntries}
use Rattle.script.specs.Tree.{Entries, entered, with_entry, full}
use Rattle.script.specs.Candidates.{Candidate}
use Rattle.script.specs.declared.entry.Kind.TheVariants.{Script, Absent}
use Rattle.clean.specs.Files.{Files}

pub data Opening : Type 0 where
  begins : Bytes → Bytes → Entries → Opening
  stops : ScriptFault → Opening

-- one candidate, by its file: `missed` is the search behind it
abbrev pub tried : Candidate → Option Bytes → Entries → Opening → Opening
tried c None es missed = missed
tried c (Some b) es missed = begins c.stem b (with_entry es Script c.script [])

abbrev pub opening : Files → List Candidate → Entries → Opening
opening laid [] es = stops NotThere
opening laid (c ∷ cs) es =
    let again = opening laid cs es in
    let missed = opening laid cs (with_entry es Absent c.script []) in
    let fresh = cond (full es) (stops TooManyEntries) (tried c (laid c.script) es missed) in
    cond (is_some (entered Absent c.script es)) again fresh
