-- The whole run of a target, from the search for its script on. It depends on the target's name alone.
use Rattle.std.specs.Prelude.{cond, List, [], ◌∷◌, is_some}
use Rattle.names.specs.Names.{Bytes}
use Rattle.faults.specs.declared.script_fault.ScriptFault.TheVariants.{Absent as NotThere}
use Rattle.script.specs.Lines.{lines}
use Rattle.script.specs.Tree.{Tree, stop, ask, Entries, entered, with_entry, full, unless_full, wanted_unless, run}
use Rattle.script.specs.Candidates.{Candidate, candidates}
use Rattle.script.specs.declared.word.Mode.TheVariants.{Running}
use Rattle.script.specs.declared.entry.Kind.TheVariants.{Script, Absent}

-- Each candidate is asked for, at line 0, until one is there: it is the script. Those missed are entered as absent, no
-- name twice. (The search of a target does not come to the end of its candidates.)
abbrev pub seeking : List Candidate → Entries → Tree
seeking [] es = stop NotThere 0
seeking (c ∷ cs) es =
    let again = seeking cs es in
    cond (is_some (entered Absent c.script es)) again
    (ask Script c.script 0 (unless_full (full es) 0 (seeking cs (with_entry es Absent c.script []))) (wanted_unless (full es))
    (λ b. run c.stem Running 1 (with_entry es Script c.script []) [] (lines b)))

abbrev pub whole_run : Bytes → Tree
whole_run t = seeking (candidates t) []
