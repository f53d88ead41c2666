-- The record of the page `crux` of the worked cases: its stamp is 3, that of `crux.star` 1 and that of `crux.do` 2.
use Rattle.std.specs.Prelude.{◌≡◌, ℕ, cond, List, [], ◌∷◌, ◌++◌, map, Some, codes, ◌==◌}
use Rattle.std.specs.Str.{bytes_eq}
use Rattle.names.specs.Limits.{depth_max}
use Rattle.names.specs.Names.{Bytes}
use Rattle.clean.specs.Trace.{Question, questions}
use Rattle.record.specs.Entries.{EntryValue}
use Rattle.record.specs.Written.{written}
use Rattle.record.specs.Read.{read}
use Rattle.record.specs.declared.entry.Kind.{Kind}
use Rattle.record.specs.declared.entry.Kind.TheVariants.{Script, Need, Absent}
use Rattle.worked.specs.Cases.{crux}

abbrev pub stamp : Bytes → ℕ
stamp n = cond (bytes_eq n (codes "crux.star")) 1 2

-- what a run asked, as an entry: at line 0 it found its script
abbrev pub kind : Question → Kind
kind q = cond q.gone Absent (cond (q.line == 0) (Script (stamp q.name)) (Need (stamp q.name)))

abbrev pub entry : Question → EntryValue
entry q = record { kind = kind q; line = q.line; name = q.name }

abbrev pub crux_entries : List EntryValue
crux_entries = map entry (questions crux depth_max [] (codes "crux"))

abbrev pub crux_bytes : Bytes
crux_bytes =
    (3 ∷ 0 ∷ 0 ∷ 0 ∷ [])
    ++ ((3 ∷ [])
    ++ ((17 ∷ 0 ∷ 14 ∷ 0 ∷ [])
    ++ ((31 ∷ 0 ∷ 16 ∷ 0 ∷ [])
    ++ ((47 ∷ 0 ∷ 16 ∷ 0 ∷ [])
    ++ (((0 ∷ 0 ∷ 0 ∷ 2 ∷ 0 ∷ 0 ∷ 0 ∷ []) ++ codes "crux.do")
    ++ (((1 ∷ 1 ∷ 0 ∷ 1 ∷ 0 ∷ 0 ∷ 0 ∷ []) ++ codes "crux.star")
    ++ ((2 ∷ 3 ∷ 0 ∷ 0 ∷ 0 ∷ 0 ∷ 0 ∷ []) ++ codes "crux.note")))))))

abbrev pub WorkedRecord : Type 0
WorkedRecord = (written 3 crux_entries ≡ crux_bytes) × (read crux_bytes ≡ Some (3, crux_entries))
