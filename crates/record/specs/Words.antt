-- An entry in plain words: the kind, the name, the stamp where there is one, and the line.
use Rattle.std.specs.Prelude.{ℕ, ◌++◌, codes, decimal}
use Rattle.names.specs.Names.{Bytes}
use Rattle.record.specs.Entries.{EntryValue}
use Rattle.record.specs.declared.entry.Kind.{Kind}
use Rattle.record.specs.declared.entry.Kind.TheVariants.{Script, Need, Absent}

abbrev pub words_of : Kind → Bytes → ℕ → Bytes
words_of (Script s) n l = codes "script " ++ (n ++ (codes " stamp " ++ (decimal s ++ (codes " line " ++ decimal l))))
words_of (Need s) n l = codes "need " ++ (n ++ (codes " stamp " ++ (decimal s ++ (codes " line " ++ decimal l))))
words_of Absent n l = codes "absent " ++ (n ++ (codes " line " ++ decimal l))

abbrev pub words : EntryValue → Bytes
words e = words_of e.kind e.name e.line
