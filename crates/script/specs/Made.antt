-- The entries that a run has made, by what they mean.
use Rattle.std.specs.Prelude.{List, map}
use Rattle.names.specs.Spelled.{spelled}
use Rattle.script.specs.Pages.{content}
use Rattle.script.specs.Tree.{Entered}
use Rattle.script.specs.declared.entry.Entry.{Entry}
use Rattle.script.specs.declared.entry.Entries.{Entries}

abbrev pub seen : Entry → Entered
seen e = record { kind = e.kind; name = spelled e.name; bytes = content e.bytes }

abbrev pub entries : Entries → List Entered
entries es = map seen es.made.items
