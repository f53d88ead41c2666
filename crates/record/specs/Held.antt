-- The entries of a record that is being written.
use Rattle.std.specs.Prelude.{List, map}
use Rattle.names.specs.Names.{Bytes}
use Rattle.record.specs.Entries.{EntryValue}
use Rattle.record.specs.Read.{entry_from, parts}
use Rattle.record.specs.Filled.{filled}
use Rattle.record.specs.declared.writer.RecordWriter.{RecordWriter}

abbrev pub bodies_of : RecordWriter → List Bytes
bodies_of w = parts w.pairs.items (filled w.bodies)

unfoldable pub entries_of : RecordWriter → List EntryValue
entries_of w = map entry_from (bodies_of w)
