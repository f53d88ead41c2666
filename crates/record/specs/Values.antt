-- The value of an entry of the code.
use Rattle.names.specs.Spelled.{spelled}
use Rattle.record.specs.Entries.{EntryValue}
use Rattle.record.specs.declared.entry.Entry.{Entry}

abbrev pub value_of : Entry → EntryValue
value_of e = record { kind = e.kind; line = e.line; name = spelled e.name }
