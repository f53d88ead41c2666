-- A record in plain words: its stamp, and then each entry behind a comma.
use Rattle.std.specs.Prelude.{ℕ, List, ◌++◌, codes, decimal}
use Rattle.std.specs.List.{flat_map}
use Rattle.names.specs.Names.{Bytes}
use Rattle.record.specs.Entries.{EntryValue}
use Rattle.record.specs.Words.{words}

abbrev pub entry_words : EntryValue → Bytes
entry_words e = codes ", " ++ words e

unfoldable pub record_words : ℕ → List EntryValue → Bytes
record_words stamp es = (codes "stamp " ++ decimal stamp) ++ flat_map entry_words es
