use Rattle.std.proofs.Common.{◌≡◌, ◌++◌, take, string_bytes, codes, decimal}
use Rattle.std.specs.List.{flat_map}
use Rattle.names.specs.Names.{Bytes}
use Rattle.record.specs.Read.{entries_in}
use Rattle.record.specs.Views.{Shows}
use Rattle.recordtext.specs.Words.{entry_words}
use Rattle.recordtext.proofs.words.describe.Given as goal

abbrev pub invariant-loop-entry : goal.invariant-loop-entry
invariant-loop-entry l =
    (l.entry-iterator.view ≡ l.initial.entry-iterator.view)
    × ((bs : Bytes) → Shows bs l.initial.entry-iterator.view → string_bytes l.text ≡ (codes "stamp " ++ decimal l.stamp) ++ flat_map entry_words (take l.entry-iterator.next (entries_in bs)))
