-- The number of each fault of a script.
use Rattle.std.specs.Prelude.{ℕ}
use Rattle.faults.specs.declared.script_fault.ScriptFault.{ScriptFault}
use Rattle.faults.specs.declared.script_fault.ScriptFault.TheVariants.{UnknownWord, NotAName, Absent, Present, NotNeeded, Cycle, TooDeep, PageTooLong, TooManyEntries}

abbrev pub number : ScriptFault → ℕ
number UnknownWord = 11
number NotAName = 12
number Absent = 13
number Present = 14
number NotNeeded = 15
number Cycle = 16
number TooDeep = 17
number PageTooLong = 18
number TooManyEntries = 19
