-- The worked cases, as one statement.
use Rattle.worked.specs.Cases.{WorkedPages}
use Rattle.worked.specs.CruxRecord.{WorkedRecord}

abbrev pub Worked : Type 0
Worked = WorkedPages × WorkedRecord
