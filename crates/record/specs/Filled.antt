-- The bytes that a buffer holds.
use Rattle.names.specs.Names.{Bytes}
use Rattle.record.specs.declared.buffer.Buffer.{Buffer}

abbrev pub filled : Buffer → Bytes
filled b = b.bytes.items
