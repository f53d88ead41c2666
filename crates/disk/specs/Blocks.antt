-- The bytes of a block.
use Rattle.std.specs.Prelude.{take, Some, None, Option}
use Rattle.names.specs.Names.{Bytes}
use Rattle.disk.specs.declared.block.Block.{Block}
use Rattle.disk.specs.DiskState.{Content}

abbrev pub bytes_of : Block → Bytes
bytes_of b = take b.len b.bytes

abbrev pub content_of : Option Block → Content
content_of None = None
content_of (Some b) = Some (bytes_of b)
