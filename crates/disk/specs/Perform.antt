-- One call as a value: its answer, the buffer lent to it, and the state after it.
use Rattle.std.specs.Prelude.{List, [], ◌∷◌}
use Rattle.names.specs.Names.{Bytes}
use Rattle.disk.specs.declared.call.Call.{Call}
use Rattle.disk.specs.declared.call.Call.TheVariants.{Count, IsUsed, Read, Store, Rename, Remove, Settle}
use Rattle.disk.specs.declared.call.Reply.{Reply}
use Rattle.disk.specs.declared.call.Reply.TheVariants.{Counted, Used, Length, Changed}
use Rattle.disk.specs.Keys.{key_of}
use Rattle.disk.specs.DiskState.{DiskState, used_at}
use Rattle.disk.specs.Calls.{counted, read, read_into, store, rename, remove, settle}

-- bs is what a store writes
abbrev pub reply : DiskState → Call → Bytes → Reply
reply m Count bs = Counted (counted m)
reply m (IsUsed k) bs = Used (used_at m (key_of k))
reply m (Read k) bs = Length (read m (key_of k))
reply m (Store k) bs = Changed (store m (key_of k) bs).0
reply m (Rename a b) bs = Changed (rename m (key_of a) (key_of b)).0
reply m (Remove k) bs = Changed (remove m (key_of k)).0
reply m Settle bs = Changed (settle m).0

abbrev pub after : DiskState → Call → Bytes → DiskState
after m Count bs = m
after m (IsUsed k) bs = m
after m (Read k) bs = m
after m (Store k) bs = (store m (key_of k) bs).1
after m (Rename a b) bs = (rename m (key_of a) (key_of b)).1
after m (Remove k) bs = (remove m (key_of k)).1
after m Settle bs = (settle m).1

-- what the buffer holds after the call: only a read writes into it
abbrev pub filled : DiskState → Call → Bytes → Bytes
filled m Count buf = buf
filled m (IsUsed k) buf = buf
filled m (Read k) buf = read_into m (key_of k) buf
filled m (Store k) buf = buf
filled m (Rename a b) buf = buf
filled m (Remove k) buf = buf
filled m Settle buf = buf

-- the answers to calls in a row, each with what it left in the buffer
abbrev pub replies : DiskState → Bytes → List (Call × Bytes) → List (Reply × Bytes)
replies m buf [] = []
replies m buf (c ∷ cs) = (reply m c.0 c.1, filled m c.0 buf) ∷ replies (after m c.0 c.1) (filled m c.0 buf) cs
