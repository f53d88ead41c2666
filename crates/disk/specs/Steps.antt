-- What a call of a disk does, by the states that describe the disk before and after it.
use Rattle.std.specs.Prelude.{◌≡◌, ℕ, Option, Result}
use Rattle.names.specs.Names.{Bytes}
use Rattle.disk.specs.declared.call.Call.{Call}
use Rattle.disk.specs.declared.call.Reply.{Reply}
use Rattle.disk.specs.declared.refusal.Refusal.{Refusal}
use Rattle.disk.specs.Keys.{KeyId}
use Rattle.disk.specs.DiskState.{DiskState}
use Rattle.disk.specs.Calls.{read, read_into}
use Rattle.disk.specs.Restart.{Restarted}
use Rattle.disk.specs.Perform.{reply, after, filled}

-- the answer, and a state that describes the disk after, as the step says of any state that described it before
abbrev pub Performs : {S R : Type 0} → (S → DiskState → Type 0) → S → S → R → (DiskState → R × DiskState) → Type 0
Performs models old new answer step = (m : DiskState) → models old m → (answer ≡ (step m).0) × models new (step m).1

-- the answer to a read of the key, and what the buffer holds after it
abbrev pub ReadsKey : {S : Type 0} → (S → DiskState → Type 0) → S → S → KeyId → Result (Option ℕ) Refusal → Bytes → Bytes → Type 0
ReadsKey models old new k answer before buf = (m : DiskState) → models old m → (answer ≡ read m k) × ((buf ≡ read_into m k before) × models new m)

-- the reply to a call, as a value, and what the buffer holds after it
abbrev pub Replies : {S : Type 0} → (S → DiskState → Type 0) → S → S → Call → Bytes → Reply → Bytes → Bytes → Type 0
Replies models old new call bs answer before buf = (m : DiskState) → models old m → (answer ≡ reply m call bs) × ((buf ≡ filled m call before) × models new (after m call bs))

-- some state that a restart at that charge may leave describes the disk after
abbrev pub Restarts : {S : Type 0} → (S → DiskState → Type 0) → S → S → ℕ → Type 0
Restarts models old new charge = (m : DiskState) → models old m → ((n : DiskState) × (Restarted m charge n × models new n))
