-- What a call of the builder answers, with the state of the disk after it: refusals in their order, and the disk's own.
use Rattle.std.specs.Prelude.{Bool, cond, Ok, Err, Result}
use Rattle.faults.specs.declared.cause.Cause.{Cause}
use Rattle.faults.specs.declared.cause.Cause.TheVariants.{Disk}
use Rattle.disk.specs.DiskState.{DiskState}
use Rattle.disk.specs.Calls.{Answer}

abbrev pub Reply : Type 0 → Type 0
Reply A = Result A Cause × DiskState

-- refused for that reason, and nothing changed, if the test holds; otherwise what comes next
abbrev pub refuse : {A : Type 0} → Bool → Cause → DiskState → Reply A → Reply A
refuse b why m next = cond b (Err why, m) next

-- the next call, unless the one before was refused
abbrev pub bind : {A B : Type 0} → Reply A → (A → DiskState → Reply B) → Reply B
bind p next = elim p.0 [ Ok a ↦ next a p.1 | Err why ↦ (Err why, p.1) ]

-- the disk's own answer, passed on
abbrev pub passed : Answer → Result (Unit {0}) Cause
passed (Ok x) = Ok tt
passed (Err why) = Err (Disk why)

abbrev pub pass : Answer × DiskState → Reply (Unit {0})
pass p = (passed p.0, p.1)
