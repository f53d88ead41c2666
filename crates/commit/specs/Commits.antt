-- What it is to commit bytes to a key: they are stored in the draft, settled, and the draft is renamed to the key, which
-- is settled too.
use Rattle.std.specs.Prelude.{Ok, Err, Result}
use Rattle.names.specs.Names.{Bytes}
use Rattle.disk.specs.declared.refusal.Refusal.{Refusal}
use Rattle.disk.specs.declared.refusal.Refusal.TheVariants.{Dark, Long, Full, Same, Missing}
use Rattle.disk.specs.Keys.{KeyId, draft_key}
use Rattle.disk.specs.DiskState.{DiskState}
use Rattle.disk.specs.Calls.{Answer, store, rename, remove, settle}

-- a disk's word, whatever is given with it
abbrev pub answer_of : {A : Type 0} → Result A Refusal → Answer
answer_of (Ok a) = Ok tt
answer_of (Err why) = Err why

-- the next step, unless the one before was refused
abbrev pub after : Answer × DiskState → (DiskState → Answer × DiskState) → Answer × DiskState
after p next = elim p.0 [ Ok x ↦ next p.1 | Err why ↦ (Err why, p.1) ]

-- the draft is removed, and that is settled, as far as the charge goes
abbrev pub abandon : DiskState → Answer × DiskState
abandon m = after (remove m draft_key) settle

-- behind the rename; where that was refused as full, the draft is abandoned, and the answer stays full
abbrev pub placed : Answer → DiskState → Answer × DiskState
placed (Ok x) m = settle m
placed (Err Full) m = (Err Full, (abandon m).1)
placed (Err Dark) m = (Err Dark, m)
placed (Err Long) m = (Err Long, m)
placed (Err Same) m = (Err Same, m)
placed (Err Missing) m = (Err Missing, m)

-- the draft becomes the key
abbrev pub finish : DiskState → KeyId → Answer × DiskState
finish m k = after (settle m) (λ n. placed (rename n draft_key k).0 (rename n draft_key k).1)

abbrev pub commit : DiskState → KeyId → Bytes → Answer × DiskState
commit m k bs = after (store m draft_key bs) (λ n. finish n k)
