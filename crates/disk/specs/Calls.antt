-- What each call answers, and the state after it.
use Rattle.std.specs.Prelude.{ℕ, ◌-◌, ◌≤◌, Bool, cond, not, ◌&&◌, List, [], ◌∷◌, ◌++◌, length, drop, is_some, Some, None, Ok, Err, Option, Result, ◌==◌, nat_le, nat_lt}
use Rattle.names.specs.Limits.{block_max}
use Rattle.names.specs.Names.{Bytes}
use Rattle.disk.specs.Keys.{KeyId, same_key}
use Rattle.disk.specs.DiskState.{Content, Mark, firm, either, loose, is_firm, Cell, DiskState, shown, used_at, count}
use Rattle.disk.specs.declared.refusal.Refusal.{Refusal}
use Rattle.disk.specs.declared.refusal.Refusal.TheVariants.{Dark, Long, Full, Same, Missing}
use Rattle.disk.specs.declared.refusal.Count.{Count}

abbrev pub dark : DiskState → Bool
dark m = m.charge == 0

-- the key is not used, and as many keys are as may be
abbrev pub full : DiskState → KeyId → Bool
full m k = not (used_at m k) && nat_le m.limit (count m)

abbrev pub Answer : Type 0
Answer = Result Unit Refusal

-- refused for that reason, and nothing changed, if the test holds; otherwise what comes next
abbrev pub unless : Bool → Refusal → DiskState → Answer × DiskState → Answer × DiskState
unless b why m next = cond b (Err why, m) next

-- one charge less
abbrev pub spent : DiskState → DiskState
spent m = record { limit = m.limit; charge = m.charge - 1; keys = m.keys; cells = m.cells }

abbrev pub done : DiskState → Answer × DiskState
done m = (Ok tt, spent m)

-- the cell c, which is used, at the key k
abbrev pub put : DiskState → KeyId → Cell → DiskState
put m k c = record {
  limit = m.limit;
  charge = m.charge;
  keys = cond (used_at m k) m.keys (k ∷ m.keys);
  cells = λ j. cond (same_key k j) c (m.cells j);
}

-- how long the key's bytes are, if it shows any
abbrev pub read : DiskState → KeyId → Result (Option ℕ) Refusal
read m k = cond (dark m) (Err Dark) (elim (shown m k) [ None ↦ Ok None | Some bs ↦ Ok (Some (length bs)) ])

-- what a buffer holds after a read into it
abbrev pub read_into : DiskState → KeyId → Bytes → Bytes
read_into m k buf = cond (dark m) buf (elim (shown m k) [ None ↦ buf | Some bs ↦ bs ++ drop (length bs) buf ])

abbrev pub store : DiskState → KeyId → Bytes → Answer × DiskState
store m k bs =
    unless (dark m) Dark m
    (unless (nat_lt block_max (length bs)) Long m
    (unless (full m k) Full m
    (done (put m k (record { shows = Some bs; mark = loose })))))

-- the mark after a change from the old content to the new one
abbrev pub marked : Bool → Content → Content → Mark
marked was_firm old new = cond was_firm (either old new) loose

abbrev pub renamed : DiskState → KeyId → KeyId → DiskState
renamed m a b =
    let both = is_firm (m.cells a).mark && is_firm (m.cells b).mark in
    put (put m b (record { shows = shown m a; mark = marked both (shown m b) (shown m a) }))
    a (record { shows = None; mark = marked both (shown m a) None })

abbrev pub rename : DiskState → KeyId → KeyId → Answer × DiskState
rename m a b =
    unless (dark m) Dark m
    (unless (same_key a b) Same m
    (unless (not (is_some (shown m a))) Missing m
    (unless (full m b) Full m
    (done (renamed m a b)))))

abbrev pub removed : DiskState → KeyId → DiskState
removed m a = put m a (record { shows = None; mark = marked (is_firm (m.cells a).mark) (shown m a) None })

abbrev pub remove : DiskState → KeyId → Answer × DiskState
remove m a =
    unless (dark m) Dark m
    (unless (not (is_some (shown m a))) Missing m
    (done (removed m a)))

abbrev pub keep : (KeyId → Bool) → List KeyId → List KeyId
keep p [] = []
keep p (k ∷ ks) = cond (p k) (k ∷ keep p ks) (keep p ks)

-- every key firm at what it shows
abbrev pub settled : DiskState → DiskState
settled m = record {
  limit = m.limit;
  charge = m.charge;
  keys = keep (λ k. is_some (shown m k)) m.keys;
  cells = λ k. record { shows = shown m k; mark = firm };
}

abbrev pub settle : DiskState → Answer × DiskState
settle m = unless (dark m) Dark m (done (settled m))

abbrev pub counted : DiskState → Count
counted m = record { limit = m.limit; used = count m; charge = m.charge }

-- no read gives more bytes than a key has, whatever the disk means
abbrev pub Within : Result (Option ℕ) Refusal → Type 0
Within (Ok None) = Unit {0}
Within (Ok (Some n)) = n ≤ block_max
Within (Err why) = Unit {0}
