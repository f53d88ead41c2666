-- Every call and every restart keeps the limit and what the count counts.
use Rattle.std.proofs.Common.{◌≡◌, ℕ, ◌≤◌, true, false, not, ◌&&◌, ltb, leb, length, is_some, Some, None, refl, ap, ◌∙◌, subst, arith}
use Rattle.std.proofs.lemmas.Bool.{leb-false, not-false, cond-false}
use Rattle.names.specs.Limits.{block_max}
use Rattle.names.specs.Names.{Bytes}
use Rattle.disk.specs.declared.refusal.Refusal.TheVariants.{Dark, Long, Full, Same, Missing}
use Rattle.disk.specs.declared.call.Call.{Call}
use Rattle.disk.specs.declared.call.Call.TheVariants.{Count, IsUsed, Read, Store, Rename, Remove, Settle}
use Rattle.disk.specs.Keys.{KeyId, same_key, key_of}
use Rattle.disk.specs.DiskState.{Content, Mark, firm, loose, is_firm, Cell, used, DiskState, shown, used_at, count}
use Rattle.disk.specs.Calls.{Answer, dark, full, put, marked, store, rename, remove, settle}
use Rattle.disk.specs.Restart.{Allows, Restarted}
use Rattle.disk.specs.Lawful.{Lawful}
use Rattle.disk.specs.Perform.{after}
use Rattle.disk.specs.Steady.{Steady, Survived}
use Rattle.disk.proofs.Lists.{by_cases, length-keep}
use Rattle.disk.proofs.Shown.{other_sym}
use Rattle.disk.proofs.Unless.{unless_has}
use Rattle.disk.proofs.Kept.{store-lawful, remove-lawful, rename-lawful, settle-lawful, restarted_lawful}

-- the limit stays, and so does a count within it
abbrev Room : DiskState → DiskState → Type 0
Room m n = (n.limit ≡ m.limit) × (count m ≤ m.limit → count n ≤ n.limit)

put_room : (m : DiskState) (k : KeyId) (c : Cell) → full m k ≡ false → Room m (put m k c)
put_room m k c f = (
  refl,
  λ h. by_cases (used_at m k)
      (λ e. rw e h)
      (λ e. let l : leb m.limit (count m) ≡ false = rw e at f in let t = leb-false _ _ l in rw e (omega arith)),
)

-- a key that is used takes no new place
put-used : (m : DiskState) (k : KeyId) (c : Cell) → used_at m k ≡ true → count (put m k c) ≡ count m
put-used m k c e = rw e refl

module _ (m : DiskState) where
  abbrev Fine : Answer × DiskState → Type 0
  Fine p = Room m p.1

  stays : Room m m
  stays = (refl, λ h. h)

  store_room : (k : KeyId) (bs : Bytes) → Room m (store m k bs).1
  store_room k bs =
      unless_has Fine (dark m) Dark m _ stays (λ _.
      unless_has Fine (ltb block_max (length bs)) Long m _ stays (λ _.
      unless_has Fine (full m k) Full m _ stays (λ f. put_room m k (record { shows = Some bs; mark = loose }) f)))

  shown-used : (k : KeyId) → is_some (shown m k) ≡ true → used_at m k ≡ true
  shown-used k e = rw e refl

  remove_room : (k : KeyId) → Room m (remove m k).1
  remove_room k =
      unless_has Fine (dark m) Dark m _ stays (λ _.
      unless_has Fine (not (is_some (shown m k))) Missing m _ stays (λ n.
      let u = shown-used k (not-false _ n) in put_room m k (record { shows = None; mark = marked (is_firm (m.cells k).mark) (shown m k) None }) (rw u refl)))

  rename_room : (a b : KeyId) → Room m (rename m a b).1
  rename_room a b =
      let both = is_firm (m.cells a).mark && is_firm (m.cells b).mark in
      let cb : Cell = record { shows = shown m a; mark = marked both (shown m b) (shown m a) } in
      let ca : Cell = record { shows = None; mark = marked both (shown m a) None } in
      unless_has Fine (dark m) Dark m _ stays (λ _.
      unless_has Fine (same_key a b) Same m _ stays (λ s.
      unless_has Fine (not (is_some (shown m a))) Missing m _ stays (λ n.
      unless_has Fine (full m b) Full m _ stays (λ f.
      let u : used_at (put m b cb) a ≡ true =
      ap used (cond-false (same_key b a) cb (m.cells a) (other_sym a b s)) ∙ shown-used a (not-false _ n) in
      let e = put-used (put m b cb) a ca u in
      (refl, λ h. let r = (put_room m b cb f).1 h in omega (arith, e, r))))))

  settle_room : Room m (settle m).1
  settle_room = unless_has Fine (dark m) Dark m _ stays (λ _. (refl, λ h. omega (arith, length-keep (λ k. is_some (shown m k)) m.keys)))

steadied : (m n : DiskState) → Room m n → Lawful n → Steady m n
steadied m n r l = record { same_limit = r.0; within = r.1; lawful = l }

pub call_steady : (m : DiskState) (c : Call) (bs : Bytes) → Lawful m → Steady m (after m c bs)
call_steady m Count bs l = steadied m m (stays m) l
call_steady m (IsUsed k) bs l = steadied m m (stays m) l
call_steady m (Read k) bs l = steadied m m (stays m) l
call_steady m (Store k) bs l = steadied m _ (store_room m (key_of k) bs) (store-lawful m l (key_of k) bs)
call_steady m (Rename a b) bs l = steadied m _ (rename_room m (key_of a) (key_of b)) (rename-lawful m l (key_of a) (key_of b))
call_steady m (Remove k) bs l = steadied m _ (remove_room m (key_of k)) (remove-lawful m l (key_of k))
call_steady m Settle bs l = steadied m _ (settle_room m) (settle-lawful m l)

module _ (m : DiskState) (charge : ℕ) (n : DiskState) (r : Restarted m charge n) where
  pub restart_steady : Lawful m → Steady m n
  restart_steady l = steadied m n (r.same_limit, λ h. omega (arith, r.same_limit, ap length r.left, length-keep (λ k. is_some (shown n k)) m.keys)) (restarted_lawful m charge n l r)

  firm-stays : (c : Cell) (s : Content) → c.mark ≡ firm → Allows c s → s ≡ c.shows
  firm-stays c s e a = subst (λ (k : Mark). Allows (record { shows = c.shows; mark = k }) s) e a

  pub restart_survived : Survived m n
  restart_survived = record {
    firm_key = λ k e. firm-stays (m.cells k) (shown n k) e (r.allowed k);
    settled_disk = λ p e k.
        let c = ap (λ (f : KeyId → Cell). f k) e in
        firm-stays (m.cells k) (shown n k) (ap (λ (x : Cell). x.mark) c) (r.allowed k) ∙ ap (λ (x : Cell). x.shows) c;
  }
