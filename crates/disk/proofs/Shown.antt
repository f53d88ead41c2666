-- What the keys show after a call, and what a read says of them.
use Rattle.std.proofs.Common.{◌≡◌, ℕ, Bool, true, false, not, ◌&&◌, ltb, ◌++◌, length, drop, is_some, Some, None, Ok, Err, Option, Result, refl, ap, ◌∙◌, arith}
use Rattle.disk.specs.declared.refusal.Refusal.{Refusal}
use Rattle.disk.specs.declared.refusal.Refusal.TheVariants.{Dark, Long, Full, Same, Missing}
use Rattle.names.specs.Limits.{block_max}
use Rattle.names.specs.Names.{Bytes}
use Rattle.disk.specs.Keys.{KeyId, same_key}
use Rattle.disk.specs.DiskState.{Content, is_firm, Cell, DiskState, shown}
use Rattle.disk.specs.Calls.{Answer, dark, full, put, marked, store, rename, remove, settle, read, read_into}
use Rattle.disk.proofs.Lists.{by_cases, same_key_sym}
use Rattle.disk.proofs.Unless.{unless_has}
use Rattle.std.proofs.lemmas.Bool.{both_ways, cond-true, cond-false}

pub other_sym : (a b : KeyId) → same_key a b ≡ false → same_key b a ≡ false
other_sym a b h = by_cases (same_key b a) (λ e. absurd (both_ways _ h (same_key_sym b a e))) (λ e. e)

pub put_other : (m : DiskState) (k j : KeyId) (c : Cell) → same_key k j ≡ false → shown (put m k c) j ≡ shown m j
put_other m k j c n = ap (λ (x : Cell). x.shows) (cond-false (same_key k j) c (m.cells j) n)

pub put_same : (m : DiskState) (k j : KeyId) (c : Cell) → same_key k j ≡ true → shown (put m k c) j ≡ c.shows
put_same m k j c n = ap (λ (x : Cell). x.shows) (cond-true (same_key k j) c (m.cells j) n)

module _ (m : DiskState) (j : KeyId) where
  abbrev SameShown : Answer × DiskState → Type 0
  SameShown p = shown p.1 j ≡ shown m j

  pub settle-shown : shown (settle m).1 j ≡ shown m j
  settle-shown = unless_has SameShown (dark m) Dark m _ refl (λ _. refl)

  pub store_other : (k : KeyId) (bs : Bytes) → same_key k j ≡ false → shown (store m k bs).1 j ≡ shown m j
  store_other k bs n =
      unless_has SameShown (dark m) Dark m _ refl (λ _.
      unless_has SameShown (ltb block_max (length bs)) Long m _ refl (λ _.
      unless_has SameShown (full m k) Full m _ refl (λ _. put_other m k j _ n)))

  pub remove_other : (k : KeyId) → same_key k j ≡ false → shown (remove m k).1 j ≡ shown m j
  remove_other k n =
      unless_has SameShown (dark m) Dark m _ refl (λ _.
      unless_has SameShown (not (is_some (shown m k))) Missing m _ refl (λ _. put_other m k j _ n))

  pub rename_other : (a b : KeyId) → same_key a j ≡ false → same_key b j ≡ false → shown (rename m a b).1 j ≡ shown m j
  rename_other a b n o =
      let both = is_firm (m.cells a).mark && is_firm (m.cells b).mark in
      let cb : Cell = record { shows = shown m a; mark = marked both (shown m b) (shown m a) } in
      let ca : Cell = record { shows = None; mark = marked both (shown m a) None } in
      unless_has SameShown (dark m) Dark m _ refl (λ _.
      unless_has SameShown (same_key a b) Same m _ refl (λ _.
      unless_has SameShown (not (is_some (shown m a))) Missing m _ refl (λ _.
      unless_has SameShown (full m b) Full m _ refl (λ _. put_other (put m b cb) a j ca n ∙ put_other m b j cb o))))

  pub read_is : (buf bs after : Bytes) (r : ℕ) → dark m ≡ false → shown m j ≡ Some bs → r ≡ length bs → after ≡ bs ++ drop r buf → (Ok (Some r) ≡ read m j) × (after ≡ read_into m j buf)
  read_is buf bs after r n e l a = rw (n, e, a, l) (refl, refl)

  -- what a read that gave bytes says
  pub read_gave : (buf : Bytes) (r : ℕ) → Ok (Some r) ≡ read m j → (bs : Bytes) × ((shown m j ≡ Some bs) × ((r ≡ length bs) × (read_into m j buf ≡ bs ++ drop (length bs) buf)))
  read_gave buf r h = go (dark m) (shown m j) refl refl
    where
      go : (d : Bool) (s : Content) → dark m ≡ d → shown m j ≡ s → (bs : Bytes) × ((shown m j ≡ Some bs) × ((r ≡ length bs) × (read_into m j buf ≡ bs ++ drop (length bs) buf)))
      go true s e f = let x : ◌≡◌ {A = Result (Option ℕ) Refusal} (Ok (Some r)) (Err Dark) = rw e at h in let z : ◌≡◌ {A = ℕ} 0 1 = cc in absurd (omega arith)
      go false None e f = let x : ◌≡◌ {A = Result (Option ℕ) Refusal} (Ok (Some r)) (Ok None) = rw (e, f) at h in let z : ◌≡◌ {A = ℕ} 0 1 = cc in absurd (omega arith)
      go false (Some bs) e f = let x : ◌≡◌ {A = Result (Option ℕ) Refusal} (Ok (Some r)) (Ok (Some (length bs))) = rw (e, f) at h in (bs, (f, (cc, rw (e, f) refl)))
