-- A commit is one change of its key that a cut leaves undone or done.
use Rattle.std.proofs.Common.{◌≡◌, ℕ, ◌≤◌, true, false, length, is_some, Some, None, Ok, Err, sym, refl, ap, ◌∙◌, inl, inr, arith}
use Rattle.std.proofs.lemmas.Bool.{both_ways, cond-true, cond-false, le-ltb, eqb-false}
use Rattle.names.specs.Limits.{block_max}
use Rattle.names.specs.Names.{Bytes}
use Rattle.disk.specs.declared.refusal.Refusal.TheVariants.{Dark, Full}
use Rattle.disk.specs.Keys.{KeyId, same_key, draft_key}
use Rattle.disk.specs.DiskState.{Content, Mark, firm, either, loose, is_firm, Cell, DiskState, shown}
use Rattle.disk.specs.Calls.{Answer, dark, spent, put, marked, renamed, removed, settled, rename, remove, settle}
use Rattle.disk.proofs.Lists.{same_key_refl}
use Rattle.commit.specs.Commits.{after, abandon, placed, finish, commit}
use Rattle.commit.specs.Updates.{AllFirm, Calm, cell, Update}
use Rattle.commit.proofs.Ways.{settle_ways, store_ways, remove_ways, rename_ways}

dark-calm : (m : DiskState) → dark m ≡ true → Calm m
dark-calm m d f = absurd (both_ways (dark m) f d)

lit-charge : (m : DiskState) → dark m ≡ false → 1 ≤ m.charge
lit-charge m d = omega (arith, eqb-false m.charge 0 d)

no-dark : Full ≡ Dark → ⊥
no-dark e = let z : ◌≡◌ {A = ℕ} 0 1 = cc in omega arith

full-lit : (n : DiskState) → ◌≡◌ {A = Answer} (Err Full) (Err Dark) → dark n ≡ true
full-lit n e = let z : ◌≡◌ {A = ℕ} 0 1 = cc in absurd (omega arith)

ok_lit : (n : DiskState) → ◌≡◌ {A = Answer} (Ok tt) (Err Dark) → dark n ≡ true
ok_lit n e = let z : ◌≡◌ {A = ℕ} 0 1 = cc in absurd (omega arith)

abbrev as_firm : Cell → Cell
as_firm c = cell c.shows firm

-- a cell that is firm is what settling makes of it
firm-cell : (c : Cell) → c.mark ≡ firm → as_firm c ≡ c
firm-cell c e = ap (cell c.shows) (sym e)

-- refused, with no key touched but the draft
module _ (m : DiskState) (k : KeyId) (s : Content) (cost : ℕ) (n : DiskState) (d : same_key draft_key k ≡ false) (falls : n.charge ≤ m.charge)
    (e : (j : KeyId) → same_key draft_key j ≡ false → n.cells j ≡ m.cells j) where
  pub dark_untouched : dark n ≡ true → Update m k s cost (Err Dark, n)
  dark_untouched h = record { fate = (inl refl, inl (e k d)); rest = λ j _ q. e j q; calm = dark-calm n h; falls = falls; lit = λ _. h }

  pub full_untouched : Calm n → Update m k s cost (Err Full, n)
  full_untouched c = record { fate = (inr refl, inl (e k d)); rest = λ j _ q. e j q; calm = c; falls = falls; lit = full-lit n }

module _ (m : DiskState) (k : KeyId) (bs : Bytes) (nd : same_key draft_key k ≡ false) (fm : AllFirm m) (lit : 1 ≤ m.charge) where
  abbrev U : Answer × DiskState → Type 0
  U p = Update m k (Some bs) 4 p

  -- stored, settled, renamed, settled; and where the rename is refused as full: removed, settled
  abbrev m1 : DiskState
  m1 = spent (put m draft_key (cell (Some bs) loose))

  abbrev m2 : DiskState
  m2 = spent (settled m1)

  abbrev m3 : DiskState
  m3 = spent (renamed m2 draft_key k)

  abbrev m5 : DiskState
  m5 = spent (removed m2 draft_key)

  e1 : (j : KeyId) → same_key draft_key j ≡ false → m1.cells j ≡ m.cells j
  e1 j h = cond-false (same_key draft_key j) _ _ h

  e2 : (j : KeyId) → same_key draft_key j ≡ false → m2.cells j ≡ m.cells j
  e2 j h = ap as_firm (e1 j h) ∙ firm-cell (m.cells j) (fm j)

  e3 : (j : KeyId) → same_key k j ≡ false → same_key draft_key j ≡ false → m3.cells j ≡ m.cells j
  e3 j o h = cond-false (same_key draft_key j) _ _ h ∙ (cond-false (same_key k j) _ _ o ∙ e2 j h)

  e3k : m3.cells k ≡ cell (Some bs) (either (shown m k) (Some bs))
  e3k =
      cond-false (same_key draft_key k) _ _ nd
      ∙ (cond-true (same_key k k) _ _ (same_key_refl k) ∙ ap (λ (c : Cell). cell (Some bs) (either c.shows (Some bs))) (e2 k nd))

  e5 : (j : KeyId) → same_key draft_key j ≡ false → m5.cells j ≡ m.cells j
  e5 j h = cond-false (same_key draft_key j) _ _ h ∙ e2 j h

  abbrev Gone : Answer × DiskState → Type 0
  Gone q = U (Err Full, q.1)

  -- the draft is abandoned
  left : U (Err Full, (abandon m2).1)
  left =
      let here = full_untouched m k (Some bs) 4 m2 nd (omega arith) e2 (λ _ j. refl) in
      remove_ways (λ p. Gone (after p settle)) m2 (λ _. here) draft_key (λ _. here) (λ _.
      settle_ways Gone m5 (λ d. full_untouched m k (Some bs) 4 m5 nd (omega arith) e5 (dark-calm m5 d))
      (λ _. full_untouched m k (Some bs) 4 (spent (settled m5)) nd (omega arith) (λ j h. ap as_firm (e5 j h) ∙ firm-cell (m.cells j) (fm j)) (λ _ j. refl)))

  finished : dark m2 ≡ false → dark m3 ≡ false → U (Ok tt, spent (settled m3))
  finished d f =
      let a = lit-charge m2 d in
      let b = lit-charge m3 f in
      record {
        fate = (ap as_firm e3k, ((λ j. refl), omega arith));
        rest = λ j o h. ap as_firm (e3 j o h) ∙ firm-cell (m.cells j) (fm j);
        calm = λ _ j. refl;
        falls = omega arith;
        lit = ok_lit (spent (settled m3));
      }

  cut : dark m3 ≡ true → U (Err Dark, m3)
  cut d = record { fate = (inl refl, inr (refl, e3k)); rest = e3; calm = dark-calm m3 d; falls = omega arith; lit = λ _. d }

  finish_update : U (finish m1 k)
  finish_update =
      settle_ways (λ p. U (after p (λ n. placed (rename n draft_key k).0 (rename n draft_key k).1))) m1
      (λ d. dark_untouched m k (Some bs) 4 m1 nd (omega arith) e1 d)
      (λ _. rename_ways (λ p. U (placed p.0 p.1)) m2 (λ d. dark_untouched m k (Some bs) 4 m2 nd (omega arith) e2 d) draft_key k
      (λ e. absurd (both_ways _ nd e)) (λ e. absurd (both_ways _ e refl)) left
      (λ d. settle_ways U m3 cut (finished d)))

pub commit_update : (m : DiskState) (k : KeyId) (bs : Bytes) → same_key draft_key k ≡ false → length bs ≤ block_max → Calm m → Update m k (Some bs) 4 (commit m k bs)
commit_update m k bs nd h c =
    store_ways (λ p. Update m k (Some bs) 4 (after p (λ n. finish n k))) m (λ d. dark_untouched m k (Some bs) 4 m nd (omega arith) (λ j _. refl) d) draft_key bs
    (λ e. absurd (both_ways _ (le-ltb block_max (length bs) h) e)) (full_untouched m k (Some bs) 4 m nd (omega arith) (λ j _. refl) c)
    (λ d. finish_update m k bs nd (c d) (lit-charge m d))

-- the removal of a key, settled
module _ (m : DiskState) (k : KeyId) (bs : Bytes) (nd : same_key draft_key k ≡ false) (sh : shown m k ≡ Some bs) (fm : AllFirm m) (lit : 1 ≤ m.charge) where
  abbrev r1 : DiskState
  r1 = spent (removed m k)

  f1 : (j : KeyId) → same_key k j ≡ false → r1.cells j ≡ m.cells j
  f1 j h = cond-false (same_key k j) _ _ h

  f1k : r1.cells k ≡ cell None (either (shown m k) None)
  f1k = cond-true (same_key k k) _ _ (same_key_refl k) ∙ ap (λ (x : Mark). cell None (marked (is_firm x) (shown m k) None)) (fm k)

  removed_update : Update m k None 2 (settle r1)
  removed_update =
      settle_ways (Update m k None 2) r1
      (λ d. record { fate = (inl refl, inr (refl, f1k)); rest = λ j h _. f1 j h; calm = dark-calm r1 d; falls = omega arith; lit = λ _. d })
      (λ d. let a = lit-charge r1 d in
      record {
        fate = (ap as_firm f1k, ((λ j. refl), omega arith));
        rest = λ j o h. ap as_firm (f1 j o) ∙ firm-cell (m.cells j) (fm j);
        calm = λ _ j. refl;
        falls = omega arith;
        lit = ok_lit (spent (settled r1));
      })

pub remove_update : (m : DiskState) (k : KeyId) (bs : Bytes) → same_key draft_key k ≡ false → shown m k ≡ Some bs → Calm m → Update m k None 2 (after (remove m k) settle)
remove_update m k bs nd sh c =
    remove_ways (λ p. Update m k None 2 (after p settle)) m (λ d. dark_untouched m k None 2 m nd (omega arith) (λ j _. refl) d) k
    (λ e. absurd (both_ways _ e (ap is_some sh))) (λ d. removed_update m k bs nd sh (c d) (lit-charge m d))
