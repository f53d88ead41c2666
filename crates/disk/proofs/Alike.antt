-- States that differ at most in what their marks allow answer every call alike.
use Rattle.std.proofs.Common.{◌≡◌, ℕ, ◌-◌, Bool, false, not, ◌&&◌, eqb, ltb, List, [], ◌∷◌, length, is_some, Some, None, sym, refl, ap, ◌∙◌, subst}
use Rattle.names.specs.Limits.{block_max}
use Rattle.names.specs.Names.{Bytes}
use Rattle.disk.specs.declared.refusal.Refusal.{Refusal}
use Rattle.disk.specs.declared.refusal.Refusal.TheVariants.{Dark, Long, Full, Same, Missing}
use Rattle.disk.specs.declared.call.Call.{Call}
use Rattle.disk.specs.declared.call.Call.TheVariants.{Count, IsUsed, Read, Store, Rename, Remove, Settle}
use Rattle.disk.specs.declared.call.Reply.{Reply}
use Rattle.disk.specs.declared.call.Reply.TheVariants.{Used, Changed}
use Rattle.disk.specs.Keys.{KeyId, same_key, key_of}
use Rattle.disk.specs.DiskState.{Content, loose, is_firm, Cell, DiskState, shown, used_at, count}
use Rattle.disk.specs.Calls.{Answer, unless, done, dark, full, put, marked, renamed, removed, settled, spent, store, rename, remove, settle}
use Rattle.disk.specs.Lawful.{Lawful}
use Rattle.disk.specs.Perform.{reply, after, filled, replies}
use Rattle.disk.specs.Alike.{Alike}
use Rattle.disk.proofs.Lists.{by_cases, same_length}
use Rattle.disk.proofs.Unless.{unless_alike}
use Rattle.std.proofs.lemmas.Bool.{cond-true, cond-false}
use Rattle.disk.proofs.Shown.{put_same, put_other}
use Rattle.disk.proofs.Kept.{not_firm}
use Rattle.disk.proofs.Steady.{call_steady}

-- the same answer, and states alike
abbrev Both : Answer × DiskState → Answer × DiskState → Type 0
Both p q = (p.0 ≡ q.0) × Alike p.1 q.1

unless_both : (b d : Bool) (why : Refusal) (m n : DiskState) (x y : Answer × DiskState) → b ≡ d → Alike m n → (b ≡ false → Both x y) → Both (unless b why m x) (unless d why n y)
unless_both b d why m n x y e a q = subst (λ (z : Bool). Both (unless b why m x) (unless z why n y)) e (unless_alike Both b why m n x y (refl, a) q)

-- cells that show the same and are firm alike
record SameCell (c d : Cell) : Type 0 where
  shows : c.shows ≡ d.shows
  firms : is_firm c.mark ≡ is_firm d.mark

abbrev firm-cell : Cell → Bool
firm-cell c = is_firm c.mark

put_alike : (m n : DiskState) (k : KeyId) (c d : Cell) → Alike m n → SameCell c d → Alike (put m k c) (put n k d)
put_alike m n k c d a s = record {
  limits = a.limits;
  charges = a.charges;
  shows = λ j. by_cases (same_key k j)
      (λ e. put_same m k j c e ∙ (s.shows ∙ sym (put_same n k j d e)))
      (λ e. put_other m k j c e ∙ (a.shows j ∙ sym (put_other n k j d e)));
  firms = λ j. by_cases (same_key k j)
      (λ e. ap firm-cell (cond-true (same_key k j) c (m.cells j) e) ∙ (s.firms ∙ sym (ap firm-cell (cond-true (same_key k j) d (n.cells j) e))))
      (λ e. ap firm-cell (cond-false (same_key k j) c (m.cells j) e) ∙ (a.firms j ∙ sym (ap firm-cell (cond-false (same_key k j) d (n.cells j) e))));
}

spent_alike : (m n : DiskState) → Alike m n → Alike (spent m) (spent n)
spent_alike m n a = record { limits = a.limits; charges = ap (λ (c : ℕ). c - 1) a.charges; shows = a.shows; firms = a.firms }

done_alike : (m n : DiskState) → Alike m n → Both (done m) (done n)
done_alike m n a = (refl, spent_alike m n a)

-- a mark that is set anew is not firm, whatever it was
both_marked : (b d : Bool) (o p s t : Content) (x y : Content) → x ≡ y → SameCell (record { shows = x; mark = marked b o s }) (record { shows = y; mark = marked d p t })
both_marked b d o p s t x y e = record { shows = e; firms = not_firm b o s ∙ sym (not_firm d p t) }

module _ (m n : DiskState) (a : Alike m n) (l : Lawful m) (r : Lawful n) where
  used_alike : (k : KeyId) → used_at m k ≡ used_at n k
  used_alike k = rw (a.shows k, a.firms k) refl

  count_alike : count m ≡ count n
  count_alike = same_length m.keys n.keys l.once r.once (λ k. l.listed k ∙ (used_alike k ∙ sym (r.listed k)))

  dark_alike : dark m ≡ dark n
  dark_alike = ap (λ (c : ℕ). eqb c 0) a.charges

  full_alike : (k : KeyId) → full m k ≡ full n k
  full_alike k = rw (used_alike k, a.limits, count_alike) refl

  missing_alike : (k : KeyId) → not (is_some (shown m k)) ≡ not (is_some (shown n k))
  missing_alike k = ap (λ (c : Content). not (is_some c)) (a.shows k)

  store_alike : (k : KeyId) (bs : Bytes) → Both (store m k bs) (store n k bs)
  store_alike k bs =
      unless_both (dark m) (dark n) Dark m n _ _ dark_alike a (λ _.
      unless_both (ltb block_max (length bs)) (ltb block_max (length bs)) Long m n _ _ refl a (λ _.
      unless_both (full m k) (full n k) Full m n _ _ (full_alike k) a (λ _.
      done_alike _ _ (put_alike m n k (record { shows = Some bs; mark = loose }) (record { shows = Some bs; mark = loose }) a (record { shows = refl; firms = refl })))))

  remove_alike : (k : KeyId) → Both (remove m k) (remove n k)
  remove_alike k =
      unless_both (dark m) (dark n) Dark m n _ _ dark_alike a (λ _.
      unless_both (not (is_some (shown m k))) (not (is_some (shown n k))) Missing m n _ _ (missing_alike k) a (λ _.
      done_alike (removed m k) (removed n k)
      (put_alike m n k _ _ a (both_marked (is_firm (m.cells k).mark) (is_firm (n.cells k).mark) (shown m k) (shown n k) None None None None refl))))

  rename_alike : (x y : KeyId) → Both (rename m x y) (rename n x y)
  rename_alike x y =
      let bm = is_firm (m.cells x).mark && is_firm (m.cells y).mark in
      let bn = is_firm (n.cells x).mark && is_firm (n.cells y).mark in
      unless_both (dark m) (dark n) Dark m n _ _ dark_alike a (λ _.
      unless_both (same_key x y) (same_key x y) Same m n _ _ refl a (λ _.
      unless_both (not (is_some (shown m x))) (not (is_some (shown n x))) Missing m n _ _ (missing_alike x) a (λ _.
      unless_both (full m y) (full n y) Full m n _ _ (full_alike y) a (λ _.
      done_alike (renamed m x y) (renamed n x y)
      (put_alike _ _ x _ _ (put_alike m n y _ _ a (both_marked bm bn (shown m y) (shown n y) (shown m x) (shown n x) (shown m x) (shown n x) (a.shows x)))
      (both_marked bm bn (shown m x) (shown n x) None None None None refl))))))

  settle_alike : Both (settle m) (settle n)
  settle_alike =
      unless_both (dark m) (dark n) Dark m n _ _ dark_alike a (λ _.
      done_alike (settled m) (settled n) (record { limits = a.limits; charges = a.charges; shows = a.shows; firms = λ k. refl }))

  pub reply_alike : (c : Call) (bs : Bytes) → (reply m c bs ≡ reply n c bs) × Alike (after m c bs) (after n c bs)
  reply_alike Count bs = (rw (a.limits, count_alike, a.charges) refl, a)
  reply_alike (IsUsed k) bs = (ap (λ (b : Bool). Used b) (used_alike (key_of k)), a)
  reply_alike (Read k) bs = (rw (dark_alike, a.shows (key_of k)) refl, a)
  reply_alike (Store k) bs = let e = store_alike (key_of k) bs in (ap (λ (x : Answer). Changed x) e.0, e.1)
  reply_alike (Rename x y) bs = let e = rename_alike (key_of x) (key_of y) in (ap (λ (x : Answer). Changed x) e.0, e.1)
  reply_alike (Remove k) bs = let e = remove_alike (key_of k) in (ap (λ (x : Answer). Changed x) e.0, e.1)
  reply_alike Settle bs = let e = settle_alike in (ap (λ (x : Answer). Changed x) e.0, e.1)

  pub filled_alike : (c : Call) (buf : Bytes) → filled m c buf ≡ filled n c buf
  filled_alike Count buf = refl
  filled_alike (IsUsed k) buf = refl
  filled_alike (Read k) buf = rw (dark_alike, a.shows (key_of k)) refl
  filled_alike (Store k) buf = refl
  filled_alike (Rename x y) buf = refl
  filled_alike (Remove k) buf = refl
  filled_alike Settle buf = refl

pub replies_alike : (cs : List (Call × Bytes)) (m n : DiskState) (buf : Bytes) → Alike m n → Lawful m → Lawful n → replies m buf cs ≡ replies n buf cs
replies_alike [] m n buf a l r = refl
replies_alike (c ∷ cs) m n buf a l r =
    let e = reply_alike m n a l r c.0 c.1 in
    let f = filled_alike m n a l r c.0 buf in
    let t = replies_alike cs (after m c.0 c.1) (after n c.0 c.1) (filled m c.0 buf) e.1 (call_steady m c.0 c.1 l).lawful (call_steady n c.0 c.1 r).lawful in
    ap (λ (p : Reply × Bytes). p ∷ replies (after m c.0 c.1) (filled m c.0 buf) cs) (ap (λ (x : Reply). (x, filled m c.0 buf)) e.0 ∙ ap (λ (x : Bytes). (reply n c.0 c.1, x)) f)
    ∙ (ap (λ (x : List (Reply × Bytes)). (reply n c.0 c.1, filled n c.0 buf) ∷ x) (t ∙ ap (λ (x : Bytes). replies (after n c.0 c.1) x cs) f))
