-- What the calls owe, over places.
use Rattle.std.proofs.Common.{◌≡◌, ℕ, suc, ◌-◌, ◌<◌, ◌≤◌, Bool, true, false, not, ◌&&◌, ◌||◌, leb, List, [], ◌∷◌, ◌++◌, map, length, get_or, drop, set, is_some, Some, None, Ok, Err, Option, sym, refl, ap, ◌∙◌, subst, inl, inr, arith}
use lib.Count.{ones}
use Rattle.std.proofs.lemmas.Bool.{and_parts, both_ways, not-true, ne_eqb, le-ltb, le-leb, lt-leb}
use Rattle.std.proofs.lemmas.List.{length-take}
use Rattle.disk.specs.declared.refusal.Refusal.TheVariants.{Full}
use Rattle.disk.specs.declared.key.Key.{Key}
use Rattle.names.specs.Names.{Bytes}
use Rattle.disk.specs.Keys.{KeyId, same_key, key_of}
use Rattle.disk.specs.DiskState.{Content, Mark, firm, either, loose, is_firm, Cell, DiskState, count, used_at, shown}
use Rattle.disk.specs.Calls.{Answer, dark, full, marked, settled, store, rename, remove, settle, read, read_into, counted}
use Rattle.disk.specs.Restart.{Allows, Small}
use Rattle.disk.specs.declared.refusal.Count.{Count}
use Rattle.disk.proofs.Unless.{remove_is, rename_is}
use Rattle.disk.proofs.Kept.{not_firm, fit_marked, fit_stored, shown-small}
use Rattle.names.specs.Limits.{block_max}
use Rattle.disk.proofs.Lists.{by_cases, same-key_is, same_key_refl}
use Rattle.disk.specs.declared.block.Block.{Block}
use Rattle.two_copy.specs.declared.place.Place.{Place}
use Rattle.disk.specs.Blocks.{bytes_of, content_of}
use Rattle.two_copy.specs.Places.{used_place, is_at, Copies, copies_at, copies, found, apart, tidy, refresh, fits}
use Rattle.two_copy.proofs.Sought.{seek, vacant, slot}
use Rattle.two_copy.specs.Masks.{mask}
use Rattle.two_copy.specs.Models.{Holds, Models}
use Rattle.two_copy.proofs.Found.{found-seek, copies-seek, copies_lost, found-used}
use Rattle.two_copy.proofs.Slots.{fits-slot, fits-seek, seek_at, not_both, fits_other, vacant-some, vacant_none}
use Rattle.two_copy.proofs.Modelled.{used-found, count_tally, count_ones, put_models, spent_models, settled_models}

small_state : (o : Option Block) → Small (content_of o)
small_state None = tt
small_state (Some b) = let e = length-take b.len b.bytes in omega (arith, e, b.short)

-- what a call answers, and what it leaves
abbrev pub Owed : Answer → List Place → ℕ → Answer × DiskState → Type 0
Owed r ps charge p = (r ≡ p.0) × Models ps charge p.1

module _ (ps : List Place) (charge : ℕ) (m : DiskState) (h : Models ps charge m) where
  pub lit : (charge ≡ 0 → ⊥) → dark m ≡ false
  lit n = ne_eqb _ _ (λ e. n (sym h.charge_is ∙ e))

  pub settle-done : (charge ≡ 0 → ⊥) → apart ps ≡ true → tidy ps ≡ true → Owed (Ok tt) (map (refresh false) ps) (charge - 1) (settle m)
  settle-done n d t = rw (lit n) (refl, spent_models _ _ _ (settled_models ps charge m h d t))

  -- full, by the slot
  slot_none : (k : KeyId) → apart ps ≡ true → length ps ≤ slot ps k → full m k ≡ true
  slot_none k d l = by_cases (found ps k)
      (λ e. let s = found-seek ps k e in let t : length ps ≤ seek ps k = rw e at l in absurd (omega arith))
      (λ e. let t : length ps ≤ vacant ps = rw e at l in
      let u : used_at m k ≡ false = sym (used-found ps charge m h k) ∙ e in
      let c = count_tally ps charge m h d in
      let v = vacant_none ps t in
      let w : leb m.limit (count m) ≡ true = le-leb _ _ (omega (arith, h.limit_is, c, v)) in
      rw (u, w) refl)

  pub slot-some : (k : KeyId) → apart ps ≡ true → slot ps k < length ps → full m k ≡ false
  slot-some k d l = by_cases (found ps k)
      (λ e. let u : used_at m k ≡ true = sym (used-found ps charge m h k) ∙ e in rw u refl)
      (λ e. let t : vacant ps < length ps = rw e at l in
      let u : used_at m k ≡ false = sym (used-found ps charge m h k) ∙ e in
      let c = count_tally ps charge m h d in
      let v = vacant-some ps t in
      let w : leb m.limit (count m) ≡ false = lt-leb _ _ (omega (arith, h.limit_is, c, v)) in
      rw (u, w) refl)

  pub store-full : (k : KeyId) (bs : Bytes) → (charge ≡ 0 → ⊥) → length bs ≤ block_max → apart ps ≡ true → length ps ≤ slot ps k → Owed (Err Full) ps charge (store m k bs)
  store-full k bs n l d s = rw (lit n, le-ltb block_max (length bs) l, slot_none k d s) (refl, h)

  pub store-done : (kt : Key) (settled : Option Block) (b : Block) (bs : Bytes) → (charge ≡ 0 → ⊥) → length bs ≤ block_max → apart ps ≡ true → slot ps (key_of kt) < length ps → bytes_of b ≡ bs
      → Owed (Ok tt) (set ps (slot ps (key_of kt)) (record { key = kt; settled = settled; present = Some b; firm = false })) (charge - 1) (store m (key_of kt) bs)
  store-done kt settled b bs n l d s e =
      rw (lit n, le-ltb block_max (length bs) l, slot-some (key_of kt) d s) (
        refl,
        spent_models _ _ _ (put_models ps charge m h (slot ps (key_of kt)) (record { key = kt; settled = settled; present = Some b; firm = false }) (record { shows = Some bs; mark = loose })
            refl (fits-slot ps (key_of kt) d s) (fit_stored bs l)
            (record { shows_present = ap (λ (x : Bytes). Some x) (sym e); as_firm = refl; old = small_state settled; new = small_state (Some b) })),
      )

  pub counted_is : (l u : ℕ) → l ≡ length ps → u ≡ mask ps → apart ps ≡ true → ◌≡◌ {A = Count} (record { limit = l; used = ones u; charge = charge }) (counted m)
  counted_is l u e f d = rw (e, f, h.limit_is, h.charge_is, count_ones ps charge m h d) refl

  pub shown_lost : (k : KeyId) → found ps k ≡ false → shown m k ≡ None
  shown_lost k e = (h.each k).shows_present ∙ ap (λ (l : Copies). l.present) (copies_lost ps k e)

  pub shown_at : (k : KeyId) (p : Place) → found ps k ≡ true → p ≡ get_or ps (seek ps k) p → shown m k ≡ content_of p.present
  shown_at k p e i = (h.each k).shows_present ∙ (ap (λ (l : Copies). l.present) (copies-seek ps k p e) ∙ ap (λ (q : Place). content_of q.present) (sym i))

  pub read_none : (k : KeyId) (buf : Bytes) → (charge ≡ 0 → ⊥) → shown m k ≡ None → (Ok None ≡ read m k) × ((buf ≡ read_into m k buf) × Models ps charge m)
  read_none k buf n e = rw (lit n, e) (refl, (refl, h))

  pub read_some : (k : KeyId) (buf bs after : Bytes) (r : ℕ) → (charge ≡ 0 → ⊥) → shown m k ≡ Some bs → r ≡ length bs → after ≡ bs ++ drop r buf → (Ok (Some r) ≡ read m k) × ((after ≡ read_into m k buf) × Models ps charge m)
  read_some k buf bs after r n e l a = rw (lit n, e, a, l) (refl, (refl, h))

  shown-found : (k : KeyId) → is_some (copies ps k).present ≡ true → found ps k ≡ true
  shown-found k e = found-used ps k ∙ rw e refl

  pub missing : (k : KeyId) → is_some (copies ps k).present ≡ false → is_some (shown m k) ≡ false
  missing k e = ap (λ (o : Content). is_some o) (h.each k).shows_present ∙ e

  pub there : (k : KeyId) → is_some (copies ps k).present ≡ true → is_some (shown m k) ≡ true
  there k e = ap (λ (o : Content). is_some o) (h.each k).shows_present ∙ e

-- what a mark allows of the state at the last settle, after a change
was_firm : (k : Mark) (s t : Content) → is_firm k ≡ true → Allows (record { shows = t; mark = k }) s → s ≡ t
was_firm firm s t f a = a
was_firm (either x y) s t f a = absurd (both_ways _ refl f)
was_firm loose s t f a = absurd (both_ways _ refl f)

old-allowed : (b : Bool) (c : Cell) (s new show : Content) → (b ≡ true → is_firm c.mark ≡ true) → Allows c s → Small s → Allows (record { shows = show; mark = marked b c.shows new }) s
old-allowed true c s new show f a l = inl (was_firm c.mark s c.shows (f refl) a)
old-allowed false c s new show f a l = l

new-allowed : (b : Bool) (old new show : Content) → Small new → Allows (record { shows = show; mark = marked b old new }) new
new-allowed true old new show l = inr refl
new-allowed false old new show l = l

pub used_not_firm : (o : Option Block) → (is_some o || not false) ≡ true
used_not_firm None = refl
used_not_firm (Some b) = refl

unused_settled : (p : Place) → used_place p ≡ false → (used_place p || not (is_some p.settled)) ≡ true → content_of p.settled ≡ None
unused_settled p u t = go p.settled (not-true _ (rw u at t))
  where
    go : (o : Option Block) → is_some o ≡ false → content_of o ≡ None
    go None h = refl
    go (Some b) h = absurd (both_ways _ h refl)

vacant-settled : (ps : List Place) (d : Place) → tidy ps ≡ true → vacant ps < length ps → content_of (get_or ps (vacant ps) d).settled ≡ None
vacant-settled [] d t l = absurd (omega arith)
vacant-settled (p ∷ ps) d t l =
    let a : ((used_place p || not (is_some p.settled)) ≡ true) × (tidy ps ≡ true) = and_parts _ _ t in
    by_cases (used_place p)
    (λ e. let m : vacant ps < length ps = let x : suc (vacant ps) < suc (length ps) = rw e at l in omega arith in rw e (vacant-settled ps d a.1 m))
    (λ e. rw e (unused_settled p e a.0))

pub slot-settled : (ps : List Place) (k : KeyId) (p : Place) → tidy ps ≡ true → slot ps k < length ps → p ≡ get_or ps (slot ps k) p → content_of p.settled ≡ (copies ps k).settled
slot-settled ps k p t l i = by_cases (found ps k)
    (λ e. let j : p ≡ get_or ps (seek ps k) p = rw e at i in ap (λ (q : Place). content_of q.settled) j ∙ sym (ap (λ (x : Copies). x.settled) (copies-seek ps k p e)))
    (λ e. let j : p ≡ get_or ps (vacant ps) p = rw e at i in let v : vacant ps < length ps = rw e at l in
    ap (λ (q : Place). content_of q.settled) j ∙ (vacant-settled ps p t v ∙ sym (ap (λ (x : Copies). x.settled) (copies_lost ps k e))))

pub seek-settled : (ps : List Place) (k : KeyId) (p : Place) → found ps k ≡ true → p ≡ get_or ps (seek ps k) p → (content_of p.settled ≡ (copies ps k).settled) × (content_of p.present ≡ (copies ps k).present)
seek-settled ps k p e i =
    let l = copies-seek ps k p e in
    (ap (λ (q : Place). content_of q.settled) i ∙ sym (ap (λ (x : Copies). x.settled) l), ap (λ (q : Place). content_of q.present) i ∙ sym (ap (λ (x : Copies). x.present) l))

-- the place of the key that is renamed still fits it, after the other is put
pub second_fits : (ps : List Place) (at bt : Key) (q : Place) → q.key ≡ bt → same_key (key_of at) (key_of bt) ≡ false → apart ps ≡ true → found ps (key_of at) ≡ true → slot ps (key_of bt) < length ps
    → fits (set ps (slot ps (key_of bt)) q) (seek ps (key_of at)) (key_of at) ≡ true
second_fits ps at bt q e s d f l =
    let j = slot ps (key_of bt) in
    let x = fits-slot ps (key_of bt) d l in
    let o : is_at q (key_of at) ≡ false = rw e (by_cases (same_key (key_of bt) (key_of at))
    (λ t. absurd (both_ways _ s (subst (λ z. same_key z (key_of bt) ≡ true) (same-key_is (key_of bt) (key_of at) t) (same_key_refl (key_of bt)))))
    (λ t. rw t (by_cases (used_place q) (λ u. rw u refl) (λ u. rw u refl)))) in
    fits_other ps (seek ps (key_of at)) j q (key_of at)
    (λ y. both_ways _ s (not_both ps (seek ps (key_of at)) (key_of at) (key_of bt) q (seek_at ps (key_of at) q f) (subst (λ z. fits ps z (key_of bt) ≡ true) (sym y) x)))
    o (fits-seek ps (key_of at) d f)

module _ (ps : List Place) (charge : ℕ) (m : DiskState) (h : Models ps charge m) where
  pub remove-done : (kt : Key) (p : Place) → (charge ≡ 0 → ⊥) → apart ps ≡ true → is_some (copies ps (key_of kt)).present ≡ true → p ≡ get_or ps (seek ps (key_of kt)) p
      → Owed (Ok tt) (set ps (seek ps (key_of kt)) (record { key = kt; settled = p.settled; present = None; firm = false })) (charge - 1) (remove m (key_of kt))
  remove-done kt p n d s i =
      let k = key_of kt in
      let f : found ps k ≡ true = shown-found ps charge m h k s in
      let g = h.each k in
      let b = is_firm (m.cells k).mark in
      subst (Owed (Ok tt) _ (charge - 1)) (sym (remove_is m k (lit ps charge m h n) (there ps charge m h k s))) (
        refl,
        spent_models _ _ _ (put_models ps charge m h (seek ps k) (record { key = kt; settled = p.settled; present = None; firm = false }) (record { shows = None; mark = marked b (shown m k) None })
            refl (fits-seek ps k d f) (fit_marked b (shown m k) None (shown-small m h.lawful k) tt)
            (record {
              shows_present = refl;
              as_firm = not_firm b (shown m k) None;
              old = old-allowed b (m.cells k) (content_of p.settled) None None (λ e. e) (subst (Allows (m.cells k)) (sym (seek-settled ps k p f i).0) g.old) (small_state p.settled);
              new = new-allowed b (shown m k) None None tt;
            })),
      )

  pub rename-full : (a b : KeyId) → (charge ≡ 0 → ⊥) → same_key a b ≡ false → apart ps ≡ true → is_some (copies ps a).present ≡ true → length ps ≤ slot ps b → Owed (Err Full) ps charge (rename m a b)
  rename-full a b n s d t l = rw (lit ps charge m h n, s, there ps charge m h a t, slot_none ps charge m h b d l) (refl, h)

  pub rename-done : (at bt : Key) (p q : Place) → (charge ≡ 0 → ⊥) → same_key (key_of at) (key_of bt) ≡ false → apart ps ≡ true → tidy ps ≡ true → is_some (copies ps (key_of at)).present ≡ true
      → slot ps (key_of bt) < length ps → p ≡ get_or ps (seek ps (key_of at)) p → q ≡ get_or ps (slot ps (key_of bt)) q
      → Owed (Ok tt) (set (set ps (slot ps (key_of bt)) (record { key = bt; settled = q.settled; present = p.present; firm = false })) (seek ps (key_of at)) (record { key = at; settled = p.settled; present = None; firm = false })) (charge - 1) (rename m (key_of at) (key_of bt))
  rename-done at bt p q n s d t v l i j =
      let a = key_of at in
      let b = key_of bt in
      let f : found ps a ≡ true = shown-found ps charge m h a v in
      let both = is_firm (m.cells a).mark && is_firm (m.cells b).mark in
      let pk = seek-settled ps a p f i in
      let qb : Place = record { key = bt; settled = q.settled; present = p.present; firm = false } in
      let qa : Place = record { key = at; settled = p.settled; present = None; firm = false } in
      let sa : shown m a ≡ content_of p.present = (h.each a).shows_present ∙ sym pk.1 in
      let smalla : Small (shown m a) = subst Small (sym sa) (small_state p.present) in
      let cb : Cell = record { shows = shown m a; mark = marked both (shown m b) (shown m a) } in
      let ca : Cell = record { shows = None; mark = marked both (shown m a) None } in
      let hb : Holds (copies_at qb) cb = record {
        shows_present = sa;
        as_firm = not_firm both (shown m b) (shown m a);
        old = old-allowed both (m.cells b) (content_of q.settled) (shown m a) (shown m a) (λ e. (and_parts _ _ e).1) (subst (Allows (m.cells b)) (sym (slot-settled ps b q t l j)) (h.each b).old) (small_state q.settled);
        new = subst (Allows cb) sa (new-allowed both (shown m b) (shown m a) (shown m a) smalla);
      } in
      let ha : Holds (copies_at qa) ca = record {
        shows_present = refl;
        as_firm = not_firm both (shown m a) None;
        old = old-allowed both (m.cells a) (content_of p.settled) None None (λ e. (and_parts _ _ e).0) (subst (Allows (m.cells a)) (sym pk.0) (h.each a).old) (small_state p.settled);
        new = new-allowed both (shown m a) None None tt;
      } in
      let m1 = put_models ps charge m h (slot ps b) qb cb (used_not_firm p.present) (fits-slot ps b d l) (fit_marked both (shown m b) (shown m a) (shown-small m h.lawful b) (shown-small m h.lawful a)) hb in
      let m2 = put_models _ charge _ m1 (seek ps a) qa ca refl (second_fits ps at bt qb refl s d f l) (fit_marked both (shown m a) None (shown-small m h.lawful a) tt) ha in
      subst (Owed (Ok tt) _ (charge - 1)) (sym (rename_is m a b (lit ps charge m h n) s (there ps charge m h a v) (slot-some ps charge m h b d l))) (refl, spent_models _ _ _ m2)

pub block_fits : (b : Block) (bs : Bytes) → bytes_of b ≡ bs → length bs ≤ block_max
block_fits b bs e = let l = length-take b.len b.bytes in let n = ap length e in omega (arith, l, n, b.short)
