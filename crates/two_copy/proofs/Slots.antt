-- Where a key's place is put.
use Rattle.std.proofs.Common.{◌≡◌, ℕ, zero, suc, ◌<◌, ◌≤◌, true, false, cond, not, ◌&&◌, ◌||◌, List, [], ◌∷◌, length, get_or, set, is_some, sym, refl, ap, subst, arith}
use Rattle.std.proofs.lemmas.Bool.{and_parts, and_from, both_ways, not-true, or_parts}
use Rattle.disk.specs.Keys.{KeyId, same_key, key_of}
use Rattle.disk.proofs.Lists.{by_cases, same-key_is, same_key_sym}
use Rattle.two_copy.specs.declared.place.Place.{Place}
use Rattle.two_copy.specs.Places.{used_place, is_at, copies_at, copies, found, apart, tidy, fits}
use Rattle.two_copy.proofs.Sought.{seek, vacant, slot}
use Rattle.two_copy.proofs.Masks.{tally}

-- p is not the place of j, which is another key than k
not_other : (p : Place) (k j : KeyId) → (not (used_place p) || same_key (key_of p.key) k) ≡ true → same_key k j ≡ false → is_at p j ≡ false
not_other p k j h n = by_cases (used_place p)
    (λ u. let e : same_key (key_of p.key) k ≡ true = rw u at h in rw u (subst (λ z. same_key z j ≡ false) (sym (same-key_is _ _ e)) n))
    (λ u. rw u refl)

abbrev own : Place → KeyId
own q = key_of q.key

module _ (q : Place) (u : used_place q ≡ true) where
  pub found-set : (ps : List Place) (i : ℕ) (j : KeyId) → fits ps i (own q) ≡ true → found (set ps i q) j ≡ (same_key (own q) j || found ps j)
  found-set [] i j h = absurd (both_ways _ refl h)
  found-set (p ∷ ps) zero j h =
      let a : ((not (used_place p) || same_key (key_of p.key) (own q)) ≡ true) × (not (found ps (own q)) ≡ true) = and_parts _ _ h in
      rw u (by_cases (same_key (own q) j) (λ e. rw e refl) (λ e. rw (e, not_other p (own q) j a.0 e) refl))
  found-set (p ∷ ps) (suc i) j h =
      let a : (not (is_at p (own q)) ≡ true) × (fits ps i (own q) ≡ true) = and_parts _ _ h in
      rw (found-set ps i j a.1) (by_cases (is_at p j) (λ e. rw e (by_cases (same_key (own q) j) (λ f. rw f refl) (λ f. rw f refl))) (λ e. rw e refl))

  pub copies-set : (ps : List Place) (i : ℕ) (j : KeyId) → fits ps i (own q) ≡ true → copies (set ps i q) j ≡ cond (same_key (own q) j) (copies_at q) (copies ps j)
  copies-set [] i j h = absurd (both_ways _ refl h)
  copies-set (p ∷ ps) zero j h =
      let a : ((not (used_place p) || same_key (key_of p.key) (own q)) ≡ true) × (not (found ps (own q)) ≡ true) = and_parts _ _ h in
      rw u (by_cases (same_key (own q) j) (λ e. rw e refl) (λ e. rw (e, not_other p (own q) j a.0 e) refl))
  copies-set (p ∷ ps) (suc i) j h =
      let a : (not (is_at p (own q)) ≡ true) × (fits ps i (own q) ≡ true) = and_parts _ _ h in
      rw (copies-set ps i j a.1) (by_cases (same_key (own q) j)
      (λ e. let n : is_at p j ≡ false = subst (λ z. is_at p z ≡ false) (same-key_is (own q) j e) (not-true _ a.0) in rw (e, n) refl)
      (λ e. rw e refl))

  pub apart-set : (ps : List Place) (i : ℕ) → fits ps i (own q) ≡ true → apart ps ≡ true → apart (set ps i q) ≡ true
  apart-set [] i h d = absurd (both_ways _ refl h)
  apart-set (p ∷ ps) zero h d =
      let a : ((not (used_place p) || same_key (key_of p.key) (own q)) ≡ true) × (not (found ps (own q)) ≡ true) = and_parts _ _ h in
      let b : (not (used_place p && found ps (key_of p.key)) ≡ true) × (apart ps ≡ true) = and_parts _ _ d in
      rw (u, not-true _ a.1) b.1
  apart-set (p ∷ ps) (suc i) h d =
      let a : (not (is_at p (own q)) ≡ true) × (fits ps i (own q) ≡ true) = and_parts _ _ h in
      let b : (not (used_place p && found ps (key_of p.key)) ≡ true) × (apart ps ≡ true) = and_parts _ _ d in
      rw (apart-set ps i a.1 b.1, found-set ps i (key_of p.key) a.1) (by_cases (used_place p)
      (λ e. let f : found ps (key_of p.key) ≡ false = not-true _ (rw e at b.0) in
      let n : same_key (key_of p.key) (own q) ≡ false = not-true _ (rw e at a.0) in
      let o : same_key (own q) (key_of p.key) ≡ false = by_cases (same_key (own q) (key_of p.key)) (λ t. absurd (both_ways _ n (same_key_sym (own q) (key_of p.key) t))) (λ t. t) in
      rw (e, f, o) refl)
      (λ e. rw e refl))

  pub tidy-set : (ps : List Place) (i : ℕ) → tidy ps ≡ true → tidy (set ps i q) ≡ true
  tidy-set [] i d = refl
  tidy-set (p ∷ ps) zero d = let b : ((used_place p || not (is_some p.settled)) ≡ true) × (tidy ps ≡ true) = and_parts _ _ d in rw u b.1
  tidy-set (p ∷ ps) (suc i) d = let b : ((used_place p || not (is_some p.settled)) ≡ true) × (tidy ps ≡ true) = and_parts _ _ d in and_from _ _ b.0 (tidy-set ps i b.1)

-- the slot of a key fits, where there is one
pub fits-seek : (ps : List Place) (k : KeyId) → apart ps ≡ true → found ps k ≡ true → fits ps (seek ps k) k ≡ true
fits-seek [] k d h = absurd (both_ways _ refl h)
fits-seek (p ∷ ps) k d h =
    let b : (not (used_place p && found ps (key_of p.key)) ≡ true) × (apart ps ≡ true) = and_parts _ _ d in
    by_cases (is_at p k)
    (λ e. let a : (used_place p ≡ true) × (same_key (key_of p.key) k ≡ true) = and_parts _ _ e in
    let n : found ps (key_of p.key) ≡ false = not-true _ (rw a.0 at b.0) in
    let f : found ps k ≡ false = subst (λ z. found ps z ≡ false) (same-key_is _ _ a.1) n in
    rw (e, a.0, a.1, f) refl)
    (λ e. rw (e, e) (fits-seek ps k b.1 (rw e at h)))

fits-vacant : (ps : List Place) (k : KeyId) → found ps k ≡ false → vacant ps < length ps → fits ps (vacant ps) k ≡ true
fits-vacant [] k h l = absurd (omega arith)
fits-vacant (p ∷ ps) k h l =
    let a : (is_at p k ≡ false) × (found ps k ≡ false) = or_parts _ _ h in
    by_cases (used_place p)
    (λ e. let m : vacant ps < length ps = let t : suc (vacant ps) < suc (length ps) = rw e at l in omega arith in rw (e, a.0) (fits-vacant ps k a.1 m))
    (λ e. rw (e, e, a.1) refl)

pub fits-slot : (ps : List Place) (k : KeyId) → apart ps ≡ true → slot ps k < length ps → fits ps (slot ps k) k ≡ true
fits-slot ps k d h = by_cases (found ps k)
    (λ e. rw e (fits-seek ps k d e))
    (λ e. rw e (fits-vacant ps k e (rw e at h)))

-- there is a place that is not used unless all are
tally_le : (ps : List Place) → tally ps ≤ length ps
tally_le [] = omega arith
tally_le (p ∷ ps) = let r = tally_le ps in by_cases (used_place p) (λ e. rw e (omega arith)) (λ e. rw e (omega arith))

pub vacant-some : (ps : List Place) → vacant ps < length ps → tally ps < length ps
vacant-some [] h = absurd (omega arith)
vacant-some (p ∷ ps) h = by_cases (used_place p)
    (λ e. let t : suc (vacant ps) < suc (length ps) = rw e at h in let r = vacant-some ps (omega arith) in rw e (omega arith))
    (λ e. let r = tally_le ps in rw e (omega arith))

pub vacant_none : (ps : List Place) → length ps ≤ vacant ps → length ps ≤ tally ps
vacant_none [] h = omega arith
vacant_none (p ∷ ps) h = by_cases (used_place p)
    (λ e. let t : suc (length ps) ≤ suc (vacant ps) = rw e at h in let r = vacant_none ps (omega arith) in rw e (omega arith))
    (λ e. let t : suc (length ps) ≤ 0 = rw e at h in absurd (omega arith))

pub seek_at : (ps : List Place) (k : KeyId) (d : Place) → found ps k ≡ true → is_at (get_or ps (seek ps k) d) k ≡ true
seek_at [] k d h = absurd (both_ways _ refl h)
seek_at (p ∷ ps) k d h = by_cases (is_at p k) (λ e. rw (e, e) refl) (λ e. rw e (seek_at ps k d (rw e at h)))

-- a used place does not fit another key
pub not_both : (ps : List Place) (i : ℕ) (a b : KeyId) (d : Place) → is_at (get_or ps i d) a ≡ true → fits ps i b ≡ true → same_key a b ≡ true
not_both [] i a b d h f = absurd (both_ways _ refl f)
not_both (p ∷ ps) zero a b d h f =
    let x : (used_place p ≡ true) × (same_key (key_of p.key) a ≡ true) = and_parts _ _ h in
    let y : ((not (used_place p) || same_key (key_of p.key) b) ≡ true) × (not (found ps b) ≡ true) = and_parts _ _ f in
    let z : same_key (key_of p.key) b ≡ true = rw x.0 at y.0 in
    subst (λ w. same_key w b ≡ true) (same-key_is (key_of p.key) a x.1) z
not_both (p ∷ ps) (suc i) a b d h f =
    let y : (not (is_at p b) ≡ true) × (fits ps i b ≡ true) = and_parts _ _ f in not_both ps i a b d h y.1

found_other : (ps : List Place) (j : ℕ) (q : Place) (k : KeyId) → is_at q k ≡ false → found ps k ≡ false → found (set ps j q) k ≡ false
found_other [] j q k n h = refl
found_other (p ∷ ps) zero q k n h = let a : (is_at p k ≡ false) × (found ps k ≡ false) = or_parts _ _ h in rw (n, a.1) refl
found_other (p ∷ ps) (suc j) q k n h = let a : (is_at p k ≡ false) × (found ps k ≡ false) = or_parts _ _ h in rw (a.0, found_other ps j q k n a.1) refl

-- a change at another place leaves a fit
pub fits_other : (ps : List Place) (i j : ℕ) (q : Place) (k : KeyId) → (i ≡ j → ⊥) → is_at q k ≡ false → fits ps i k ≡ true → fits (set ps j q) i k ≡ true
fits_other [] i j q k ne n h = absurd (both_ways _ refl h)
fits_other (p ∷ ps) zero zero q k ne n h = absurd (ne refl)
fits_other (p ∷ ps) zero (suc j) q k ne n h =
    let y : ((not (used_place p) || same_key (key_of p.key) k) ≡ true) × (not (found ps k) ≡ true) = and_parts _ _ h in
    rw (y.0, found_other ps j q k n (not-true _ y.1)) refl
fits_other (p ∷ ps) (suc i) zero q k ne n h =
    let y : (not (is_at p k) ≡ true) × (fits ps i k ≡ true) = and_parts _ _ h in rw n y.1
fits_other (p ∷ ps) (suc i) (suc j) q k ne n h =
    let y : (not (is_at p k) ≡ true) × (fits ps i k ≡ true) = and_parts _ _ h in
    and_from _ _ y.0 (fits_other ps i j q k (λ e. ne (ap suc e)) n y.1)
