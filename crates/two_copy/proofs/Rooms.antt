-- The place of a key and the room for it, as a search gives them.
use Rattle.std.proofs.Common.{◌≡◌, ℕ, ◌<◌, ◌≤◌, Bool, true, false, not, List, length, get_or, is_some, Some, None, Option, MatchOption, sym, refl, ap, ◌∙◌, subst, arith}
use Rattle.std.specs.List.{position_or_len}
use Rattle.std.specs.Bool.{then_some}
use Rattle.std.proofs.lemmas.List.Recursion.{is_position_or_len}
use Rattle.disk.specs.Keys.{KeyId}
use Rattle.disk.specs.Blocks.{content_of}
use Rattle.disk.proofs.Lists.{by_cases, position-some, position_none}
use Rattle.two_copy.specs.declared.place.Place.{Place}
use Rattle.two_copy.specs.Places.{used_place, is_at, found, Copies, copies, place_of, vacancy_in, room_for}
use Rattle.two_copy.proofs.Sought.{seek, vacant, slot}
use Rattle.two_copy.proofs.Found.{seek_found, seek_lost, copies-seek, some_state}

seek_is : (ps : List Place) (k : KeyId) → seek ps k ≡ position_or_len (λ p. is_at p k) ps
seek_is ps k = is_position_or_len (λ xs. seek xs k) (λ p. is_at p k) refl (λ x xs. by_cases (is_at x k) (λ e. rw e refl) (λ e. rw e (omega arith))) ps

vacant_is : (ps : List Place) → vacant ps ≡ position_or_len (λ p. not (used_place p)) ps
vacant_is ps = is_position_or_len vacant (λ p. not (used_place p)) refl (λ x xs. by_cases (used_place x) (λ e. rw e (omega arith)) (λ e. rw e refl)) ps

pub placed : (ps : List Place) (k : KeyId) (i : ℕ) → place_of ps k ≡ Some i → (found ps k ≡ true) × ((i ≡ seek ps k) × (i < length ps))
placed ps k i e =
    let s = position-some (λ p. is_at p k) ps i e in
    let n = seek_is ps k in
    (seek_found ps k (omega (arith, s.0, s.1, n)), (omega (arith, s.0, n), s.1))

pub not_placed : (ps : List Place) (k : KeyId) → place_of ps k ≡ None → found ps k ≡ false
not_placed ps k e =
    let s = position_none (λ p. is_at p k) ps e in
    let n = seek_is ps k in
    seek_lost ps k (omega (arith, s, n))

vacancy : (ps : List Place) (i : ℕ) → vacancy_in ps ≡ Some i → (i ≡ vacant ps) × (i < length ps)
vacancy ps i e =
    let s = position-some (λ p. not (used_place p)) ps i e in
    let n = vacant_is ps in
    (omega (arith, s.0, n), s.1)

no_vacancy : (ps : List Place) → vacancy_in ps ≡ None → length ps ≤ vacant ps
no_vacancy ps e =
    let s = position_none (λ p. not (used_place p)) ps e in
    let n = vacant_is ps in
    omega (arith, s, n)

pub roomy : (ps : List Place) (k : KeyId) (i : ℕ) → room_for ps k ≡ Some i → (i ≡ slot ps k) × (i < length ps)
roomy ps k i e = go (place_of ps k) refl
  where
    go : (o : Option ℕ) → place_of ps k ≡ o → (i ≡ slot ps k) × (i < length ps)
    go (Some j) f =
        let p = placed ps k j f in
        let g : Some j ≡ Some i = rw f at e in
        let j_is : j ≡ i = cc in
        (rw p.0 (sym j_is ∙ p.1.0), omega (arith, j_is, p.1.1))
    go None f =
        let n = not_placed ps k f in
        let g : vacancy_in ps ≡ Some i = rw f at e in
        let v = vacancy ps i g in
        (rw n v.0, v.1)

pub no_room : (ps : List Place) (k : KeyId) → room_for ps k ≡ None → length ps ≤ slot ps k
no_room ps k e = go (place_of ps k) refl
  where
    go : (o : Option ℕ) → place_of ps k ≡ o → length ps ≤ slot ps k
    go (Some j) f = let g : ◌≡◌ {A = Option ℕ} (Some j) None = rw f at e in cc
    go None f =
        let n = not_placed ps k f in
        let g : vacancy_in ps ≡ None = rw f at e in
        rw n (no_vacancy ps g)

pub at_place : (ps : List Place) (k : KeyId) (j : ℕ) (p : Place) (b : Bool) → place_of ps k ≡ Some j → p ≡ get_or ps j p → b ≡ is_some p.present → is_some (copies ps k).present ≡ b
at_place ps k j p b f i h =
    let t = placed ps k j f in
    let x : p ≡ get_or ps (seek ps k) p = subst (λ (z : ℕ). p ≡ get_or ps z p) t.1.0 i in
    ap (λ (l : Copies). is_some l.present) (copies-seek ps k p t.0) ∙ (ap (λ (q : Place). is_some (content_of q.present)) (sym x) ∙ (some_state p.present ∙ sym h))

pub shown_if : (ps : List Place) (k : KeyId) (i : ℕ) (b : Bool) (r : Option ℕ) → place_of ps k ≡ Some i → is_some (copies ps k).present ≡ b → r ≡ then_some b i
    → MatchOption r (is_some (copies ps k).present ≡ false) (λ j. (is_some (copies ps k).present ≡ true) × (place_of ps k ≡ Some j))
shown_if ps k i true r e f t = rw t (f, e)
shown_if ps k i false r e f t = rw t f
