-- Places after a settle or a restart.
use Rattle.std.proofs.Common.{◌≡◌, Bool, true, false, cond, not, ◌&&◌, ◌||◌, List, [], ◌∷◌, map, is_some, Some, None, Option, sym, refl, ap, ◌∙◌, subst}
use Rattle.std.proofs.lemmas.Bool.{and_parts, both_ways, not-true, or_parts}
use Rattle.disk.specs.Keys.{KeyId, same_key, key_of}
use Rattle.disk.specs.DiskState.{Content}
use Rattle.disk.proofs.Lists.{by_cases, same-key_is}
use Rattle.disk.specs.declared.block.Block.{Block}
use Rattle.two_copy.specs.declared.place.Place.{Place}
use Rattle.disk.specs.Blocks.{content_of}
use Rattle.two_copy.specs.Places.{used_place, is_at, Copies, copies_at, copies, found, apart, tidy, refresh}
use Rattle.two_copy.proofs.Found.{copies_lost, found-used, used-copies}

abbrev pub picked : Bool → Copies → Content
picked old l = cond old l.settled l.present

abbrev pub fresh : Bool → Copies → Copies
fresh old l = record { settled = picked old l; present = picked old l; firm = true }

abbrev absent : Copies
absent = record { settled = None; present = None; firm = true }

fresh_absent : (old : Bool) → fresh old absent ≡ absent
fresh_absent true = refl
fresh_absent false = refl

fresh_at : (old : Bool) (p : Place) → copies_at (refresh old p) ≡ fresh old (copies_at p)
fresh_at true p = refl
fresh_at false p = refl

none_state : (o : Option Block) → is_some o ≡ false → content_of o ≡ None
none_state None h = refl
none_state (Some b) h = absurd (both_ways _ h refl)

or_false : (a : Bool) → (a || false) ≡ a
or_false true = refl
or_false false = refl

-- a place that a refresh leaves unused looks like none
fresh_none : (old : Bool) (p : Place) → used_place (refresh old p) ≡ false → fresh old (copies_at p) ≡ absent
fresh_none true p h = let n = none_state p.settled (or_parts _ _ h).0 in rw n refl
fresh_none false p h = let n = none_state p.present (or_parts _ _ h).0 in rw n refl

-- and one that is used after it was before
used-before : (old : Bool) (p : Place) → (used_place p || not (is_some p.settled)) ≡ true → used_place p ≡ false → used_place (refresh old p) ≡ false
used-before true p t u = rw or_false (not-true _ (rw u at t))
used-before false p t u = rw or_false (or_parts _ _ u).0

module _ (old : Bool) where
  pub copies-refresh : (ps : List Place) (k : KeyId) → apart ps ≡ true → tidy ps ≡ true → copies (map (refresh old) ps) k ≡ fresh old (copies ps k)
  copies-refresh [] k d t = sym (fresh_absent old)
  copies-refresh (p ∷ ps) k d t =
      let a : (not (used_place p && found ps (key_of p.key)) ≡ true) × (apart ps ≡ true) = and_parts _ _ d in
      let b : ((used_place p || not (is_some p.settled)) ≡ true) × (tidy ps ≡ true) = and_parts _ _ t in
      let r = copies-refresh ps k a.1 b.1 in
      by_cases (is_at p k)
      (λ e. let c : (used_place p ≡ true) × (same_key (key_of p.key) k ≡ true) = and_parts _ _ e in
      by_cases (used_place (refresh old p))
      (λ f. rw (e, f, c.1) (fresh_at old p))
      (λ f. let n : found ps (key_of p.key) ≡ false = not-true _ (rw c.0 at a.0) in
      let m : found ps k ≡ false = subst (λ z. found ps z ≡ false) (same-key_is _ _ c.1) n in
      rw (e, f) (r ∙ (ap (fresh old) (copies_lost ps k m) ∙ (fresh_absent old ∙ sym (fresh_none old p f))))))
      (λ e. let n : is_at (refresh old p) k ≡ false = by_cases (used_place p)
      (λ u. let s : same_key (key_of p.key) k ≡ false = rw u at e in rw s (by_cases (used_place (refresh old p)) (λ f. rw f refl) (λ f. rw f refl)))
      (λ u. rw (used-before old p b.0 u) refl) in
      rw (e, n) r)

  pub apart-refresh : (ps : List Place) → apart ps ≡ true → tidy ps ≡ true → apart (map (refresh old) ps) ≡ true
  apart-refresh [] d t = refl
  apart-refresh (p ∷ ps) d t =
      let a : (not (used_place p && found ps (key_of p.key)) ≡ true) × (apart ps ≡ true) = and_parts _ _ d in
      let b : ((used_place p || not (is_some p.settled)) ≡ true) × (tidy ps ≡ true) = and_parts _ _ t in
      rw (apart-refresh ps a.1 b.1) (by_cases (used_place p)
      (λ u. let n : found ps (key_of p.key) ≡ false = not-true _ (rw u at a.0) in
      let l = copies_lost ps (key_of p.key) n in
      let f : found (map (refresh old) ps) (key_of p.key) ≡ false =
      found-used (map (refresh old) ps) (key_of p.key) ∙ (ap used-copies (copies-refresh ps (key_of p.key) a.1 b.1 ∙ (ap (fresh old) l ∙ fresh_absent old))) in
      rw f (by_cases (used_place (refresh old p)) (λ g. rw g refl) (λ g. rw g refl)))
      (λ u. rw (used-before old p b.0 u) refl))

  pub tidy-refresh : (ps : List Place) → tidy (map (refresh old) ps) ≡ true
  tidy-refresh [] = refl
  tidy-refresh (p ∷ ps) = rw (tidy-refresh ps) (by_cases (is_some (cond old p.settled p.present)) (λ e. rw e refl) (λ e. rw e refl))
