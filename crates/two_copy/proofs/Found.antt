-- What is found among places.
use Rattle.std.proofs.Common.{◌≡◌, suc, ◌<◌, ◌≤◌, Bool, true, false, cond, not, ◌&&◌, ◌||◌, List, [], ◌∷◌, length, get_or, is_some, Some, None, Option, refl, ap, arith}
use Rattle.std.proofs.lemmas.Bool.{and_parts, both_ways, not-true, or_parts}
use Rattle.disk.specs.Keys.{KeyId, same_key, key_of}
use Rattle.disk.specs.Lawful.{member, distinct}
use Rattle.disk.proofs.Lists.{by_cases}
use Rattle.disk.specs.declared.block.Block.{Block}
use Rattle.two_copy.specs.declared.place.Place.{Place}
use Rattle.disk.specs.Blocks.{content_of}
use Rattle.two_copy.specs.Places.{used_place, is_at, Copies, copies_at, copies, found, apart}
use Rattle.two_copy.proofs.Sought.{seek}
use Rattle.two_copy.proofs.Masks.{tally}

pub found-seek : (ps : List Place) (k : KeyId) → found ps k ≡ true → seek ps k < length ps
found-seek [] k h = absurd (both_ways _ refl h)
found-seek (p ∷ ps) k h = by_cases (is_at p k) (λ e. rw e (omega arith)) (λ e. let r = found-seek ps k (rw e at h) in rw e (omega arith))

pub lost_seek : (ps : List Place) (k : KeyId) → found ps k ≡ false → seek ps k ≡ length ps
lost_seek [] k h = refl
lost_seek (p ∷ ps) k h = let q : (is_at p k ≡ false) × (found ps k ≡ false) = or_parts _ _ h in rw q.0 (ap suc (lost_seek ps k q.1))

pub seek_found : (ps : List Place) (k : KeyId) → seek ps k < length ps → found ps k ≡ true
seek_found ps k h = by_cases (found ps k) (λ e. e) (λ e. absurd (omega (arith, lost_seek ps k e)))

pub seek_lost : (ps : List Place) (k : KeyId) → length ps ≤ seek ps k → found ps k ≡ false
seek_lost ps k h = by_cases (found ps k) (λ e. absurd (omega (arith, found-seek ps k e))) (λ e. e)

-- a key's copies is that of its place
pub copies-seek : (ps : List Place) (k : KeyId) (d : Place) → found ps k ≡ true → copies ps k ≡ copies_at (get_or ps (seek ps k) d)
copies-seek [] k d h = absurd (both_ways _ refl h)
copies-seek (p ∷ ps) k d h = by_cases (is_at p k) (λ e. rw e refl) (λ e. rw e (copies-seek ps k d (rw e at h)))

pub copies_lost : (ps : List Place) (k : KeyId) → found ps k ≡ false → copies ps k ≡ record { settled = None; present = None; firm = true }
copies_lost [] k h = refl
copies_lost (p ∷ ps) k h = let q : (is_at p k ≡ false) × (found ps k ≡ false) = or_parts _ _ h in rw q.0 (copies_lost ps k q.1)

abbrev pub used-copies : Copies → Bool
used-copies l = is_some l.present || not l.firm

pub some_state : (o : Option Block) → is_some (content_of o) ≡ is_some o
some_state None = refl
some_state (Some b) = refl

pub found-used : (ps : List Place) (k : KeyId) → found ps k ≡ used-copies (copies ps k)
found-used [] k = refl
found-used (p ∷ ps) k = by_cases (is_at p k)
    (λ e. let q : (used_place p ≡ true) × (same_key (key_of p.key) k ≡ true) = and_parts _ _ e in rw (e, some_state p.present, q.0) refl)
    (λ e. rw e (found-used ps k))

-- the keys of the used places
abbrev pub used-keys : List Place → List KeyId
used-keys [] = []
used-keys (p ∷ ps) = cond (used_place p) (key_of p.key ∷ used-keys ps) (used-keys ps)

pub member-used : (ps : List Place) (k : KeyId) → member k (used-keys ps) ≡ found ps k
member-used [] k = refl
member-used (p ∷ ps) k = by_cases (used_place p) (λ e. rw e (ap (λ b. same_key (key_of p.key) k || b) (member-used ps k))) (λ e. rw e (member-used ps k))

pub distinct-used : (ps : List Place) → apart ps ≡ true → distinct (used-keys ps) ≡ true
distinct-used [] h = refl
distinct-used (p ∷ ps) h =
    let q : (not (used_place p && found ps (key_of p.key)) ≡ true) × (apart ps ≡ true) = and_parts _ _ h in
    by_cases (used_place p)
    (λ e. let n : found ps (key_of p.key) ≡ false = not-true _ (rw e at q.0) in rw (e, member-used ps (key_of p.key), n) (distinct-used ps q.1))
    (λ e. rw e (distinct-used ps q.1))

pub length-used : (ps : List Place) → length (used-keys ps) ≡ tally ps
length-used [] = refl
length-used (p ∷ ps) = by_cases (used_place p) (λ e. rw e (ap suc (length-used ps))) (λ e. rw e (length-used ps))
