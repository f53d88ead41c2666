-- Changes leave the settled copy of every key.
use Rattle.std.proofs.Common.{◌≡◌, ℕ, ◌<◌, true, false, List, length, get_or, set, Option, sym, refl, ap, ◌∙◌}
use Rattle.disk.specs.Keys.{KeyId, same_key, key_of}
use Rattle.disk.specs.Blocks.{content_of}
use Rattle.disk.specs.declared.key.Key.{Key}
use Rattle.disk.specs.declared.block.Block.{Block}
use Rattle.disk.proofs.Lists.{by_cases, same-key_is}
use Rattle.two_copy.specs.declared.place.Place.{Place}
use Rattle.two_copy.specs.Places.{used_place, Copies, copies_at, copies, found, apart, tidy, fits}
use Rattle.two_copy.proofs.Sought.{seek, slot}
use Rattle.two_copy.proofs.Slots.{copies-set, fits-slot, fits-seek}
use Rattle.two_copy.proofs.Calls.{slot-settled, seek-settled, second_fits, used_not_firm}
use Rattle.std.proofs.lemmas.Bool.{cond-true, cond-false}

put-settled : (ps : List Place) (i : ℕ) (q : Place) → used_place q ≡ true → fits ps i (key_of q.key) ≡ true → content_of q.settled ≡ (copies ps (key_of q.key)).settled
    → (j : KeyId) → (copies (set ps i q) j).settled ≡ (copies ps j).settled
put-settled ps i q u f e j =
    let k = key_of q.key in
    ap (λ (c : Copies). c.settled) (copies-set q u ps i j f)
    ∙ by_cases (same_key k j)
    (λ g. ap (λ (c : Copies). c.settled) (cond-true (same_key k j) (copies_at q) (copies ps j) g) ∙ (e ∙ ap (λ (z : KeyId). (copies ps z).settled) (same-key_is k j g)))
    (λ g. ap (λ (c : Copies). c.settled) (cond-false (same_key k j) (copies_at q) (copies ps j) g))

module _ (ps : List Place) (d : apart ps ≡ true) where
  -- a place that takes over what stands settled at the key's slot
  pub slot-put-settled : (k : Key) (p : Place) (o : Option Block) → tidy ps ≡ true → slot ps (key_of k) < length ps → p ≡ get_or ps (slot ps (key_of k)) p
      → (j : KeyId) → (copies (set ps (slot ps (key_of k)) (record { key = k; settled = p.settled; present = o; firm = false })) j).settled ≡ (copies ps j).settled
  slot-put-settled k p o t l i =
      put-settled ps (slot ps (key_of k)) (record { key = k; settled = p.settled; present = o; firm = false }) (used_not_firm o) (fits-slot ps (key_of k) d l) (slot-settled ps (key_of k) p t l i)

  pub seek-put-settled : (k : Key) (p : Place) (o : Option Block) → found ps (key_of k) ≡ true → p ≡ get_or ps (seek ps (key_of k)) p
      → (j : KeyId) → (copies (set ps (seek ps (key_of k)) (record { key = k; settled = p.settled; present = o; firm = false })) j).settled ≡ (copies ps j).settled
  seek-put-settled k p o f i =
      put-settled ps (seek ps (key_of k)) (record { key = k; settled = p.settled; present = o; firm = false }) (used_not_firm o) (fits-seek ps (key_of k) d f) (seek-settled ps (key_of k) p f i).0

  pub rename-settled : (a b : Key) (p q : Place) (o o' : Option Block) → same_key (key_of a) (key_of b) ≡ false → tidy ps ≡ true → found ps (key_of a) ≡ true
      → slot ps (key_of b) < length ps → p ≡ get_or ps (seek ps (key_of a)) p → q ≡ get_or ps (slot ps (key_of b)) q
      → (j : KeyId) → (copies (set (set ps (slot ps (key_of b)) (record { key = b; settled = q.settled; present = o; firm = false })) (seek ps (key_of a)) (record { key = a; settled = p.settled; present = o'; firm = false })) j).settled ≡ (copies ps j).settled
  rename-settled a b p q o o' s t f l i i' j =
      let qb : Place = record { key = b; settled = q.settled; present = o; firm = false } in
      let first = slot-put-settled b q o t l i' in
      put-settled (set ps (slot ps (key_of b)) qb) (seek ps (key_of a)) (record { key = a; settled = p.settled; present = o'; firm = false }) (used_not_firm o')
      (second_fits ps a b qb refl s d f l) ((seek-settled ps (key_of a) p f i).0 ∙ sym (first (key_of a))) j
      ∙ first j
