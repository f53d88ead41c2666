-- The keys held after a read.
use Rattle.std.proofs.Common.{◌≡◌, ℕ, suc, ◌+◌, ◌<◌, ◌≤◌, min, true, false, List, [], ◌∷◌, ◌++◌, length, get_or, take, drop, Some, None, Option, refl, ap, ◌∙◌, arith}
use Rattle.std.proofs.lemmas.Bool.{both_ways}
use Rattle.disk.specs.Keys.{KeyId, key_of}
use Rattle.disk.specs.declared.key.Key.{Key}
use Rattle.disk.proofs.Lists.{by_cases, same-key_is}
use Rattle.layers.specs.declared.hold.Hold.{Hold}
use Rattle.layers.specs.Holds.{holds_max, key_is, is_for, held}
use Rattle.layers.proofs.Sought.{seek_hold}
use Rattle.layers.specs.Recent.{key_in, keys_held, names_key, other_keys, to_front}

pub held-seek : (hs : List Hold) (k : KeyId) → held hs k ≡ true → seek_hold hs k < length hs
held-seek [] k h = absurd (both_ways _ refl h)
held-seek (x ∷ hs) k h = by_cases (is_for x k) (λ e. rw e (omega arith)) (λ e. let r = held-seek hs k (rw e at h) in rw e (omega arith))

pub unheld : (hs : List Hold) (k : KeyId) → length hs ≤ seek_hold hs k → held hs k ≡ false
unheld hs k l = by_cases (held hs k) (λ e. absurd (omega (arith, held-seek hs k e))) (λ e. e)

names_is : (o : Option Key) (k : KeyId) → names_key (key_in o) k ≡ key_is o k
names_is None k = refl
names_is (Some j) k = refl

is_key : (o : Option Key) (k : KeyId) → key_is o k ≡ true → key_in o ≡ Some k
is_key None k e = absurd (both_ways _ refl e)
is_key (Some j) k e = ap (λ (z : KeyId). Some z) (same-key_is (key_of j) k e)

pub front_key : (hs : List Hold) (k : KeyId) (d : Hold) → seek_hold hs k < length hs → key_in (get_or hs (seek_hold hs k) d).key ≡ Some k
front_key [] k d l = absurd (omega arith)
front_key (x ∷ hs) k d l = by_cases (is_for x k)
    (λ e. rw e (is_key x.key k e))
    (λ e. let t : suc (seek_hold hs k) < suc (length hs) = rw e at l in rw e (front_key hs k d (omega arith)))

-- the hold for the key, or else the last, makes room at the front
pub latest : (hs : List Hold) (k : KeyId) → length hs ≡ holds_max → (j : ℕ) → j ≡ min (seek_hold hs k) 3
    → ◌≡◌ {A = List (Option KeyId)} (Some k ∷ keys_held (take j hs ++ drop (j + 1) hs)) (take holds_max (Some k ∷ other_keys k (keys_held hs)))
latest [] k l j e = absurd (omega arith)
latest (a ∷ []) k l j e = absurd (omega arith)
latest (a ∷ b ∷ []) k l j e = absurd (omega arith)
latest (a ∷ b ∷ c ∷ []) k l j e = absurd (omega arith)
latest (a ∷ b ∷ c ∷ d ∷ x ∷ hs) k l j e = absurd (omega arith)
latest (a ∷ b ∷ c ∷ d ∷ []) k l j e =
    by_cases (is_for a k)
    (λ ta. let z : j ≡ 0 = rw ta at e in rw (z, names_is a.key k, ta) refl)
    (λ fa. by_cases (is_for b k)
    (λ tb. let z : j ≡ 1 = rw (fa, tb) at e in rw (z, names_is a.key k, fa, names_is b.key k, tb) refl)
    (λ fb. by_cases (is_for c k)
    (λ tc. let z : j ≡ 2 = rw (fa, fb, tc) at e in rw (z, names_is a.key k, fa, names_is b.key k, fb, names_is c.key k, tc) refl)
    (λ fc. by_cases (is_for d k)
    (λ td. let z : j ≡ 3 = rw (fa, fb, fc, td) at e in rw (z, names_is a.key k, fa, names_is b.key k, fb, names_is c.key k, fc) refl)
    (λ fd. let z : j ≡ 3 = rw (fa, fb, fc, fd) at e in rw (z, names_is a.key k, fa, names_is b.key k, fb, names_is c.key k, fc) refl))))

module _ (hs : List Hold) (k : KeyId) (four : length hs ≡ holds_max) where
  pub front_latest : (i : ℕ) (d : Hold) → i ≡ seek_hold hs k → i < holds_max → keys_held (to_front hs i d) ≡ take holds_max (Some k ∷ other_keys k (keys_held hs))
  front_latest i d e l =
      let f : key_in (get_or hs i d).key ≡ Some k = rw e (front_key hs k d (omega arith)) in
      ap (λ (o : Option KeyId). o ∷ keys_held (take i hs ++ drop (i + 1) hs)) f ∙ latest hs k four i (omega arith)
