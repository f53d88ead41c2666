-- Where the hold for a key stands, as a number: the number of holds where there is none.
use Rattle.std.proofs.Common.{◌≡◌, ℕ, suc, ◌<◌, ◌≤◌, min, cond, List, [], ◌∷◌, length, Some, None, Option, refl, arith}
use Rattle.std.specs.List.{position_or_len}
use Rattle.std.specs.Option.{unwrap_or}
use Rattle.std.proofs.lemmas.List.Recursion.{is_position_or_len}
use Rattle.disk.specs.Keys.{KeyId}
use Rattle.disk.proofs.Lists.{by_cases, position-some, position_none}
use Rattle.layers.specs.declared.hold.Hold.{Hold}
use Rattle.layers.specs.Holds.{is_for, hold_of}

abbrev pub seek_hold : List Hold → KeyId → ℕ
seek_hold [] k = 0
seek_hold (h ∷ hs) k = cond (is_for h k) 0 (suc (seek_hold hs k))

seek_hold_is : (hs : List Hold) (k : KeyId) → seek_hold hs k ≡ position_or_len (λ h. is_for h k) hs
seek_hold_is hs k = is_position_or_len (λ xs. seek_hold xs k) (λ h. is_for h k) refl (λ x xs. by_cases (is_for x k) (λ e. rw e refl) (λ e. rw e (omega arith))) hs

pub sought : (hs : List Hold) (k : KeyId) (i : ℕ) → hold_of hs k ≡ Some i → (i ≡ seek_hold hs k) × (i < length hs)
sought hs k i e =
    let s = position-some (λ h. is_for h k) hs i e in
    let n = seek_hold_is hs k in
    (omega (arith, s.0, n), s.1)

pub not_sought : (hs : List Hold) (k : KeyId) → hold_of hs k ≡ None → length hs ≤ seek_hold hs k
not_sought hs k e =
    let s = position_none (λ h. is_for h k) hs e in
    let n = seek_hold_is hs k in
    omega (arith, s, n)

-- where there is none, the last of four makes room
pub sought_or_last : (hs : List Hold) (k : KeyId) → length hs ≡ 4 → unwrap_or (hold_of hs k) 3 ≡ min (seek_hold hs k) 3
sought_or_last hs k four = go (hold_of hs k) refl
  where
    go : (o : Option ℕ) → hold_of hs k ≡ o → unwrap_or (hold_of hs k) 3 ≡ min (seek_hold hs k) 3
    go None e = let n = not_sought hs k e in rw e (omega (arith, n))
    go (Some i) e = let n = sought hs k i e in rw e (omega (arith, n.0, n.1))
