-- The number that marks the used places.
use Rattle.std.proofs.Common.{◌≡◌, ℕ, zero, suc, ◌+◌, ◌*◌, ◌/◌, ◌%◌, ◌^◌, ◌<◌, ◌≤◌, Bool, true, false, cond, List, [], ◌∷◌, ◌++◌, length, get_or, take, set, sym, refl, ap, ◌∙◌, mul_comm, pow-suc, arith, pow_mono}
use lib.Count.{ones, ones_step, ones-le}
use Rattle.std.proofs.lemmas.List.{take_more, length_push, length-take-le}
use Rattle.std.proofs.lemmas.Nat.{div-mul-add, mod-mul-add, or_comm, or_shr, or_mod, shr_split}
use lib.Bits.{bit_or}
use Rattle.two_copy.specs.declared.place.Place.{Place}
use Rattle.two_copy.specs.Places.{used_place, idle}
use Rattle.two_copy.specs.Masks.{mask}

pub bit_lt : (b : Bool) → cond b 1 0 < 2
bit_lt true = omega arith
bit_lt false = omega arith

pub mask_lt : (ps : List Place) → mask ps < 2 ^ length ps
mask_lt [] = omega arith
mask_lt (p ∷ ps) = let h = mask_lt ps in let b = bit_lt (used_place p) in rw pow-suc (omega arith)

-- how many places are used
abbrev pub tally : List Place → ℕ
tally [] = 0
tally (p ∷ ps) = cond (used_place p) (suc (tally ps)) (tally ps)

ones_more : (n : ℕ) (b : Bool) → ones (2 * n + cond b 1 0) ≡ cond b (suc (ones n)) (ones n)
ones_more n b =
    let d : (2 * n + cond b 1 0) / 2 ≡ n = rw (mul_comm 2 n) (div-mul-add n 2 (cond b 1 0) (bit_lt b)) in
    let r : (2 * n + cond b 1 0) % 2 ≡ cond b 1 0 = rw (mul_comm 2 n) (mod-mul-add n 2 (cond b 1 0) (bit_lt b)) in
    ones_step (2 * n + cond b 1 0) ∙ (rw (d, r) (elim b as (λ v. cond v 1 0 + ones n ≡ cond v (suc (ones n)) (ones n)) [ true ↦ omega arith | false ↦ omega arith ]))

pub ones_mask : (ps : List Place) → ones (mask ps) ≡ tally ps
ones_mask [] = omega (arith, ones-le 0 0 (omega arith))
ones_mask (p ∷ ps) = ones_more (mask ps) (used_place p) ∙ ap (λ (n : ℕ). cond (used_place p) (suc n) n) (ones_mask ps)

pub mask_under : (ps : List Place) (n : ℕ) → length ps ≤ n → mask ps < 2 ^ n
mask_under ps n h = let a = mask_lt ps in let b : 2 ^ length ps ≤ 2 ^ n = pow_mono h in omega arith

-- a place that is used is marked, whether or not it was before
or_zero : (b : Bool) → bit_or (cond b 1 0) 0 ≡ cond b 1 0
or_zero true = refl
or_zero false = refl

or_one : (b : Bool) → bit_or (cond b 1 0) 1 ≡ 1
or_one true = refl
or_one false = refl

-- a number and its halves
half : (n : ℕ) (b : Bool) → (2 * n + cond b 1 0) / 2 ^ 1 ≡ n
half n b = rw (mul_comm 2 n) (div-mul-add n 2 (cond b 1 0) (bit_lt b))

rest : (n : ℕ) (b : Bool) → (2 * n + cond b 1 0) % 2 ^ 1 ≡ cond b 1 0
rest n b = rw (mul_comm 2 n) (mod-mul-add n 2 (cond b 1 0) (bit_lt b))

or_parts : (a n : ℕ) (b c : Bool) → bit_or (2 * a + cond b 1 0) (2 * n + cond c 1 0) ≡ 2 * bit_or a n + bit_or (cond b 1 0) (cond c 1 0)
or_parts a n b c =
    let x = 2 * a + cond b 1 0 in
    let y = 2 * n + cond c 1 0 in
    let h : bit_or x y / 2 ^ 1 ≡ bit_or a n = or_shr x y 1 ∙ rw (half a b, half n c) refl in
    let l : bit_or x y % 2 ^ 1 ≡ bit_or (cond b 1 0) (cond c 1 0) = or_mod x y 1 ∙ rw (rest a b, rest n c) refl in
    let s = shr_split (bit_or x y) 1 in
    omega (arith, s, h, l)

or_none : (n : ℕ) → bit_or n 0 ≡ n
or_none n = or_comm n 0

pub mask-set : (ps : List Place) (i : ℕ) (q : Place) → i < length ps → used_place q ≡ true → mask (set ps i q) ≡ bit_or (mask ps) (2 ^ i)
mask-set [] i q h u = absurd (omega arith)
mask-set (p ∷ ps) zero q h u = rw u (sym (or_parts (mask ps) 0 (used_place p) true ∙ rw (or_none, or_one) refl))
mask-set (p ∷ ps) (suc i) q h u =
    let r = mask-set ps i q (omega arith) u in
    let z : 2 * 2 ^ i ≡ 2 * 2 ^ i + cond false 1 0 = omega arith in
    rw (r, pow-suc, mul_comm (2 ^ i) 2) (sym (ap (λ (x : ℕ). bit_or (mask (p ∷ ps)) x) z ∙ (or_parts (mask ps) (2 ^ i) (used_place p) false ∙ rw or_zero refl)))

-- one place more at the end
mask_unused : (ps : List Place) (q : Place) → used_place q ≡ false → mask (ps ++ q ∷ []) ≡ mask ps
mask_unused [] q u = rw u (omega arith)
mask_unused (p ∷ ps) q u = ap (λ n. 2 * n + cond (used_place p) 1 0) (mask_unused ps q u)

set_last : (ps : List Place) (p q : Place) → set (ps ++ p ∷ []) (length ps) q ≡ ps ++ q ∷ []
set_last [] p q = refl
set_last (o ∷ ps) p q = ap (λ (xs : List Place). o ∷ xs) (set_last ps p q)

mask_used : (ps : List Place) (q : Place) → used_place q ≡ true → mask (ps ++ q ∷ []) ≡ bit_or (mask ps) (2 ^ length ps)
mask_used ps q u =
    let l = length_push ps idle in
    ap mask (sym (set_last ps idle q)) ∙ (mask-set (ps ++ idle ∷ []) (length ps) q (omega (arith, l)) u ∙ ap (λ (n : ℕ). bit_or n (2 ^ length ps)) (mask_unused ps idle refl))

module _ (ps : List Place) (i : ℕ) (p : Place) (h : i < length ps) (e : p ≡ get_or ps i p) where
  grown : take (i + 1) ps ≡ take i ps ++ p ∷ []
  grown = take_more ps i p h ∙ ap (λ (q : Place). take i ps ++ q ∷ []) (sym e)

  pub mask-take_unused : used_place p ≡ false → mask (take i ps) ≡ mask (take (i + 1) ps)
  mask-take_unused u = sym (ap mask grown ∙ mask_unused (take i ps) p u)

  pub mask-take_used : used_place p ≡ true → bit_or (mask (take i ps)) (2 ^ i) ≡ mask (take (i + 1) ps)
  mask-take_used u = sym (ap mask grown ∙ (mask_used (take i ps) p u ∙ ap (λ (n : ℕ). bit_or (mask (take i ps)) (2 ^ n)) (length-take-le i ps (omega arith))))
