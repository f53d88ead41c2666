-- A line divided at its first blank.
use Rattle.std.proofs.Common.{◌≡◌, ℕ, suc, ◌+◌, ◌-◌, Bool, true, false, cond, eqb, ltb, [], ◌∷◌, length, take, drop, Some, None, Option, sym, refl, ap, ◌∙◌, ap₂, arith}
use Rattle.std.specs.List.{position, position_or_len}
use Rattle.std.proofs.lemmas.Bool.{lt-ltb, ltb-true, le-ltb, ltb-false}
use Rattle.std.proofs.lemmas.List.{take_rest}
use Rattle.names.specs.Names.{Bytes}
use Rattle.protocol.specs.Commands.{in_front, divided}

first_blank : Bytes → ℕ
first_blank bs = position_or_len (λ b. eqb b 32) bs

-- the bytes before place i, and those behind it
around : Bytes → ℕ → Bytes × Bytes
around bs i = (take i bs, drop (suc i) bs)

-- if it is below n
parted_at : Bytes → ℕ → ℕ → Option (Bytes × Bytes)
parted_at bs i n = cond (ltb i n) (Some (around bs i)) None

one_on : (b : ℕ) (bs : Bytes) (i n : ℕ) (t : Bool) → ltb i n ≡ t → in_front b (parted_at bs i n) ≡ parted_at (b ∷ bs) (suc i) (suc n)
unfolding parted_at around
one_on b bs i n true e = let k : ltb (suc i) (suc n) ≡ true = lt-ltb (suc i) (suc n) (let h = ltb-true i n e in omega arith) in rw (e, k)
one_on b bs i n false e = let k : ltb (suc i) (suc n) ≡ false = le-ltb (suc i) (suc n) (let h = ltb-false i n e in omega arith) in rw (e, k)

parts_at : (b : ℕ) (bs : Bytes) (t : Bool) → eqb b 32 ≡ t → divided bs ≡ parted_at bs (first_blank bs) (length bs)
    → divided (b ∷ bs) ≡ parted_at (b ∷ bs) (first_blank (b ∷ bs)) (length (b ∷ bs))
unfolding parted_at around first_blank
parts_at b bs true e h = let k : ltb 0 (suc (length bs)) ≡ true = lt-ltb 0 (suc (length bs)) (omega arith) in rw (e, k)
parts_at b bs false e h =
    let k = one_on b bs (first_blank bs) (length bs) (ltb (first_blank bs) (length bs)) refl in
    let z : suc (first_blank bs) ≡ 1 + first_blank bs = omega arith in
    rw e (ap (in_front b) h ∙ (k ∙ ap (λ (i : ℕ). parted_at (b ∷ bs) i (suc (length bs))) z))

parts_are : (bs : Bytes) → divided bs ≡ parted_at bs (first_blank bs) (length bs)
unfolding parted_at first_blank
parts_are [] = refl
parts_are (b ∷ bs) = parts_at b bs (eqb b 32) refl (parts_are bs)

-- what is parted at the place that a test gives
given : (bs : Bytes) (t : Bool) (n i : ℕ) → cond t (Some n) None ≡ Some i → cond t (Some (around bs n)) None ≡ Some (take i bs, drop (i + 1) bs)
unfolding around
given bs true n i e = let k : n ≡ i = cc in let l : suc n ≡ i + 1 = omega arith in ap₂ (λ (j l : ℕ). Some (take j bs, drop l bs)) k l
given bs false n i e = absurd (let z : ◌≡◌ {A = ℕ} 0 1 = cc in omega arith)

not_given : (bs : Bytes) (t : Bool) (n : ℕ) → cond t (Some n) None ≡ None → cond t (Some (around bs n)) None ≡ None
not_given bs true n e = absurd (let z : ◌≡◌ {A = ℕ} 0 1 = cc in omega arith)
not_given bs false n e = refl

pub here : (bs : Bytes) (i : ℕ) → position (λ b. eqb b 32) bs ≡ Some i → divided bs ≡ Some (take i bs, take (length bs - (i + 1)) (drop (i + 1) bs))
unfolding parted_at first_blank
here bs i e = parts_are bs ∙ (given bs _ _ i e ∙ ap (λ t. Some (take i bs, t)) (sym (take_rest bs (i + 1))))

pub nowhere : (bs : Bytes) → position (λ b. eqb b 32) bs ≡ None → divided bs ≡ None
unfolding parted_at first_blank
nowhere bs e = parts_are bs ∙ not_given bs _ _ e
