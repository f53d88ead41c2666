-- A number read by the library's `parse`.
use Rattle.std.proofs.Common.{◌≡◌, ℕ, zero, suc, ◌+◌, ◌-◌, ◌*◌, ◌<◌, ◌≤◌, ◌^◌, ◌==◌, ◌≢◌, Bool, true, false, cond, ◌&&◌, nat_le, [], ◌∷◌, length, get_or, Some, None, Result, Ok, Err, is_ok, MatchResult, inl, inr, sym, refl, arith, rules}
use Rattle.std.proofs.lemmas.Bool.{cases_Bool, and_parts, leb-true, lt-leb, eqb-false}
use Rattle.std.proofs.lemmas.Str.{IsUtf8-from_ascii}
use Rattle.std.proofs.lemmas.Str.Ascii.{IsAscii-from_reads}
use Rattle.std.proofs.lemmas.Str.Parse.{IsNumeralModel, numerals_by_fold, digit_at, parse_plain}
use Rattle.std.specs.Str.{IsAscii, IsUtf8}
use Rattle.std.specs.Str.Parse.{ParsesUnsigned}
use Rattle.std.specs.Bool.{then_some}
use Rattle.std.specs.Result.{OkIff}
use Rattle.names.specs.Names.{Bytes}
use Rattle.protocol.specs.Decimals.{digit, all_digits, starts_well, value_behind, decimal_up_to}

pub own : IsNumeralModel (λ ds. all_digits ds ≡ true) (value_behind 0)
own = numerals_by_fold _ (search rules) value_behind (search rules)

pub digit_bounds : (b : ℕ) → digit b ≡ true → (48 ≤ b) × (b ≤ 57)
digit_bounds b h = let k = and_parts (nat_le 48 b) (nat_le b 57) h in (leb-true 48 b k.0, leb-true b 57 k.1)

digits_ascii : (bs : Bytes) → all_digits bs ≡ true → IsAscii bs
digits_ascii bs h = IsAscii-from_reads bs (length bs) (omega arith) (λ k l. let d = digit_at bs k (own.to bs h) l in omega arith)

some : (bs : Bytes) → starts_well bs ≡ true → 0 < length bs
some [] h = absurd (let z : ◌≡◌ {A = ℕ} 0 1 = cc in omega arith)
some (b ∷ bs) h = omega arith

no_digits : (most : ℕ) (bs : Bytes) → all_digits bs ≡ false → decimal_up_to most bs ≡ None
no_digits most bs h = elim (cases_Bool (starts_well bs)) [ inl s ↦ rw (s, h) | inr s ↦ rw s ]

pub refused : (most : ℕ) (bs : Bytes) → (starts_well bs && digit (get_or bs 0 0)) ≡ false → decimal_up_to most bs ≡ None
refused most [] h = refl
refused most (b ∷ bs) h =
    elim (cases_Bool (digit b)) [
      | inl d ↦ let s : starts_well (b ∷ bs) ≡ false = (elim (cases_Bool (starts_well (b ∷ bs))) [ inl s ↦ absurd (let z : true ≡ false = rw (s, d) at h in cc) | inr s ↦ s ]) in rw s
      | inr d ↦ no_digits most (b ∷ bs) (rw d)
    ]

-- m with k zeros behind it
abbrev zeros_behind : ℕ → ℕ → ℕ
zeros_behind zero m = m
zeros_behind (suc k) m = zeros_behind k (m * 10)

grows : (k m n : ℕ) (bs : Bytes) → m ≤ n → k ≤ length bs → zeros_behind k m ≤ value_behind n bs
grows zero m n [] h l = h
grows zero m n (b ∷ bs) h l = grows zero m (n * 10 + (b - 48)) bs (omega (arith, h)) (omega arith)
grows (suc k) m n [] h l = absurd (omega (arith, l))
grows (suc k) m n (b ∷ bs) h l = grows k (m * 10) (n * 10 + (b - 48)) bs (omega (arith, h)) (omega (arith, l))

first_above_zero : (b : ℕ) (bs : Bytes) → 0 < length bs → starts_well (b ∷ bs) ≡ true → digit b ≡ true → 1 ≤ b - 48
first_above_zero b [] l s d = absurd (omega (arith, l))
first_above_zero b (c ∷ cs) l s d = elim (cases_Bool (b == 48)) [
  | inl e ↦ absurd (let z : false ≡ true = rw e at s in cc)
  | inr e ↦ let k = digit_bounds b d in let n : b ≢ 48 = eqb-false b 48 e in omega arith
]

-- more digits than a u32 has make a number beyond it
over : (most : ℕ) (bs : Bytes) → 10 < length bs → most < 2 ^ 32 → starts_well bs ≡ true → all_digits bs ≡ true → most < value_behind 0 bs
over most [] l m s d = absurd (omega (arith, l))
over most (b ∷ bs) l m s d =
    let f = first_above_zero b bs (omega (arith, l)) s (and_parts (digit b) (all_digits bs) d).0 in
    let g : 10000000000 ≤ value_behind 0 (b ∷ bs) = grows 10 1 (0 * 10 + (b - 48)) bs (omega (arith, f)) (omega (arith, l)) in
    omega (arith, g, m)

pub too_long : (most : ℕ) (bs : Bytes) → 10 < length bs → most < 2 ^ 32 → decimal_up_to most bs ≡ None
too_long most bs l m =
    elim (cases_Bool (starts_well bs)) [
      | inl s ↦ elim (cases_Bool (all_digits bs)) [
        | inl d ↦ let t : nat_le (value_behind 0 bs) most ≡ false = lt-leb (value_behind 0 bs) most (over most bs l m s d) in rw (s, d, t)
        | inr d ↦ no_digits most bs d
      ]
      | inr s ↦ rw s
    ]

told : (b : Bool) (n : ℕ) → then_some b n ≡ cond b (Some n) None
told true n = refl
told false n = refl

-- bytes with a lawful start, and what the library read of them
module _ (most : ℕ) (bs : Bytes) (h : (starts_well bs && digit (get_or bs 0 0)) ≡ true) where
  no_plus : get_or bs 0 0 ≢ 43
  no_plus e = let k = digit_bounds (get_or bs 0 0) (and_parts (starts_well bs) (digit (get_or bs 0 0)) h).1 in omega arith

  start : starts_well bs ≡ true
  start = (and_parts (starts_well bs) _ h).0

  pub no_text : {X E : Type 0} (P : X → Type 0) (Q : E → Type 0) (r : Result X E) → MatchResult r P (λ e. (IsUtf8 bs → ⊥) × Q e) → is_ok r ≡ false → decimal_up_to most bs ≡ None
  no_text P Q (Ok x) m e = absurd (let z : true ≡ false = e in cc)
  no_text P Q (Err w) m e = elim (cases_Bool (all_digits bs)) [ inl d ↦ absurd (m.0 (IsUtf8-from_ascii bs (digits_ascii bs d))) | inr d ↦ no_digits most bs d ]

  pub unread : {E : Type 0} (x : Result ℕ E) → ParsesUnsigned 32 10 bs x → is_ok x ≡ false → most < 2 ^ 32 → decimal_up_to most bs ≡ None
  unread x p e k = go x (parse_plain own 32 bs x p no_plus) e
    where
      go : {E : Type 0} (x : Result ℕ E) → OkIff x ((all_digits bs ≡ true) × (0 < length bs) × (value_behind 0 bs < 2 ^ 32)) (value_behind 0 bs) → is_ok x ≡ false → decimal_up_to most bs ≡ None
      go (Ok n) q f = absurd (let z : true ≡ false = f in cc)
      go (Err w) q f =
          elim (cases_Bool (all_digits bs)) [
            | inl d ↦
                let l : most < value_behind 0 bs = omega (arith, λ (v : value_behind 0 bs < 2 ^ 32). q (d, some bs start, v)) in
                let t : nat_le (value_behind 0 bs) most ≡ false = lt-leb (value_behind 0 bs) most l in
                let s = start in
                rw (s, d, t)
            | inr d ↦ no_digits most bs d
          ]

  pub read : (E : Type 0) (x : Result ℕ E) (n : ℕ) → ParsesUnsigned 32 10 bs x → x ≡ Ok n → decimal_up_to most bs ≡ then_some (nat_le n most) n
  read E x n p e =
      let q : OkIff {E = E} (Ok n) ((all_digits bs ≡ true) × (0 < length bs) × (value_behind 0 bs < 2 ^ 32)) (value_behind 0 bs) = rw e at (parse_plain own 32 bs x p no_plus) in
      let s = start in
      let d = q.0.0 in
      let v = q.1 in
      rw (s, d, ← v) (sym (told (nat_le n most) n))
