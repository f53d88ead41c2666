-- Hex digits, written and read back.
use Rattle.std.proofs.Common.{◌≡◌, ℕ, zero, suc, ◌+◌, ◌-◌, ◌*◌, ◌/◌, ◌%◌, ◌<◌, ◌≤◌, cond, ◌&&◌, leb, ◌⊎◌, List, [], ◌∷◌, ◌++◌, length, get_or, drop, Some, None, Option, sym, refl, ap, ◌∙◌, inl, inr, arith}
use Rattle.std.proofs.lemmas.List.{append_assoc, append-nil, at_drop_more, at_drop_all}
use Rattle.std.proofs.lemmas.Bool.{cases_lt, lt-ltb, le-ltb, le-leb, lt-leb, and_from, and_right}
use Rattle.std.specs.Simd.{first_chunks}
use Rattle.names.specs.Names.{Bytes}
use Rattle.recordtext.specs.Hex.{digit, hex_text, digit_value, byte_value, with_byte, hex_bytes, HexBack}

value_below : (n : ℕ) → n < 10 → digit_value (48 + n) ≡ Some n
value_below n h =
    let t = and_from _ _ (le-leb 48 (48 + n) (omega arith)) (le-leb (48 + n) 57 (omega arith)) in
    let e : 48 + n - 48 ≡ n = omega arith in
    ap (λ b. cond {A = Option ℕ} b (Some (48 + n - 48)) (cond (leb 97 (48 + n) && leb (48 + n) 102) (Some (48 + n - 87)) None)) t ∙ ap (λ x. Some x) e

value_above : (n : ℕ) → 10 ≤ n → n < 16 → digit_value (87 + n) ≡ Some n
value_above n k h =
    let f = and_right (leb 48 (87 + n)) _ (lt-leb (87 + n) 57 (omega arith)) in
    let t = and_from _ _ (le-leb 97 (87 + n) (omega arith)) (le-leb (87 + n) 102 (omega arith)) in
    let e : 87 + n - 87 ≡ n = omega arith in
    (λ i. cond {A = Option ℕ} (f i) (Some (87 + n - 48)) (cond (t i) (Some (87 + n - 87)) None)) ∙ ap (λ x. Some x) e

value-digit : (n : ℕ) → n < 16 → digit_value (digit n) ≡ Some n
value-digit n h = by (cases_lt n 10)
  where
    by : (n < 10) ⊎ (10 ≤ n) → digit_value (digit n) ≡ Some n
    by (inl k) = ap (λ b. digit_value (cond b (48 + n) (87 + n))) (lt-ltb n 10 k) ∙ value_below n k
    by (inr k) = ap (λ b. digit_value (cond b (48 + n) (87 + n))) (le-ltb n 10 k) ∙ value_above n k h

pub hex_back : HexBack
hex_back [] a = refl
hex_back (b ∷ bs) a =
    let p = value-digit (b / 16) (let h = a.0 in omega arith) in
    let q = value-digit (b % 16) (omega arith) in
    let r = hex_back bs a.1 in
    let e : 16 * (b / 16) + b % 16 ≡ b = omega arith in
    (λ i. with_byte (byte_value (p i) (q i)) (r i)) ∙ ap (λ x. Some (x ∷ bs)) e

-- one byte more is written
pub hex_more : (done next bs : Bytes) (i : ℕ) → i < length bs → next ≡ done ++ (digit (get_or bs i 0 / 16) ∷ digit (get_or bs i 0 % 16) ∷ []) → next ++ hex_text (drop (i + 1) bs) ≡ done ++ hex_text (drop i bs)
hex_more done next bs i h e =
    let two = digit (get_or bs i 0 / 16) ∷ digit (get_or bs i 0 % 16) ∷ [] in
    ap (λ x. x ++ hex_text (drop (i + 1) bs)) e ∙ append_assoc done two (hex_text (drop (i + 1) bs)) ∙ ap (λ x. done ++ x) (sym (at_drop_more hex_text bs i 0 h))

pub hex_all : (done : Bytes) (bs : Bytes) (i : ℕ) → length bs ≤ i → done ≡ done ++ hex_text (drop i bs)
hex_all done bs i h = sym (ap (λ x. done ++ x) (at_drop_all hex_text bs i h) ∙ append-nil done)

-- the bytes read so far, before those to come
abbrev pub ahead : Bytes → Option Bytes → Option Bytes
ahead done None = None
ahead done (Some bs) = Some (done ++ bs)

-- an odd number of digits is no text of bytes
pub odd : (n : ℕ) (cs : Bytes) → length cs ≡ 2 * n + 1 → hex_bytes cs ≡ None
odd n [] h = absurd (omega arith)
odd n (a ∷ []) h = refl
odd zero (a ∷ b ∷ cs) h = absurd (omega arith)
odd (suc n) (a ∷ b ∷ cs) h = ap (with_byte (byte_value (digit_value a) (digit_value b))) (odd n cs (omega arith)) ∙ by (byte_value (digit_value a) (digit_value b))
  where
    by : (x : Option ℕ) → with_byte x None ≡ None
    by None = refl
    by (Some x) = refl

-- an even number is read two by two
abbrev pub pair_value : Bytes → Option ℕ
pair_value p = byte_value (digit_value (get_or p 0 0)) (digit_value (get_or p 1 0))

abbrev pub pairs_bytes : List Bytes → Option Bytes
pairs_bytes [] = Some []
pairs_bytes (p ∷ ps) = with_byte (pair_value p) (pairs_bytes ps)

pub even : (n : ℕ) (cs : Bytes) → length cs ≡ 2 * n → pairs_bytes (first_chunks 2 n cs) ≡ hex_bytes cs
even zero [] h = refl
even zero (a ∷ cs) h = absurd (omega arith)
even (suc n) [] h = absurd (omega arith)
even (suc n) (a ∷ []) h = absurd (omega arith)
even (suc n) (a ∷ b ∷ cs) h = ap (with_byte (byte_value (digit_value a) (digit_value b))) (even n cs (omega arith))

one_more : (done : Bytes) (b : ℕ) (r : Option Bytes) → ahead (done ++ b ∷ []) r ≡ ahead done (with_byte (Some b) r)
one_more done b None = refl
one_more done b (Some bs) = ap (λ x. Some x) (append_assoc done (b ∷ []) bs)

module _ (done : Bytes) (ps : List Bytes) (i : ℕ) (h : i < length ps) where
  next_pair : (x : Option ℕ) → x ≡ pair_value (get_or ps i []) → ahead done (with_byte x (pairs_bytes (drop (i + 1) ps))) ≡ ahead done (pairs_bytes (drop i ps))
  next_pair x e = ap (λ x. ahead done (with_byte x (pairs_bytes (drop (i + 1) ps)))) e ∙ ap (ahead done) (sym (at_drop_more pairs_bytes ps i [] h))

  pub byte_next : (b : ℕ) → Some b ≡ pair_value (get_or ps i []) → ahead (done ++ b ∷ []) (pairs_bytes (drop (i + 1) ps)) ≡ ahead done (pairs_bytes (drop i ps))
  byte_next b e = one_more done b _ ∙ next_pair (Some b) e

  pub byte_none : None ≡ pair_value (get_or ps i []) → None ≡ ahead done (pairs_bytes (drop i ps))
  byte_none e = next_pair None e

pub byte_all : (done : Bytes) (ps : List Bytes) (i : ℕ) → length ps ≤ i → Some done ≡ ahead done (pairs_bytes (drop i ps))
byte_all done ps i h = sym (ap (ahead done) (at_drop_all pairs_bytes ps i h) ∙ ap (λ x. Some x) (append-nil done))
