-- A text cut at a byte: at the first that is c, and at the last dot.
use Rattle.std.proofs.Common.{◌≡◌, ◌≢◌, ℕ, zero, suc, ◌+◌, ◌-◌, ◌<◌, ◌≤◌, Bool, true, false, cond, not, eqb, [], ◌∷◌, length, get_or, take, drop, Some, None, refl, sym, ap, ◌∙◌, add-one, arith}
use Rattle.std.specs.List.{position, position_or_len, before_first, after_first}
use Rattle.std.proofs.lemmas.List.{take_all, drop_all, take_rest, length-take-le}
use Rattle.std.proofs.lemmas.Bool.{ltb-false, eq-eqb, ne_eqb}
use Rattle.names.specs.Names.{Bytes}
use Rattle.script.specs.Lines.{before, after}
use Rattle.script.specs.Candidates.{cut_more, cut_last}

one_before : (t : Bool) (n x : ℕ) (xs : Bytes) → take (cond (not t) (1 + n) 0) (x ∷ xs) ≡ cond t [] (x ∷ take n xs)
one_before true n x xs = refl
one_before false n x xs = let e : 1 + n ≡ suc n = omega arith in ap (λ (k : ℕ). take k (x ∷ xs)) e

one_after : (t : Bool) (n x : ℕ) (xs : Bytes) → drop (cond (not t) (1 + n) 0 + 1) (x ∷ xs) ≡ cond t xs (drop (n + 1) xs)
one_after true n x xs = refl
one_after false n x xs = let e : 1 + n + 1 ≡ suc (n + 1) = omega arith in ap (λ (k : ℕ). drop k (x ∷ xs)) e

hit : (b : Bool) (n i : ℕ) → cond b (Some n) None ≡ Some i → n ≡ i
hit true n i h = cc
hit false n i h = cc

miss : (b : Bool) (n : ℕ) → cond b (Some n) None ≡ None → b ≡ false
miss true n h = cc
miss false n h = refl

module _ (c : ℕ) where
  is_before : (bs : Bytes) → before c bs ≡ before_first (λ b. eqb b c) bs
  is_before [] = refl
  is_before (b ∷ bs) = ap (λ xs. cond (eqb b c) [] (b ∷ xs)) (is_before bs) ∙ sym (one_before (eqb b c) (position_or_len (λ b. eqb b c) bs) b bs)

  is_after : (bs : Bytes) → after c bs ≡ after_first (λ b. eqb b c) bs
  is_after [] = refl
  is_after (b ∷ bs) = ap (λ xs. cond (eqb b c) bs xs) (is_after bs) ∙ sym (one_after (eqb b c) (position_or_len (λ b. eqb b c) bs) b bs)

  module _ (bs : Bytes) where
    pub front_at : (i : ℕ) → position (λ b. eqb b c) bs ≡ Some i → take i bs ≡ before c bs
    front_at i h = ap (λ (k : ℕ). take k bs) (sym (hit _ _ i h)) ∙ sym (is_before bs)

    pub behind_at : (i : ℕ) → position (λ b. eqb b c) bs ≡ Some i → take (length bs - (i + 1)) (drop (i + 1) bs) ≡ after c bs
    behind_at i h = take_rest bs (i + 1) ∙ (ap (λ (k : ℕ). drop (k + 1) bs) (sym (hit _ _ i h)) ∙ sym (is_after bs))

    all : position (λ b. eqb b c) bs ≡ None → length bs ≤ position_or_len (λ b. eqb b c) bs
    all h = ltb-false _ _ (miss _ _ h)

    pub front_whole : position (λ b. eqb b c) bs ≡ None → bs ≡ before c bs
    front_whole h = sym (is_before bs ∙ take_all _ bs (all h))

    pub behind_none : position (λ b. eqb b c) bs ≡ None → [] ≡ after c bs
    behind_none h = let k = all h in sym (is_after bs ∙ drop_all _ bs (omega arith))

-- no byte is a dot
pub dotless : (t : Bytes) → ((k : ℕ) → k < length t → get_or t k 0 ≢ 46) → cut_last t ≡ None
dotless [] h = refl
dotless (b ∷ t) h =
    let q = ne_eqb b 46 (h 0 (omega arith)) in
    ap (cut_more b t) (dotless t (λ k l. h (suc k) (omega arith))) ∙ rw q

dot_at : (t : Bytes) (i : ℕ) → i < length t → get_or t i 0 ≡ 46 → ((k : ℕ) → i < k → k < length t → get_or t k 0 ≢ 46)
    → cut_last t ≡ Some (take i t, drop (suc i) t)
dot_at [] i l h f = absurd (omega arith)
dot_at (b ∷ t) zero l h f =
    let q = eq-eqb b 46 h in
    ap (cut_more b t) (dotless t (λ k m. f (suc k) (omega arith) (omega arith))) ∙ rw q
dot_at (b ∷ t) (suc i) l h f = ap (cut_more b t) (dot_at t i (omega arith) h (λ k m n. f (suc k) (omega arith) (omega arith)))

pub last_dot : (t : Bytes) (i : ℕ) → i < length t → get_or t i 0 ≡ 46 → ((k : ℕ) → i < k → k < length t → get_or t k 0 ≢ 46)
    → (cut_last t ≡ Some (take i t, take (length t - (i + 1)) (drop (i + 1) t))) × (take (length (take i t)) t ≡ take i t)
last_dot t i l h f = (
  dot_at t i l h f ∙ ap (λ (x : Bytes). Some (take i t, x)) (ap (λ (k : ℕ). drop k t) (sym (add-one i)) ∙ sym (take_rest t (i + 1))),
  ap (λ (k : ℕ). take k t) (length-take-le i t (omega arith)),
)
