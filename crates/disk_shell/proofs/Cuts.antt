-- Words cut at blanks.
use Rattle.std.proofs.Common.{◌≡◌, ℕ, suc, ◌<◌, ◌≢◌, false, eqb, [], ◌∷◌, ◌++◌, length, get_or, Some, None, Option, refl, ap, arith}
use Rattle.std.proofs.lemmas.Bool.{ne_eqb}
use Rattle.names.specs.Names.{Bytes}
use Rattle.disk_shell.specs.Words.{first_word, after_word, word_of, rest_of}

-- bytes with no blank
abbrev pub Unbroken : Bytes → Type 0
Unbroken s = (i : ℕ) → i < length s → get_or s i 0 ≢ 32

cut_at : (w r : Bytes) → Unbroken w → (first_word (w ++ 32 ∷ r) ≡ w) × (after_word (w ++ 32 ∷ r) ≡ Some r)
cut_at [] r h = (refl, refl)
cut_at (b ∷ w) r h =
    let n : eqb b 32 ≡ false = ne_eqb b 32 (h 0 (omega arith)) in
    let t = cut_at w r (λ i l. h (suc i) (omega arith)) in
    rw n (ap (λ (x : Bytes). b ∷ x) t.0, t.1)

uncut : (s : Bytes) → Unbroken s → (first_word s ≡ s) × (after_word s ≡ None)
uncut [] h = (refl, refl)
uncut (b ∷ s) h =
    let n : eqb b 32 ≡ false = ne_eqb b 32 (h 0 (omega arith)) in
    let t = uncut s (λ i l. h (suc i) (omega arith)) in
    rw n (ap (λ (x : Bytes). b ∷ x) t.0, t.1)

-- a word, with more of the line behind its blank; and the last word
module _ (o : Option Bytes) (line : Bytes) (e : o ≡ Some line) where
  pub next_word : (w r : Bytes) → line ≡ w ++ 32 ∷ r → Unbroken w → (Some w ≡ word_of o) × (Some r ≡ rest_of o)
  next_word w r f u = let t = cut_at w r u in rw (e, f, t.0, t.1) (refl, refl)

  pub last_word : Unbroken line → (Some line ≡ word_of o) × (None ≡ rest_of o)
  last_word u = let t = uncut line u in rw (e, t.0, t.1) (refl, refl)
