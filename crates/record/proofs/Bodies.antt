-- One entry written as a body, and read back.
use Rattle.std.specs.Result.{result_ok}
use Rattle.std.proofs.Common.{◌≡◌, ℕ, ◌+◌, ◌*◌, ◌^◌, ◌<◌, ◌≤◌, Bool, true, false, cond, eqb, [], ◌∷◌, ◌++◌, length, get_or, take, drop, Some, None, Ok, Err, Result, sym, refl, ap, ◌∙◌, arith}
use Rattle.std.proofs.lemmas.List.{get_or-drop, length-drop, drop_all, drop-drop, drop_more, take-append-drop, append_assoc}
use Rattle.std.proofs.lemmas.Bool.{and_parts, and_from, and_left}
use Rattle.std.proofs.lemmas.Slice.Eq.{bytes_eq-Decides}
use Rattle.names.specs.Names.{Bytes, is_name}
use Rattle.record.specs.Entries.{EntryValue, Fitting, stamp_of}
use Rattle.record.specs.Written.{four, body, kind_byte}
use Rattle.record.specs.Codes.{code_of, Decodes}
use Rattle.record.specs.Read.{number_of_two, number_of_four, kind_from, entry_from, is_body}
use Rattle.record.specs.declared.entry.Kind.{Kind}
use Rattle.record.specs.declared.entry.NoKind.{NoKind}
use Rattle.record.specs.declared.entry.Kind.TheVariants.{Script, Need, Absent}
use Rattle.record.proofs.Numbers.{AreBytes, rest_bytes, two_back, two_fits, two_front, four_back, four-fits, four_front}

abbrev entry : Kind → ℕ → Bytes → EntryValue
entry k l n = record { kind = k; line = l; name = n }

by_kind : (k : Kind) (l : ℕ) (n : Bytes) → l < 2 ^ 16 → stamp_of k < 2 ^ 32 → entry_from (body (entry k l n)) ≡ entry k l n
by_kind (Script s) l n h f = λ i. entry (Script (four_back s f i)) (two_back l h i) n
by_kind (Need s) l n h f = λ i. entry (Need (four_back s f i)) (two_back l h i) n
by_kind Absent l n h f = λ i. entry Absent (two_back l h i) n

pub body_back : (e : EntryValue) → Fitting e → entry_from (body e) ≡ e
body_back e f = by_kind e.kind e.line e.name f.line_fits f.stamp_fits

stamp_back : (k : Kind) (l : ℕ) (n : Bytes) → stamp_of (entry_from (body (entry k l n))).kind < 2 ^ 32
stamp_back (Script s) l n = four-fits s
stamp_back (Need s) l n = four-fits s
stamp_back Absent l n = omega arith

-- what a body says fits
pub line_back : (e : EntryValue) → (entry_from (body e)).line < 2 ^ 16
line_back e = two_fits e.line

pub kind_back : (e : EntryValue) → stamp_of (entry_from (body e)).kind < 2 ^ 32
kind_back e = stamp_back e.kind e.line e.name

pub length-body : (e : EntryValue) → length (body e) ≡ 7 + length e.name
length-body e = omega arith

-- bytes that are no body: too short, with no lawful name, or with a kind and a stamp that no entry has
pub no_name : (b : Bytes) → is_name (drop 7 b) ≡ false → is_body b ≡ false
unfolding is_body
no_name b h = and_left (is_name (drop 7 b)) _ h

pub too_short : (b : Bytes) → length b < 7 → is_body b ≡ false
unfolding is_name
too_short b h = no_name b (ap is_name (drop_all 7 b (omega arith)))

stamp_below : (k s : ℕ) → s < 2 ^ 32 → stamp_of (kind_from k s) < 2 ^ 32
stamp_below k s h = by (eqb k 0) (eqb k 1)
  where
    by : (p q : Bool) → stamp_of (cond p (Script s) (cond q (Need s) Absent)) < 2 ^ 32
    by true q = h
    by false true = h
    by false false = omega arith

body-parts : (b : Bytes) → is_body b ≡ true → body (entry_from b) ≡ b
unfolding is_body
body-parts b h = (bytes_eq-Decides (body (entry_from b)) b).0 (and_parts (is_name (drop 7 b)) _ h).1

pub no_kind : (b : Bytes) (k s : ℕ) → get_or b 0 0 ≡ k → number_of_four (drop 3 b) ≡ s → s < 2 ^ 32 → ((κ : Kind) → code_of κ ≡ (k, s) → ⊥) → is_body b ≡ false
no_kind b k s ek es f h = by (is_body b) refl
  where
    by : (t : Bool) → is_body b ≡ t → t ≡ false
    by false e = refl
    by true e =
        let w = body-parts b e in
        let K : kind_from (get_or b 0 0) (number_of_four (drop 3 b)) ≡ kind_from k s = (λ i. kind_from (ek i) (es i)) in
        let p : kind_byte (kind_from k s) ≡ k = ap kind_byte (sym K) ∙ ap (λ x. get_or x 0 0) w ∙ ek in
        let q : stamp_of (kind_from k s) ≡ s =
        sym (four_back (stamp_of (kind_from k s)) (stamp_below k s f)) ∙ ap (λ x. number_of_four (four (stamp_of x))) (sym K) ∙ ap (λ x. number_of_four (drop 3 x)) w ∙ es in
        absurd (h (kind_from k s) (λ i. (p i, q i)))

-- what the first seven bytes of a body say
front_said : (b : Bytes) → (get_or (take 7 b) 0 0 ≡ get_or b 0 0) × (number_of_two (drop 1 (take 7 b)) ≡ number_of_two (drop 1 b)) × (number_of_four (drop 3 (take 7 b)) ≡ number_of_four (drop 3 b))
front_said [] = (refl, refl, refl)
front_said (k ∷ []) = (refl, refl, refl)
front_said (k ∷ a ∷ []) = (refl, refl, refl)
front_said (k ∷ a ∷ b ∷ []) = (refl, refl, refl)
front_said (k ∷ a ∷ b ∷ c ∷ []) = (refl, refl, refl)
front_said (k ∷ a ∷ b ∷ c ∷ d ∷ []) = (refl, refl, refl)
front_said (k ∷ a ∷ b ∷ c ∷ d ∷ e ∷ []) = (refl, refl, refl)
front_said (k ∷ a ∷ b ∷ c ∷ d ∷ e ∷ f ∷ bs) = (refl, refl, refl)

pub head_said : (b h : Bytes) → h ≡ take 7 b →
    (get_or h 0 0 ≡ get_or b 0 0) × (get_or h 1 0 + get_or h 2 0 * 256 ≡ number_of_two (drop 1 b))
    × (get_or h 3 0 + get_or h 4 0 * 256 + get_or h 5 0 * 65536 + get_or h 6 0 * 16777216 ≡ number_of_four (drop 3 b))
head_said b h e =
    let t = front_said b in
    let at = λ (n i : ℕ). get_or-drop n h i 0 in (
      ap (λ x. get_or x 0 0) e ∙ t.0,
      (λ i. sym (at 1 0) i + sym (at 1 1) i * 256) ∙ ap (λ x. number_of_two (drop 1 x)) e ∙ t.1,
      (λ i. sym (at 3 0) i + sym (at 3 1) i * 256 + sym (at 3 2) i * 65536 + sym (at 3 3) i * 16777216) ∙ ap (λ x. number_of_four (drop 3 x)) e ∙ t.2,
    )

-- the kind that a code gave, or that none has it
pub decoded : (code : ℕ × ℕ) (r : Result Kind NoKind) (k : Kind) → Decodes code r → Some k ≡ result_ok r → code_of k ≡ code
decoded code (Ok j) k d e = let same : k ≡ j = cc in ap code_of same ∙ d
decoded code (Err x) k d e = absurd (let z : ◌≡◌ {A = ℕ} 0 1 = cc in omega arith)

pub undecoded : (code : ℕ × ℕ) (r : Result Kind NoKind) → Decodes code r → None ≡ result_ok r → (k : Kind) → code_of k ≡ code → ⊥
undecoded code (Ok j) d e = absurd (let z : ◌≡◌ {A = ℕ} 0 1 = cc in omega arith)
undecoded code (Err x) d e = d

-- a body in its parts
cut : (b : Bytes) → 7 ≤ length b → get_or b 0 0 ∷ ((take 2 (drop 1 b) ++ take 4 (drop 3 b)) ++ drop 7 b) ≡ b
cut b h =
    let p = take-append-drop 2 (drop 1 b) in
    let q = take-append-drop 4 (drop 3 b) in
    let d = drop-drop 2 1 b in
    let e = drop-drop 4 3 b in
    let a = append_assoc (take 2 (drop 1 b)) (take 4 (drop 3 b)) (drop 7 b) in
    let r : take 4 (drop 3 b) ++ drop 7 b ≡ drop 3 b = ap (λ x. take 4 (drop 3 b) ++ x) (sym e) ∙ q in
    let s : take 2 (drop 1 b) ++ drop 3 b ≡ drop 1 b = ap (λ x. take 2 (drop 1 b) ++ x) (sym d) ∙ p in
    ap (λ x. get_or b 0 0 ∷ x) (a ∙ ap (λ x. take 2 (drop 1 b) ++ x) r ∙ s) ∙ sym (drop_more b 0 0 (omega arith))

kind_of_code : (k : Kind) → kind_from (kind_byte k) (stamp_of k) ≡ k
kind_of_code (Script s) = refl
kind_of_code (Need s) = refl
kind_of_code Absent = refl

-- the entry of a body whose kind has its byte and its stamp, and whose name is lawful
pub a_body : (b : Bytes) (k : Kind) → 7 ≤ length b → AreBytes b → code_of k ≡ (get_or b 0 0, number_of_four (drop 3 b)) → is_name (drop 7 b) ≡ true
    → (is_body b ≡ true) × (k ≡ kind_from (get_or b 0 0) (number_of_four (drop 3 b)))
unfolding is_body
a_body b k l h e n =
    let p : kind_byte k ≡ get_or b 0 0 = ap (λ (x : ℕ × ℕ). x.0) e in
    let q : stamp_of k ≡ number_of_four (drop 3 b) = ap (λ (x : ℕ × ℕ). x.1) e in
    let same : k ≡ kind_from (get_or b 0 0) (number_of_four (drop 3 b)) = sym (kind_of_code k) ∙ (λ i. kind_from (p i) (q i)) in
    let d = length-drop 1 b in
    let f = length-drop 3 b in
    let t = two_front (drop 1 b) (omega arith) (rest_bytes 1 b h) in
    let u = four_front (drop 3 b) (omega arith) (rest_bytes 3 b h) in
    let w : body (entry_from b) ≡ b =
    (λ i. (ap kind_byte (sym same) ∙ p) i ∷ ((t i ++ (ap (λ x. four (stamp_of x)) (sym same) ∙ ap four q ∙ u) i) ++ drop 7 b)) ∙ cut b l in
    (and_from (is_name (drop 7 b)) _ n ((bytes_eq-Decides _ _).1 w), same)
