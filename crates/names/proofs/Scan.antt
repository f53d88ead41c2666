-- A name read byte by byte, knowing only whether a dot came just before.
use Rattle.std.proofs.Common.{◌≡◌, ℕ, ◌+◌, ◌<◌, ◌≤◌, Bool, true, false, cond, not, ◌&&◌, ◌||◌, leb, List, [], ◌∷◌, length, get_or, drop, refl, ◌∙◌, arith}
use Rattle.std.proofs.lemmas.Bool.{cases_Bool, le-leb, lt-leb, leb-true, and_parts}
use Rattle.std.proofs.lemmas.List.{at_drop_more}
use Rattle.names.specs.Names.{dot, plain, allowed, ends_with_dot as closes, has_two_dots_in_a_row as twin, is_name}

abbrev pub scan : Bool → List ℕ → Bool
scan d [] = not d
scan d (b ∷ bs) = cond (dot b) (cond d false (scan true bs)) (cond (plain b) (scan false bs) false)

one : (d B P : Bool) → cond B (cond d false false) (cond P true false) ≡ (not (d && B) && (((P || B) && true) && (not B && true)))
one d B P = grind (arith, cases_Bool d, cases_Bool B, cases_Bool P)

more : (d B P E al cl tw : Bool) → cond B (cond d false (not E && (al && (not cl && not tw)))) (cond P (al && (not cl && not tw)) false)
    ≡ (not (d && B) && (((P || B) && al) && (not cl && not ((B && E) || tw))))
more d B P E al cl tw = grind (arith, cases_Bool d, cases_Bool B, cases_Bool P, cases_Bool E, cases_Bool al, cases_Bool cl, cases_Bool tw)

pub scan_is : (d : Bool) (b : ℕ) (bs : List ℕ) → scan d (b ∷ bs) ≡ (not (d && dot b) && (allowed (b ∷ bs) && (not (closes (b ∷ bs)) && not (twin (b ∷ bs)))))
scan_is d b [] = one d (dot b) (plain b)
scan_is d b (e ∷ es) = let t = scan_is true e es in let f = scan_is false e es in let m = more d (dot b) (plain b) (dot e) (allowed (e ∷ es)) (closes (e ∷ es)) (twin (e ∷ es)) in simp (t, f) m

pub lawful_is : (s : List ℕ) → length s ≤ 24 → is_name s ≡ scan true s
unfolding is_name
lawful_is [] h = refl
lawful_is (b ∷ bs) h =
    let l = le-leb (length (b ∷ bs)) 24 h in let k = le-leb 1 (length (b ∷ bs)) (omega arith) in let e = scan_is true b bs in simp (l, k, e)

-- one byte on
module _ (s : List ℕ) (d : Bool) (i : ℕ) (h : i < length s) where
  pub next_twin : dot (get_or s i 0) ≡ true → d ≡ true → scan d (drop i s) ≡ false
  next_twin p q = let e = at_drop_more (scan d) s i 0 h in e ∙ simp (p, q)

  pub next_dot : dot (get_or s i 0) ≡ true → d ≡ false → scan d (drop i s) ≡ scan true (drop (i + 1) s)
  next_dot p q = let e = at_drop_more (scan d) s i 0 h in e ∙ simp (p, q)

  pub next_plain : (plain (get_or s i 0) ≡ true) × (dot (get_or s i 0) ≡ false) → scan d (drop i s) ≡ scan false (drop (i + 1) s)
  next_plain (p, q) = let e = at_drop_more (scan d) s i 0 h in e ∙ simp (p, q)

  pub next_other : (plain (get_or s i 0) ≡ false) × (dot (get_or s i 0) ≡ false) → scan d (drop i s) ≡ false
  next_other (p, q) = let e = at_drop_more (scan d) s i 0 h in e ∙ simp (p, q)

pub lawful-short : (s : List ℕ) → is_name s ≡ true → length s ≤ 24
unfolding is_name
lawful-short s h = leb-true _ _ (and_parts (leb 1 (length s)) _ (and_parts _ _ h).0).1

pub too_long : (s : List ℕ) → 24 < length s → is_name s ≡ false
unfolding is_name
too_long s h = let e = lt-leb (length s) 24 h in let k = le-leb 1 (length s) (omega arith) in simp (e, k)
