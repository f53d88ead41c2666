-- What is made of a name by an ending is a name, if it is short enough.
use Rattle.std.proofs.Common.{◌≡◌, ℕ, ◌+◌, ◌≤◌, Bool, true, false, cond, not, leb, [], ◌∷◌, ◌++◌, length, Some, None, codes, Option, sym, refl, ap, ◌∙◌, subst, true≢false, arith, length-append}
use Rattle.std.proofs.lemmas.Bool.{cases_Bool, leb-true, leb-false}
use Rattle.names.specs.Limits.{name_max}
use Rattle.names.specs.Names.{Bytes, is_name, dot, plain}
use Rattle.names.proofs.Scan.{scan, lawful_is, lawful-short, too_long}
use Rattle.script.specs.Candidates.{cut_more, cut_last}
use Rattle.script.specs.Laws.{CandidatesAreSkippedForLength}

-- one byte more in front
in_front : (D d P x y x' y' : Bool) → (x ≡ true → x' ≡ true) → (y ≡ true → y' ≡ true)
    → cond D (cond d false x) (cond P y false) ≡ true → cond D (cond d false x') (cond P y' false) ≡ true
in_front D d P x y x' y' p q h = grind (arith, cases_Bool D, cases_Bool d, cases_Bool P)

scan_do : (d : Bool) (s : Bytes) → scan d s ≡ true → scan d (s ++ codes ".do") ≡ true
scan_do true [] h = absurd (true≢false (sym h))
scan_do false [] h = refl
scan_do d (b ∷ bs) h = in_front (dot b) d (plain b) _ _ _ _ (scan_do true bs) (scan_do false bs) h

-- behind a dot, and before it
behind_dot : (D d P x y : Bool) → D ≡ true → cond D (cond d false x) (cond P y false) ≡ true → (d ≡ false) × (x ≡ true)
behind_dot D d P x y e h = grind (arith, cases_Bool D, cases_Bool d)

scan_tail : (D d P x y : Bool) (E : Type 0) → (x ≡ true → E) → (y ≡ true → E) → cond D (cond d false x) (cond P y false) ≡ true → E
scan_tail true true P x y E p q h = absurd (cc)
scan_tail true false P x y E p q h = p h
scan_tail false d true x y E p q h = q h
scan_tail false d false x y E p q h = absurd (cc)

abbrev Cut : Type 0
Cut = Option (Bytes × Bytes)

cut_here : (b : ℕ) (bs a e : Bytes) (D : Bool) → dot b ≡ D → cond {A = Cut} D (Some ([], bs)) None ≡ Some (a, e) → (dot b ≡ true) × ([] ≡ a) × (bs ≡ e)
cut_here b bs a e true h k =
    let q : ◌≡◌ {A = Bytes × Bytes} ([], bs) (a, e) = cc in
    (h, ap (λ (x : Bytes × Bytes). x.0) q, ap (λ (x : Bytes × Bytes). x.1) q)
cut_here b bs a e false h k = absurd (cc)

abbrev Parts : Bool → Bytes → Bytes → Bytes → Type 0
Parts d t a e = (scan d a ≡ true) × (scan true e ≡ true) × (length a ≤ length t)

module _ (d : Bool) (b : ℕ) (bs a e : Bytes) (h : scan d (b ∷ bs) ≡ true)
    (shorter : (c : Bool) (x y : Bytes) → scan c bs ≡ true → cut_last bs ≡ Some (x, y) → Parts c bs x y) where
  by_rest : (o : Cut) → cut_last bs ≡ o → cut_more b bs o ≡ Some (a, e) → Parts d (b ∷ bs) a e
  by_rest None n m =
      let c = cut_here b bs a e (dot b) refl m in
      let s = behind_dot (dot b) d (plain b) (scan true bs) (scan false bs) c.0 h in (
        subst (λ (x : Bytes). scan d x ≡ true) c.1 (ap not s.0),
        subst (λ (x : Bytes). scan true x ≡ true) c.2 s.1,
        subst (λ (x : Bytes). length x ≤ length (b ∷ bs)) c.1 (omega arith),
      )
  by_rest (Some p) n m =
      let q : ◌≡◌ {A = Bytes × Bytes} (b ∷ p.0, p.1) (a, e) = cc in
      let qa : b ∷ p.0 ≡ a = ap (λ (x : Bytes × Bytes). x.0) q in
      let qe : p.1 ≡ e = ap (λ (x : Bytes × Bytes). x.1) q in
      let front = in_front (dot b) d (plain b) (scan true bs) (scan false bs) (scan true p.0) (scan false p.0)
      (λ k. (shorter true p.0 p.1 k n).0) (λ k. (shorter false p.0 p.1 k n).0) h in
      let back = scan_tail (dot b) d (plain b) (scan true bs) (scan false bs) (scan true p.1 ≡ true)
      (λ k. (shorter true p.0 p.1 k n).1) (λ k. (shorter false p.0 p.1 k n).1) h in
      let less : length p.0 ≤ length bs = scan_tail (dot b) d (plain b) (scan true bs) (scan false bs) (length p.0 ≤ length bs)
      (λ k. (shorter true p.0 p.1 k n).2) (λ k. (shorter false p.0 p.1 k n).2) h in (
        subst (λ (x : Bytes). scan d x ≡ true) qa front,
        subst (λ (x : Bytes). scan true x ≡ true) qe back,
        subst (λ (x : Bytes). length x ≤ length (b ∷ bs)) qa (omega arith),
      )

scan_parts : (d : Bool) (t a e : Bytes) → scan d t ≡ true → cut_last t ≡ Some (a, e) → Parts d t a e
scan_parts d [] a e h k = absurd (cc)
scan_parts d (b ∷ bs) a e h k = by_rest d b bs a e h (λ c x y. scan_parts c bs x y) (cut_last bs) refl k

name_by_length : (s : Bytes) (b : Bool) → leb (length s) name_max ≡ b → scan true s ≡ true → is_name s ≡ b
name_by_length s true h k = lawful_is s (leb-true _ _ h) ∙ k
name_by_length s false h k = too_long s (leb-false _ _ h)

pub candidates_are_skipped_for_length : CandidatesAreSkippedForLength
candidates_are_skipped_for_length t h =
    let n = lawful-short t h in
    let s : scan true t ≡ true = sym (lawful_is t n) ∙ h in (
      name_by_length (t ++ codes ".do") _ (ap (λ (k : ℕ). leb k name_max) (length-append t (codes ".do"))) (scan_do true t s),
      λ stem ending k.
          let p = scan_parts true t stem ending s k in
          let l : length (codes "default." ++ (ending ++ codes ".do")) ≡ length ending + 11 = omega (arith, length-append ending (codes ".do")) in (
            lawful_is stem (omega (arith, p.2)) ∙ p.0,
            name_by_length (codes "default." ++ (ending ++ codes ".do")) _ (ap (λ (k : ℕ). leb k name_max) l) (scan_do true ending p.1),
          ),
    )
