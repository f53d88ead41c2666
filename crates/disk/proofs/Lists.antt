-- Lists of keys.
use Rattle.std.proofs.Common.{◌≡◌, ℕ, suc, ◌<◌, ◌≤◌, Bool, true, false, cond, not, ◌&&◌, eqb, ltb, List, [], ◌∷◌, length, Some, None, Option, sym, refl, ap, ◌∙◌, subst, arith}
use Rattle.std.proofs.lemmas.Bool.{eqb-true, eq-eqb, and_parts, and_from, both_ways, not-true, ltb-true, ltb-false}
use Rattle.std.specs.List.{position, position_or_len}
use Rattle.std.proofs.lemmas.Slice.Eq.{bytes_eq-Decides}
use Rattle.std.specs.Str.{bytes_eq}
use Rattle.disk.specs.Keys.{KeyId, same_key}
use Rattle.disk.specs.Calls.{keep}
use Rattle.disk.specs.Lawful.{member, distinct}

pub by_cases : {P : Type 0} (b : Bool) → (b ≡ true → P) → (b ≡ false → P) → P
by_cases true p q = p refl
by_cases false p q = q refl

abbrev key : ℕ → List ℕ → KeyId
key k n = record { kind = k; name = n }

parts : (k l : ℕ) (n o : List ℕ) → k ≡ l → n ≡ o → key k n ≡ key l o
parts k l n o e f = ap (λ x. key x n) e ∙ ap (λ x. key l x) f

pub same-key_is : (a b : KeyId) → same_key a b ≡ true → a ≡ b
same-key_is a b h =
    let e : (eqb a.kind b.kind ≡ true) × (bytes_eq a.name b.name ≡ true) = and_parts _ _ h in
    parts a.kind b.kind a.name b.name (eqb-true _ _ e.0) ((bytes_eq-Decides a.name b.name).0 e.1)

pub same_key_refl : (a : KeyId) → same_key a a ≡ true
same_key_refl a = and_from _ _ (eq-eqb _ _ refl) ((bytes_eq-Decides a.name a.name).1 refl)

pub same_key_sym : (a b : KeyId) → same_key a b ≡ true → same_key b a ≡ true
same_key_sym a b h = rw (same-key_is a b h) (same_key_refl b)

abbrev pub without : KeyId → List KeyId → List KeyId
without k [] = []
without k (j ∷ js) = cond (same_key j k) js (j ∷ without k js)

pub length_without : (k : KeyId) (js : List KeyId) → member k js ≡ true → suc (length (without k js)) ≡ length js
length_without k [] h = absurd (both_ways _ refl h)
length_without k (j ∷ js) h =
    by_cases (same_key j k) (λ e. rw e refl) (λ e. let t = rw e at h in rw e (ap suc (length_without k js t)))

-- the other keys stay, in a list that has each once
pub member_without : (k j : KeyId) (js : List KeyId) → distinct js ≡ true → member j (without k js) ≡ (not (same_key k j) && member j js)
member_without k j [] d = by_cases (same_key k j) (λ e. rw e refl) (λ e. rw e refl)
member_without k j (i ∷ js) d =
    let p : (not (member i js) ≡ true) × (distinct js ≡ true) = and_parts _ _ d in
    by_cases (same_key i k)
    (λ e. let ik = same-key_is i k e in
    by_cases (same_key k j)
    (λ f. let kj = same-key_is k j f in rw (e, f) (subst (λ x. member x js ≡ false) (ik ∙ kj) (not-true _ p.0)))
    (λ f. rw (e, f) (let g : same_key i j ≡ false = subst (λ x. same_key x j ≡ false) (sym ik) f in rw g refl)))
    (λ e. let r = member_without k j js p.1 in
    by_cases (same_key k j)
    (λ f. let kj = same-key_is k j f in
    let g : same_key i j ≡ false = subst (λ x. same_key i x ≡ false) kj e in
    let r2 = rw f at r in rw (e, f, g) r2)
    (λ f. let r2 = rw f at r in rw (e, f, r2) refl))

-- x is not among the rest
pub distinct_without : (k : KeyId) (js : List KeyId) → distinct js ≡ true → distinct (without k js) ≡ true
distinct_without k [] d = refl
distinct_without k (i ∷ js) d =
    let p : (not (member i js) ≡ true) × (distinct js ≡ true) = and_parts _ _ d in
    by_cases (same_key i k) (λ e. rw e p.1)
    (λ e. let r = member_without k i js p.1 in let n = not-true _ p.0 in
    rw (e, r, n, distinct_without k js p.1) (by_cases (same_key k i) (λ f. rw f refl) (λ f. rw f refl)))

-- two lists with the same keys, each once, are as long
pub same_length : (xs ys : List KeyId) → distinct xs ≡ true → distinct ys ≡ true → ((k : KeyId) → member k xs ≡ member k ys) → length xs ≡ length ys
same_length [] [] d e h = refl
same_length [] (y ∷ ys) d e h = absurd (both_ways (member y (y ∷ ys)) (sym (h y)) (rw same_key_refl refl))
same_length (x ∷ xs) ys d e h =
    let p : (not (member x xs) ≡ true) × (distinct xs ≡ true) = and_parts _ _ d in
    let n = not-true _ p.0 in
    let i : member x ys ≡ true = sym (h x) ∙ rw same_key_refl refl in
    let same : (k : KeyId) → member k xs ≡ member k (without x ys) = λ k. rw (member_without x k ys e)
    (by_cases (same_key x k)
    (λ f. rw f (subst (λ z. member z xs ≡ false) (same-key_is x k f) n))
    (λ f. let g = rw f at (h k) in rw f g)) in
    ap suc (same_length xs (without x ys) p.1 (distinct_without x ys e) same) ∙ length_without x ys i

-- what is kept of a list
pub member-keep : (q : KeyId → Bool) (k : KeyId) (js : List KeyId) → member k (keep q js) ≡ (q k && member k js)
member-keep q k [] = by_cases (q k) (λ e. rw e refl) (λ e. rw e refl)
member-keep q k (j ∷ js) =
    let r = member-keep q k js in
    by_cases (same_key j k)
    (λ e. let jk = same-key_is j k e in by_cases (q j)
    (λ f. let g : q k ≡ true = subst (λ z. q z ≡ true) jk f in rw (f, e, g) refl)
    (λ f. let g : q k ≡ false = subst (λ z. q z ≡ false) jk f in let r2 = rw g at r in rw (f, g) r2))
    (λ e. by_cases (q j) (λ f. rw (f, e) r) (λ f. rw (f, e) r))

pub distinct-keep : (q : KeyId → Bool) (js : List KeyId) → distinct js ≡ true → distinct (keep q js) ≡ true
distinct-keep q [] d = refl
distinct-keep q (j ∷ js) d =
    let p : (not (member j js) ≡ true) × (distinct js ≡ true) = and_parts _ _ d in
    let n = not-true _ p.0 in
    by_cases (q j) (λ f. rw (f, member-keep q j js, f, n, distinct-keep q js p.1) refl) (λ f. rw f (distinct-keep q js p.1))

pub length-keep : (q : KeyId → Bool) (js : List KeyId) → length (keep q js) ≤ length js
length-keep q [] = omega arith
length-keep q (j ∷ js) = let r = length-keep q js in by_cases (q j) (λ f. rw f (omega arith)) (λ f. rw f (omega arith))

-- what a search of a list gave, by the number that it counts to
pub position-some : {X : Type 0} (p : X → Bool) (xs : List X) (i : ℕ) → position p xs ≡ Some i → (i ≡ position_or_len p xs) × (i < length xs)
position-some p xs i e = by_cases (ltb (position_or_len p xs) (length xs))
    (λ t. let f : Some (position_or_len p xs) ≡ Some i = rw t at e in let n : i ≡ position_or_len p xs = sym (cc) in let l = ltb-true _ _ t in (n, omega (arith, n, l)))
    (λ t. let f : ◌≡◌ {A = Option ℕ} None (Some i) = rw t at e in cc)

pub position_none : {X : Type 0} (p : X → Bool) (xs : List X) → position p xs ≡ None → length xs ≤ position_or_len p xs
position_none p xs e = by_cases (ltb (position_or_len p xs) (length xs))
    (λ t. let f : ◌≡◌ {A = Option ℕ} (Some (position_or_len p xs)) None = rw t at e in cc)
    (λ t. ltb-false _ _ t)
