-- A script is never a target: the candidates of a target have no candidates themselves.
use Rattle.std.proofs.Common.{◌≡◌, ℕ, ◌-◌, Bool, true, false, cond, List, [], ◌∷◌, ◌++◌, length, drop, Some, None, codes, Option, sym, refl, ap, ◌∙◌, append_assoc, arith, length-append}
use Rattle.std.specs.Str.{bytes_eq}
use Rattle.std.proofs.lemmas.Slice.Eq.{bytes_eq-Decides}
use Rattle.std.proofs.lemmas.List.{drop-append-le, drop_all}
use Rattle.names.specs.Names.{Bytes, is_name}
use Rattle.script.specs.Candidates.{Candidate, ends_in, own, ending_by, by_ending, fallback, candidates}

abbrev pub Scripts : List Candidate → Type 0
Scripts [] = Unit {0}
Scripts (c ∷ cs) = (candidates c.script ≡ []) × Scripts cs

ends_itself : (x d : Bytes) → ends_in d (x ++ d) ≡ true
ends_itself x d =
    let e : length (x ++ d) - length d ≡ length x = omega (arith, length-append x d) in
    ap (λ (k : ℕ). bytes_eq d (drop k (x ++ d))) e
    ∙ (ap (bytes_eq d) (drop-append-le (length x) x d (omega arith) ∙ ap (λ (l : Bytes). l ++ d) (drop_all (length x) x (omega arith))) ∙ (bytes_eq-Decides d d).1 refl)

no-candidates : (s : Bytes) → ends_in (codes ".do") s ≡ true → candidates s ≡ []
unfolding candidates
no-candidates s h = rw h

pub script_has_none : (x : Bytes) → candidates (x ++ codes ".do") ≡ []
script_has_none x = no-candidates (x ++ codes ".do") (ends_itself x (codes ".do"))

both : (xs ys : List Candidate) → Scripts xs → Scripts ys → Scripts (xs ++ ys)
both [] ys p q = q
both (x ∷ xs) ys p q = (p.0, both xs ys p.1 q)

by_test : (b : Bool) (s stem : Bytes) → candidates s ≡ [] → Scripts (cond b (record { script = s; stem = stem } ∷ []) [])
by_test true s stem h = (h, tt)
by_test false s stem h = tt

ending : (o : Option (Bytes × Bytes)) → Scripts (ending_by o)
ending None = tt
ending (Some p) =
    by_test (is_name (codes "default." ++ (p.1 ++ codes ".do"))) _ p.0
    (ap candidates (sym (append_assoc (codes "default.") p.1 (codes ".do"))) ∙ script_has_none (codes "default." ++ p.1))

pub scripts : (t : Bytes) → Scripts (candidates t)
unfolding candidates
scripts t = all (ends_in (codes ".do") t)
  where
    all : (b : Bool) → Scripts (cond b [] (own t ++ (by_ending t ++ fallback t)))
    all true = tt
    all false =
        both (own t) (by_ending t ++ fallback t) (by_test (is_name (t ++ codes ".do")) _ t (script_has_none t))
        (both (by_ending t) (fallback t) (ending _) (script_has_none (codes "default"), tt))
