-- A search for a script among the candidates.
use Rattle.std.proofs.Common.{◌≡◌, ℕ, zero, suc, ◌<◌, Bool, true, false, ◌||◌, List, [], ◌∷◌, map, length, is_some, ap, refl, ◌∙◌, sym, arith}
use Rattle.std.specs.Bool.{MatchBool}
use Rattle.std.specs.List.{HoldsAt, AllWithin}
use Rattle.names.specs.Names.{Bytes}
use Rattle.names.specs.Spelled.{spelled}
use Rattle.script.specs.Searched.{candidate}
use Rattle.script.specs.declared.candidates.Candidate.{Candidate}
use Rattle.clean.specs.Files.{Files}
use Rattle.clean.specs.Status.{any_laid}

abbrev pub IsLaid : Files → Bool → Candidate → Type 0
IsLaid laid b c = is_some (laid (spelled c.script)) ≡ b

none_within : (laid : Files) (t : Bytes) (cs : List Candidate) → AllWithin (IsLaid laid false) cs 0 (length cs) → any_laid laid (map (candidate t) cs) ≡ false
none_within laid t [] h = refl
none_within laid t (c ∷ cs) h =
    ap (λ b. b || any_laid laid (map (candidate t) cs)) (h 0 c (omega arith) (omega arith))
    ∙ none_within laid t cs (λ k d l m. h (suc k) d (omega arith) (omega arith))

or_true : (b : Bool) → (b || true) ≡ true
or_true true = refl
or_true false = refl

some_within : (laid : Files) (t : Bytes) (cs : List Candidate) (k : ℕ) → k < length cs → HoldsAt (IsLaid laid true) cs k → any_laid laid (map (candidate t) cs) ≡ true
some_within laid t [] k l h = absurd (omega arith)
some_within laid t (c ∷ cs) zero l h = ap (λ b. b || any_laid laid (map (candidate t) cs)) (h c)
some_within laid t (c ∷ cs) (suc k) l h =
    ap (λ b. is_some (laid (spelled c.script)) || b) (some_within laid t cs k (omega arith) h) ∙ or_true (is_some (laid (spelled c.script)))

pub searched : (laid : Files) (t : Bytes) (cs : List Candidate) (r : Bool)
    → MatchBool r ((k : ℕ) × (k < length cs) × HoldsAt (IsLaid laid true) cs k) (AllWithin (IsLaid laid false) cs 0 (length cs))
    → r ≡ any_laid laid (map (candidate t) cs)
searched laid t cs true (k, l, h) = sym (some_within laid t cs k l h)
searched laid t cs false h = sym (none_within laid t cs h)
