-- Lines collected byte by byte are the lines of the input.
use Rattle.std.proofs.Common.{◌≡◌, ℕ, ◌<◌, ◌≤◌, Bool, true, false, cond, eqb, leb, List, [], ◌∷◌, ◌++◌, map, length, Some, None, sym, refl, ap, ◌∙◌, ap₂, arith}
use Rattle.std.proofs.lemmas.List.{append-nil, append_assoc, length_push}
use Rattle.std.proofs.lemmas.Bool.{cond-true, cond-false, le-leb, lt-leb, leb-false}
use Rattle.names.specs.Limits.{line_max}
use Rattle.names.specs.Names.{Bytes}
use Rattle.protocol.specs.InputLines.{on_first, cut, bounded, input_lines}
use Rattle.protocol.specs.Collected.{grown, is_empty, lines_from}

-- bytes in front of the first line
front : Bytes → List Bytes → List Bytes
front [] [] = []
front (b ∷ bs) [] = (b ∷ bs) ∷ []
front f (l ∷ ls) = (f ++ l) ∷ ls

front_none : (ls : List Bytes) → front [] ls ≡ ls
unfolding front
front_none [] = refl
front_none (l ∷ ls) = refl

front_one : (f : Bytes) (b : ℕ) → front (f ++ b ∷ []) [] ≡ (f ++ b ∷ []) ∷ []
unfolding front
front_one [] b = refl
front_one (x ∷ f) b = refl

front_more : (f : Bytes) (b : ℕ) (ls : List Bytes) → front (f ++ b ∷ []) ls ≡ front f (on_first b ls)
unfolding front
front_more f b [] = front_one f b
front_more f b (l ∷ ls) = ap (λ x. x ∷ ls) (append_assoc f (b ∷ []) l)

fits : (l : Bytes) → length l ≤ line_max → bounded l ≡ Some l
fits l h = cond-true (leb (length l) line_max) (Some l) None (le-leb (length l) line_max h)

passes : (l : Bytes) → line_max < length l → bounded l ≡ None
passes l h = cond-false (leb (length l) line_max) (Some l) None (lt-leb (length l) line_max h)

grown_by : (f : Bytes) (b : ℕ) (t : Bool) → leb (length f) line_max ≡ t → grown (cond t (Some f) None) b ≡ bounded (f ++ b ∷ [])
grown_by f b true e = refl
grown_by f b false e = let h = leb-false (length f) line_max e in let n = length_push f b in sym (passes (f ++ b ∷ []) (omega arith))

grown-bounded : (f : Bytes) (b : ℕ) → grown (bounded f) b ≡ bounded (f ++ b ∷ [])
grown-bounded f b = grown_by f b (leb (length f) line_max) refl

not_empty : (t : Bool) (b : ℕ) (bs : Bytes) → is_empty (cond t (Some (b ∷ bs)) None) ≡ false
not_empty true b bs = refl
not_empty false b bs = refl

at_end : (f : Bytes) → lines_from (bounded f) [] ≡ map bounded (front f [])
unfolding front
at_end [] = refl
at_end (b ∷ bs) = cond-false (is_empty (bounded (b ∷ bs))) [] (bounded (b ∷ bs) ∷ []) (not_empty (leb (length (b ∷ bs)) line_max) b bs)

at_byte : (f : Bytes) (b : ℕ) (bs : Bytes) (t : Bool)
    → lines_from (bounded []) bs ≡ map bounded (front [] (cut bs))
    → lines_from (bounded (f ++ b ∷ [])) bs ≡ map bounded (front (f ++ b ∷ []) (cut bs))
    → cond t (bounded f ∷ lines_from (Some []) bs) (lines_from (grown (bounded f) b) bs)
    ≡ map bounded (front f (cond t ([] ∷ cut bs) (on_first b (cut bs))))
unfolding front
at_byte f b bs true p q = ap₂ (λ x y. x ∷ y) (ap bounded (sym (append-nil f))) (p ∙ ap (map bounded) (front_none (cut bs)))
at_byte f b bs false p q = ap (λ l. lines_from l bs) (grown-bounded f b) ∙ (q ∙ ap (map bounded) (front_more f b (cut bs)))

lines_are : (f bs : Bytes) → lines_from (bounded f) bs ≡ map bounded (front f (cut bs))
lines_are f [] = at_end f
lines_are f (b ∷ bs) = at_byte f b bs (eqb b 10) (lines_are [] bs) (lines_are (f ++ b ∷ []) bs)

pub from_start : (bs : Bytes) → lines_from (Some []) bs ≡ input_lines bs
from_start bs = lines_are [] bs ∙ ap (map bounded) (front_none (cut bs))

-- one byte more of a line, with room for it and without
pub added : (l : Bytes) (b : ℕ) → length (l ++ b ∷ []) ≤ line_max → grown (Some l) b ≡ Some (l ++ b ∷ [])
added l b h = fits (l ++ b ∷ []) h

pub dropped : (l : Bytes) (b : ℕ) → line_max ≤ length l → grown (Some l) b ≡ None
dropped l b h = let n = length_push l b in passes (l ++ b ∷ []) (omega arith)
