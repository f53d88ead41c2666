-- One body more behind those that stand.
use Rattle.std.proofs.Common.{◌≡◌, ℕ, ◌+◌, ◌≤◌, true, eqb, List, [], ◌∷◌, ◌++◌, map, length, take, drop, Ok, Err, Result, is_ok, OnOk, MatchResult, sym, refl, ap, ◌∙◌, arith}
use Rattle.std.proofs.lemmas.List.{take-append-le, drop-append-le, drop_at, take_all, length-drop, length-map, map_push}
use Rattle.std.proofs.lemmas.Bool.Decides.{nat_tests}
use Rattle.std.proofs.lemmas.Bool.{and_parts, and_from, eqb-true, false≢true}
use Rattle.std.proofs.lemmas.Slice.Eq.{bytes_eq-Decides}
use Rattle.names.specs.Names.{Bytes, is_name}
use Rattle.record.specs.Entries.{EntryValue, Fitting}
use Rattle.record.specs.Written.{body}
use Rattle.record.specs.Read.{entry_from, parts, is_body, are_bodies}
use Rattle.record.specs.Chain.{chained}
use Rattle.record.proofs.Bodies.{body_back}

pub chained_le : (s : ℕ) (ps : List (ℕ × ℕ)) (e : ℕ) → chained s ps e ≡ true → s ≤ e
chained_le s [] e h = omega (arith, eqb-true s e h)
chained_le s (p ∷ ps) e h = let t = and_parts (eqb p.0 s) _ h in omega (arith, chained_le (s + p.1) ps e t.1)

pub chained-push : (s : ℕ) (ps : List (ℕ × ℕ)) (e n : ℕ) → chained s ps e ≡ true → chained s (ps ++ (e, n) ∷ []) (e + n) ≡ true
chained-push s [] e n h = grind (arith, nat_tests)
chained-push s (p ∷ ps) e n h =
    let t = and_parts (eqb p.0 s) (chained (s + p.1) ps e) h in
    and_from (eqb p.0 s) _ t.0 (chained-push (s + p.1) ps e n t.1)

-- what pairs name in a list is where it was once the list is longer
parts_grow : (s : ℕ) (ps : List (ℕ × ℕ)) (bs more : Bytes) → chained s ps (length bs) ≡ true → parts ps (bs ++ more) ≡ parts ps bs
parts_grow s [] bs more h = refl
parts_grow s (p ∷ ps) bs more h =
    let t = and_parts (eqb p.0 s) (chained (s + p.1) ps (length bs)) h in
    let e = eqb-true p.0 s t.0 in
    let l = chained_le (s + p.1) ps (length bs) t.1 in
    let k = length-drop p.0 bs in
    let d = drop-append-le p.0 bs more (omega arith) in
    let u = take-append-le p.1 (drop p.0 bs) more (omega arith) in
    λ i. (ap (take p.1) d ∙ u) i ∷ parts_grow (s + p.1) ps bs more t.1 i

parts-append : (ps qs : List (ℕ × ℕ)) (bs : Bytes) → parts (ps ++ qs) bs ≡ parts ps bs ++ parts qs bs
parts-append [] qs bs = refl
parts-append (p ∷ ps) qs bs = ap (λ x. take p.1 (drop p.0 bs) ∷ x) (parts-append ps qs bs)

pub pushed_parts : (ps : List (ℕ × ℕ)) (at n : ℕ) (bs b all : Bytes) → at ≡ length bs → n ≡ length b → all ≡ bs ++ b → chained 0 ps (length bs) ≡ true → parts (ps ++ (at, n) ∷ []) all ≡ parts ps bs ++ b ∷ []
pushed_parts ps at n bs b all a l f e =
    let g = parts_grow 0 ps bs b e in
    let d = drop_at bs b at (sym a) in
    let t = take_all n b (omega arith) in
    ap (parts (ps ++ (at, n) ∷ [])) f ∙ parts-append ps ((at, n) ∷ []) (bs ++ b) ∙ (λ j. g j ++ (ap (take n) d ∙ t) j ∷ [])

pub bodies_push : (bs : List Bytes) (b : Bytes) → are_bodies bs ≡ true → is_body b ≡ true → are_bodies (bs ++ b ∷ []) ≡ true
bodies_push [] b h k = and_from (is_body b) true k refl
bodies_push (a ∷ bs) b h k = let t = and_parts (is_body a) (are_bodies bs) h in and_from (is_body a) _ t.0 (bodies_push bs b t.1 k)

-- the body of an entry that fits is one
pub body_is : (e : EntryValue) → Fitting e → is_body (body e) ≡ true
unfolding is_body
body_is e f = and_from (is_name e.name) _ f.lawful ((bytes_eq-Decides _ _).1 (ap body (body_back e f)))

pub entries-push : (bs : List Bytes) (e : EntryValue) → Fitting e → map entry_from (bs ++ body e ∷ []) ≡ map entry_from bs ++ e ∷ []
entries-push bs e f = map_push entry_from bs (body e) ∙ ap (λ x. map entry_from bs ++ x ∷ []) (body_back e f)

-- as many entries as pairs
pub count_entries : (ps : List (ℕ × ℕ)) (bs : Bytes) → length (map entry_from (parts ps bs)) ≡ length ps
count_entries ps bs = length-map (parts ps bs) entry_from ∙ length-map ps _

-- a result that is there
pub from_ok : {A E P : Type 0} (r : Result A E) → is_ok r ≡ true → OnOk r P → P
from_ok (Ok x) k p = p
from_ok (Err e) k p = absurd (false≢true k)

pub when_ok : {E : Type 0} (r : Result (Unit {0}) E) (P : Unit {0} → Type 0) (Q : E → Type 0) → is_ok r ≡ true → P tt → MatchResult r P Q
when_ok (Ok x) P Q k p = p
when_ok (Err e) P Q k p = absurd (false≢true k)
