-- The parts of a record that is written, put together.
use Rattle.std.proofs.Common.{◌≡◌, ℕ, zero, suc, ◌+◌, ◌^◌, ◌<◌, ◌≤◌, true, eqb, List, [], ◌∷◌, ◌++◌, map, length, get_or, take, drop, sym, refl, ap, ◌∙◌, arith}
use Rattle.std.specs.List.{flat_map as JoinedBy}
use Rattle.std.proofs.lemmas.List.{drop-drop, drop_all, length-drop, length-map, length-take-le, take-append-drop}
use Rattle.std.proofs.lemmas.Bool.{and_parts, and_from, eqb-true}
use Rattle.std.proofs.lemmas.Slice.Eq.{bytes_eq-Decides}
use Rattle.names.specs.Names.{Bytes, is_name}
use Rattle.record.specs.Written.{two, four, body, pairs, joined, front_size, written}
use Rattle.record.specs.Read.{entry_from, parts, is_body, are_bodies, names_lawful}
use Rattle.record.specs.Chain.{chained}
use Rattle.record.specs.Laws.{Writable}
use Rattle.record.proofs.RoundTrip.{same-fitting}
use Rattle.record.proofs.Pushes.{chained_le}

-- a pair as it stands in a record whose bodies begin at `base`
abbrev pub pair : ℕ → ℕ × ℕ → Bytes
pair base p = two (base + p.0) ++ two p.1

-- each part lies within what is chained
pub chained_at : (s : ℕ) (ps : List (ℕ × ℕ)) (e : ℕ) (i : ℕ) → chained s ps e ≡ true → i < length ps → (get_or ps i (0, 0)).0 + (get_or ps i (0, 0)).1 ≤ e
chained_at s [] e i h k = absurd (omega arith)
chained_at s (p ∷ ps) e zero h k =
    let t = and_parts (eqb p.0 s) _ h in omega (arith, eqb-true p.0 s t.0, chained_le (s + p.1) ps e t.1)
chained_at s (p ∷ ps) e (suc i) h k =
    let t = and_parts (eqb p.0 s) _ h in chained_at (s + p.1) ps e i t.1 (omega arith)

pub bodies_are : (bs : List Bytes) → are_bodies bs ≡ true → map body (map entry_from bs) ≡ bs
unfolding is_body
bodies_are [] h = refl
bodies_are (b ∷ bs) h =
    let t = and_parts (is_body b) (are_bodies bs) h in
    let u = and_parts (is_name (drop 7 b)) _ t.0 in
    let e = (bytes_eq-Decides (body (entry_from b)) b).0 u.1 in
    λ i. e i ∷ bodies_are bs t.1 i

pub bodies_named : (bs : List Bytes) → are_bodies bs ≡ true → names_lawful (map entry_from bs) ≡ true
unfolding is_body
bodies_named [] h = refl
bodies_named (b ∷ bs) h =
    let t = and_parts (is_body b) (are_bodies bs) h in
    and_from (is_name (drop 7 b)) _ (and_parts (is_name (drop 7 b)) _ t.0).0 (bodies_named bs t.1)

pub writable : (stamp : ℕ) (bs : List Bytes) → are_bodies bs ≡ true → stamp < 2 ^ 32 → 1 ≤ length bs → length bs ≤ 28 → Writable stamp (map entry_from bs)
writable stamp bs h f some few =
    let l = length-map bs entry_from in
    let n = bodies_named bs h in
    record {
      stamp_fits = f;
      some = omega arith;
      few = omega arith;
      fitting = same-fitting (map entry_from bs) n (ap (map entry_from) (bodies_are bs h));
    }

part_length : (s : ℕ) (p : ℕ × ℕ) (ps : List (ℕ × ℕ)) (bs : Bytes) → chained s (p ∷ ps) (length bs) ≡ true → (length (take p.1 (drop p.0 bs)) ≡ p.1) × (p.0 ≡ s)
part_length s p ps bs h =
    let t = and_parts (eqb p.0 s) _ h in
    let e = eqb-true p.0 s t.0 in
    let l = chained_le (s + p.1) ps (length bs) t.1 in
    let d = length-drop p.0 bs in
    (length-take-le p.1 (drop p.0 bs) (omega arith), e)

-- the pairs as they are written
pub pairs_are : (base s : ℕ) (ps : List (ℕ × ℕ)) (bs : Bytes) → chained s ps (length bs) ≡ true → pairs (base + s) (parts ps bs) ≡ JoinedBy (pair base) ps
pairs_are base s [] bs h = refl
pairs_are base s (p ∷ ps) bs h =
    let t = and_parts (eqb p.0 s) (chained (s + p.1) ps (length bs)) h in
    let l = part_length s p ps bs h in
    let a : base + s + length (take p.1 (drop p.0 bs)) ≡ base + (s + p.1) = omega (arith, l.0) in
    let o : base + s ≡ base + p.0 = omega (arith, l.1) in
    λ i. (two (o i) ++ two (l.0 i)) ++ (ap (λ n. pairs n (parts ps bs)) a ∙ pairs_are base (s + p.1) ps bs t.1) i

-- the bodies put together again
pub joined_are : (s : ℕ) (ps : List (ℕ × ℕ)) (bs : Bytes) → chained s ps (length bs) ≡ true → joined (parts ps bs) ≡ drop s bs
joined_are s [] bs h = sym (drop_all s bs (omega (arith, eqb-true s (length bs) h)))
joined_are s (p ∷ ps) bs h =
    let t = and_parts (eqb p.0 s) (chained (s + p.1) ps (length bs)) h in
    let e = (part_length s p ps bs h).1 in
    let r = joined_are (s + p.1) ps bs t.1 in
    let d = drop-drop p.1 s bs in
    (λ i. take p.1 (drop (e i) bs) ++ (r ∙ sym d) i) ∙ take-append-drop p.1 (drop s bs)

pub finished : (stamp : ℕ) (ps : List (ℕ × ℕ)) (bs : Bytes) → chained 0 ps (length bs) ≡ true → are_bodies (parts ps bs) ≡ true → (four stamp ++ (length ps ∷ JoinedBy (pair (front_size (length ps))) ps)) ++ bs ≡ written stamp (map entry_from (parts ps bs))
unfolding written
finished stamp ps bs h k =
    let es = map entry_from (parts ps bs) in
    let n : length es ≡ length ps = length-map (parts ps bs) entry_from ∙ length-map ps _ in
    let b = bodies_are (parts ps bs) k in
    let z : front_size (length ps) ≡ front_size (length ps) + 0 = omega arith in
    let p : pairs (front_size (length es)) (map body es) ≡ JoinedBy (pair (front_size (length ps))) ps =
    (λ i. pairs (front_size (n i)) (b i)) ∙ ap (λ x. pairs x (parts ps bs)) z ∙ pairs_are (front_size (length ps)) 0 ps bs h in
    let j : joined (map body es) ≡ bs = ap joined b ∙ joined_are 0 ps bs h in
    λ i. four stamp ++ (sym n i ∷ (sym p i ++ sym j i))
