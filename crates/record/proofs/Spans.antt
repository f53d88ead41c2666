-- Where the bodies of a record lie.
use Rattle.std.proofs.Common.{◌≡◌, ℕ, ◌+◌, ◌*◌, ◌^◌, ◌<◌, List, [], ◌∷◌, ◌++◌, length, take, sym, refl, ap, ◌∙◌, arith}
use Rattle.std.proofs.lemmas.List.{length-append, append_assoc, take_at, drop_at}
use Rattle.names.specs.Names.{Bytes}
use Rattle.record.specs.Written.{pairs, joined}
use Rattle.record.specs.Read.{pairs_from, parts}
use Rattle.record.proofs.Numbers.{two_back}

-- offset and length of each body, the first of which stands at `at`
abbrev pub spans : ℕ → List Bytes → List (ℕ × ℕ)
spans at [] = []
spans at (b ∷ bs) = (at, length b) ∷ spans (at + length b) bs

pub length_pairs : (at : ℕ) (bs : List Bytes) → length (pairs at bs) ≡ 4 * length bs
length_pairs at [] = refl
length_pairs at (b ∷ bs) = let e = length_pairs (at + length b) bs in omega arith

-- the pairs that are written are read back
pub pairs_back : (at : ℕ) (bs : List Bytes) (rest : Bytes) → at + length (joined bs) < 2 ^ 16 → pairs_from (length bs) (pairs at bs ++ rest) ≡ spans at bs
pairs_back at [] rest h = refl
pairs_back at (b ∷ bs) rest h =
    let l = length-append b (joined bs) in
    let p = two_back at (omega arith) in
    let q = two_back (length b) (omega arith) in
    let r = pairs_back (at + length b) bs rest (omega arith) in
    λ i. (p i, q i) ∷ r i

-- and name the bodies
pub parts_back : (at : ℕ) (front : Bytes) (bs : List Bytes) → length front ≡ at → parts (spans at bs) (front ++ joined bs) ≡ bs
parts_back at front [] h = refl
parts_back at front (b ∷ bs) h =
    let d = drop_at front (b ++ joined bs) at h in
    let t = take_at b (joined bs) (length b) refl in
    let l : length (front ++ b) ≡ at + length b = length-append front b ∙ ap (λ n. n + length b) h in
    let r = parts_back (at + length b) (front ++ b) bs l in
    let a = append_assoc front b (joined bs) in
    λ i. (ap (take (length b)) d ∙ t) i ∷ (ap (parts (spans (at + length b) bs)) (sym a) ∙ r) i
