-- A record is well formed, and bytes that are well formed are a record.
use Rattle.std.proofs.Common.{◌≡◌, ℕ, zero, suc, ◌+◌, ◌-◌, ◌*◌, ◌/◌, ◌<◌, ◌≤◌, Bool, true, false, ◌&&◌, eqb, leb, List, [], ◌∷◌, ◌++◌, map, length, get_or, take, drop, sym, refl, ap, ◌∙◌, subst, arith}
use Rattle.std.specs.List.{flat_map as JoinedBy, AllByRecursion}
use Rattle.std.specs.Simd.{first_chunks}
use Rattle.std.proofs.lemmas.List.{append_assoc, get_or-take, length-append, length-drop, length-map, length-take-le, take_at, take_rest, drop_at, take-append-drop, drop-drop, drop_more}
use Rattle.std.proofs.lemmas.Bool.{both_ways, and_parts, and_from, and_left, and_right, eq-eqb, ne_eqb, le-leb, lt-leb, leb-true}
use Rattle.std.proofs.lemmas.Slice.Eq.{bytes_eq-Decides}
use Rattle.names.specs.Names.{Bytes}
use Rattle.record.specs.Entries.{EntryValue, Fitting}
use Rattle.record.specs.Written.{two, four, body, pairs, joined, front_size, written}
use Rattle.record.specs.Read.{number_of_four, count_in, entry_from, entries_in, pair_in, pairs_from, parts, is_body, are_bodies, is_record}
use Rattle.record.specs.Chain.{chained}
use Rattle.record.specs.Formed.{pair_at, body_stands, bodies_stand, well_formed}
use Rattle.record.specs.Laws.{Writable}
use Rattle.record.proofs.Numbers.{AreBytes, rest_bytes, four_front, chunk_pairs, pair_bytes, pairs_bytes}
use Rattle.record.proofs.Spans.{spans, length_pairs, pairs_back}
use Rattle.record.proofs.RoundTrip.{length_bodies, named_from, record_is_written}
use Rattle.record.proofs.Pushes.{body_is}
use Rattle.record.proofs.Finishes.{pair, bodies_are, bodies_named, pairs_are, joined_are}

-- bodies that stand are chained and lawful
pub stand_chained : (at : ℕ) (ps : List (ℕ × ℕ)) (bs : Bytes) → bodies_stand at ps bs ≡ true → (chained at ps (length bs) ≡ true) × (are_bodies (parts ps bs) ≡ true)
unfolding body_stands
stand_chained at [] bs h = (h, refl)
stand_chained at (p ∷ ps) bs h =
    let t = and_parts (body_stands at p bs) _ h in
    let u = and_parts (eqb p.0 at && leb (at + p.1) (length bs)) _ t.0 in
    let v = and_parts (eqb p.0 at) _ u.0 in
    let r = stand_chained (at + p.1) ps bs t.1 in
    (and_from (eqb p.0 at) _ v.0 r.0, and_from (is_body (take p.1 (drop p.0 bs))) _ u.1 r.1)

pub length-pairs_from : (n : ℕ) (bs : Bytes) → length (pairs_from n bs) ≡ n
length-pairs_from zero bs = refl
length-pairs_from (suc n) bs = ap suc (length-pairs_from n (drop 4 bs))

-- the table in the bytes, pair by pair
table_at : (n i : ℕ) (bs : Bytes) → i < n → get_or (pairs_from n bs) i (0, 0) ≡ pair_in (drop (4 * i) bs)
table_at zero i bs h = absurd (omega arith)
table_at (suc n) zero bs h = refl
table_at (suc n) (suc i) bs h =
    let r = table_at n i (drop 4 bs) (omega arith) in
    let p = drop-drop (4 * i) 4 bs in
    let a : 4 + 4 * i ≡ 4 * suc i = omega arith in
    r ∙ ap pair_in (p ∙ ap (λ k. drop k bs) a)

pub pairs_at : (n i : ℕ) (bs : Bytes) → i < n → get_or (pairs_from n (drop 5 bs)) i (0, 0) ≡ pair_at bs i
pairs_at n i bs h = table_at n i (drop 5 bs) h ∙ ap pair_in (drop-drop (4 * i) 5 bs)

from_zero : (ps : List (ℕ × ℕ)) → JoinedBy (pair 0) ps ≡ JoinedBy pair_bytes ps
from_zero [] = refl
from_zero (p ∷ ps) = let e : 0 + p.0 ≡ p.0 = omega arith in λ i. (two (e i) ++ two p.1) ++ from_zero ps i

-- stamp, count, table and the rest are the bytes
cut : (bs : Bytes) (n : ℕ) → 5 ≤ length bs → take 4 bs ++ (get_or bs 4 0 ∷ (take (4 * n) (drop 5 bs) ++ drop (5 + 4 * n) bs)) ≡ bs
cut bs n h =
    let d = drop-drop (4 * n) 5 bs in
    let t = take-append-drop (4 * n) (drop 5 bs) in
    let r : take (4 * n) (drop 5 bs) ++ drop (5 + 4 * n) bs ≡ drop 5 bs = ap (λ x. take (4 * n) (drop 5 bs) ++ x) (sym d) ∙ t in
    let m = drop_more bs 4 0 h in
    ap (λ x. take 4 bs ++ (get_or bs 4 0 ∷ x)) r ∙ ap (λ x. take 4 bs ++ x) (sym m) ∙ take-append-drop 4 bs

-- bytes that are well formed are a record
pub formed-is_record : (bs : Bytes) → AreBytes bs → well_formed bs ≡ true → is_record bs ≡ true
unfolding is_record written
formed-is_record bs a h =
    let n = count_in bs in
    let ps = pairs_from n (drop 5 bs) in
    let t = and_parts (leb 5 (length bs) && (leb 1 n && leb n 28)) _ h in
    let u = and_parts (leb 5 (length bs)) _ t.0 in
    let v = and_parts (leb 1 n) _ u.1 in
    let w = and_parts (leb (front_size n) (length bs)) _ t.1 in
    let long = leb-true (front_size n) (length bs) w.0 in
    let f = four_front bs (omega arith) a in
    let m = length-drop 5 bs in
    let j = pairs_bytes n (drop 5 bs) (omega arith) (rest_bytes 5 bs a) in
    let c = stand_chained (front_size n) ps bs w.1 in
    let b = bodies_are (parts ps bs) c.1 in
    let l : length (entries_in bs) ≡ n = length-map (parts ps bs) entry_from ∙ length-map ps _ ∙ length-pairs_from n (drop 5 bs) in
    let z : front_size n ≡ 0 + front_size n = omega arith in
    let p : pairs (front_size (length (entries_in bs))) (map body (entries_in bs)) ≡ take (4 * n) (drop 5 bs) =
    (λ i. pairs (front_size (l i)) (b i)) ∙ ap (λ x. pairs x (parts ps bs)) z ∙ pairs_are 0 (front_size n) ps bs c.0 ∙ from_zero ps ∙ j in
    let q : joined (map body (entries_in bs)) ≡ drop (front_size n) bs = ap joined b ∙ joined_are (front_size n) ps bs c.0 in
    let e : written (number_of_four bs) (entries_in bs) ≡ bs = (λ i. f i ++ (l i ∷ (p i ++ q i))) ∙ cut bs n (leb-true 5 (length bs) u.0) in
    and_from _ _ (and_from _ _ (ap (leb 1) l ∙ v.0) (ap (λ x. leb x 28) l ∙ v.1)) (and_from _ _ (bodies_named (parts ps bs) c.1) ((bytes_eq-Decides _ _).1 e))

-- bodies that are written stand
written_stand : (at : ℕ) (front : Bytes) (es : List EntryValue) → AllByRecursion Fitting es → length front ≡ at → bodies_stand at (spans at (map body es)) (front ++ joined (map body es)) ≡ true
unfolding body_stands
written_stand at front [] f h = eq-eqb at _ (sym (length-append front [] ∙ (let e : length front + 0 ≡ at = omega arith in e)))
written_stand at front (e ∷ es) f h =
    let b = body e in
    let rest = joined (map body es) in
    let all = front ++ (b ++ rest) in
    let d = drop_at front (b ++ rest) at h in
    let t = take_at b rest (length b) refl in
    let i : is_body (take (length b) (drop at all)) ≡ true = ap is_body (ap (take (length b)) d ∙ t) ∙ body_is e f.0 in
    let l₁ = length-append front (b ++ rest) in
    let l₂ = length-append b rest in
    let k : leb (at + length b) (length all) ≡ true = le-leb _ _ (omega arith) in
    let l : length (front ++ b) ≡ at + length b = length-append front b ∙ ap (λ n. n + length b) h in
    let r = written_stand (at + length b) (front ++ b) es f.1 l in
    let a = append_assoc front b rest in
    and_from _ _ (and_from _ _ (and_from _ _ (eq-eqb at at refl) k) i)
    (ap (bodies_stand (at + length b) (spans (at + length b) (map body es))) (sym a) ∙ r)

written-formed : (s : ℕ) (es : List EntryValue) → Writable s es → well_formed (written s es) ≡ true
unfolding written
written-formed s es w =
    let n = length es in
    let at = front_size n in
    let bs = map body es in
    let m = length-map es body in
    let j = length_bodies es (named_from es w.fitting) in
    let few = w.few in
    let p : pairs_from n (pairs at bs ++ joined bs) ≡ spans at bs = ap (λ k. pairs_from k (pairs at bs ++ joined bs)) (sym m) ∙ pairs_back at bs (joined bs) (omega arith) in
    let front = four s ++ (n ∷ pairs at bs) in
    let l : length front ≡ at = (let q = length_pairs at bs in omega arith) in
    let k = length-append front (joined bs) in
    let r = written_stand at front es w.fitting l in
    and_from _ _
    (and_from _ _ (le-leb 5 _ (omega arith)) (and_from _ _ (le-leb 1 n w.some) (le-leb n 28 few)))
    (and_from _ _ (le-leb at _ (omega arith)) (ap (λ ps. bodies_stand at ps (front ++ joined bs)) p ∙ r))

-- a record is well formed
pub record_is_formed : (bs : Bytes) → is_record bs ≡ true → well_formed bs ≡ true
record_is_formed bs h =
    let w = record_is_written bs h in
    let F : Bytes → Type 0 = λ x. well_formed x ≡ true in
    subst F w.0 (written-formed (number_of_four bs) (entries_in bs) w.1)

pub malformed : (bs : Bytes) → well_formed bs ≡ false → is_record bs ≡ false
malformed bs h = by (is_record bs) refl
  where
    by : (b : Bool) → is_record bs ≡ b → b ≡ false
    by false e = refl
    by true e = absurd (both_ways (well_formed bs) h (record_is_formed bs e))

-- what a body that a pair names is, seen from where it should start
module _ (bs : Bytes) (at : ℕ) (p : ℕ × ℕ) where
  pub off_start : (p.0 ≡ at → ⊥) → body_stands at p bs ≡ false
  unfolding body_stands
  off_start h = and_left _ _ (and_left (eqb p.0 at) _ (ne_eqb p.0 at h))

  pub past_end : p.0 ≡ at → length bs < p.0 + p.1 → body_stands at p bs ≡ false
  unfolding body_stands
  past_end e h = and_left _ _ (and_right (eqb p.0 at) _ (lt-leb (at + p.1) (length bs) (omega arith)))

  pub no_body : is_body (take p.1 (drop p.0 bs)) ≡ false → body_stands at p bs ≡ false
  unfolding body_stands
  no_body h = and_right (eqb p.0 at && leb (at + p.1) (length bs)) _ h

  pub stands : p.0 ≡ at → p.0 + p.1 ≤ length bs → is_body (take p.1 (drop p.0 bs)) ≡ true → body_stands at p bs ≡ true
  unfolding body_stands
  stands e l h = and_from _ _ (and_from _ _ (eq-eqb p.0 at e) (le-leb _ _ (omega arith))) h

-- a part of the bytes, by where it begins and how long it is
pub part_is : (bs part : Bytes) (p : ℕ × ℕ) → part ≡ take (p.0 + p.1 - p.0) (drop p.0 bs) → part ≡ take p.1 (drop p.0 bs)
part_is bs part p e = let n : p.0 + p.1 - p.0 ≡ p.1 = omega arith in e ∙ ap (λ m. take m (drop p.0 bs)) n

-- the pair at the front of the bytes from a place on
pair_front : (bs : Bytes) → pair_in (take 4 bs) ≡ pair_in bs
pair_front [] = refl
pair_front (a ∷ []) = refl
pair_front (a ∷ b ∷ []) = refl
pair_front (a ∷ b ∷ c ∷ []) = refl
pair_front (a ∷ b ∷ c ∷ d ∷ bs) = refl

pub pair_there : (bs rest pair : Bytes) (i : ℕ) → rest ≡ take (length bs - (5 + 4 * i)) (drop (5 + 4 * i) bs) → pair ≡ take 4 rest → pair_in pair ≡ pair_at bs i
pair_there bs rest pair i e f = ap pair_in f ∙ pair_front rest ∙ ap pair_in (e ∙ take_rest bs (5 + 4 * i))

-- the table of a record, cut into its pairs
pub table_is : (bs t : Bytes) (cs : List Bytes) (n : ℕ) → 5 + 4 * n ≤ length bs → t ≡ take (5 + 4 * n - 5) (drop 5 bs) → cs ≡ first_chunks 4 (length t / 4) t → map pair_in cs ≡ pairs_from n (drop 5 bs)
table_is bs t cs n h e f =
    let d = length-drop 5 bs in
    let a : 5 + 4 * n - 5 ≡ 4 * n = omega arith in
    let g : t ≡ take (4 * n) (drop 5 bs) = e ∙ ap (λ m. take m (drop 5 bs)) a in
    let l : length t ≡ 4 * n = ap length g ∙ length-take-le (4 * n) (drop 5 bs) (omega arith) in
    let k : length t / 4 ≡ n = omega arith in
    ap (map pair_in) (f ∙ (λ i. first_chunks 4 (k i) (g i))) ∙ chunk_pairs n (drop 5 bs) (omega arith)

pub formed_if : (bs : Bytes) → 5 ≤ length bs → 1 ≤ count_in bs → count_in bs ≤ 28 → front_size (count_in bs) ≤ length bs → well_formed bs ≡ bodies_stand (front_size (count_in bs)) (pairs_from (count_in bs) (drop 5 bs)) bs
formed_if bs a b d e =
    let p = le-leb 5 (length bs) a in
    let q = le-leb 1 (count_in bs) b in
    let r = le-leb (count_in bs) 28 d in
    let s = le-leb (front_size (count_in bs)) (length bs) e in
    λ i. (p i && (q i && r i)) && (s i && bodies_stand (front_size (count_in bs)) (pairs_from (count_in bs) (drop 5 bs)) bs)

-- what the first five bytes say
module _ (bs h : Bytes) (e : h ≡ take 5 bs) where
  at_front : (j : ℕ) → j < 5 → get_or h j 0 ≡ get_or bs j 0
  at_front j l = ap (λ x. get_or x j 0) e ∙ get_or-take 5 bs j 0 l

  pub header_said : (get_or h 0 0 + get_or h 1 0 * 256 + get_or h 2 0 * 65536 + get_or h 3 0 * 16777216 ≡ number_of_four bs) × (get_or h 4 0 ≡ count_in bs)
  header_said =
      let p = at_front 0 (omega arith) in
      let q = at_front 1 (omega arith) in
      let r = at_front 2 (omega arith) in
      let s = at_front 3 (omega arith) in
      ((λ i. p i + q i * 256 + r i * 65536 + s i * 16777216), at_front 4 (omega arith))

-- with 1 to 28 entries and a table, bytes are well formed if the bodies stand
pub formed_by : (bs t : Bytes) (cs : List Bytes) (n : ℕ) → n ≡ count_in bs → 5 ≤ length bs → 1 ≤ n → n ≤ 28 → 5 + 4 * n ≤ length bs → t ≡ take (5 + 4 * n - 5) (drop 5 bs) → cs ≡ first_chunks 4 (length t / 4) t
    → well_formed bs ≡ bodies_stand (5 + 4 * n) (map pair_in cs) bs
formed_by bs t cs n k long some few room e f =
    let p = table_is bs t cs n room e f in
    formed_if bs long (omega arith) (omega arith) (omega arith) ∙ (λ i. bodies_stand (5 + 4 * sym k i) (pairs_from (sym k i) (drop 5 bs)) bs) ∙ ap (λ ps. bodies_stand (5 + 4 * n) ps bs) (sym p)
