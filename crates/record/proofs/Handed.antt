-- The entries of a record, one by one.
use Rattle.std.proofs.Common.{◌≡◌, ℕ, zero, suc, ◌+◌, ◌-◌, ◌<◌, ◌≤◌, Bool, true, false, cond, ◌&&◌, ltb, leb, ◌⊎◌, List, [], ◌∷◌, length, get_or, take, drop, Some, None, Option, sym, refl, ap, ◌∙◌, subst, inl, inr, arith, MatchOption}
use Rattle.std.specs.Option.{option_map}
use Rattle.std.specs.List.{slice_get}
use Rattle.std.proofs.lemmas.List.{length-map, get_or-map}
use Rattle.std.proofs.lemmas.Option.{slice_get-get_or, slice_get_past}
use Rattle.std.proofs.lemmas.Bool.{and_parts, and_from, and_left, and_right, le-leb, lt-leb, lt-ltb, le-ltb, leb-true, cases_lt}
use Rattle.names.specs.Names.{Bytes}
use Rattle.record.specs.Entries.{EntryValue}
use Rattle.record.specs.Written.{front_size, written}
use Rattle.record.specs.Read.{number_of_four, count_in, entry_from, entries_in, pairs_from, parts, is_body, are_bodies, is_record, read}
use Rattle.record.specs.Formed.{pair_at}
use Rattle.record.specs.Views.{Shows, bytes_under, part_at, has_part, entry_at}
use Rattle.record.specs.Values.{value_of}
use Rattle.record.specs.declared.view.RecordView.{RecordView}
use Rattle.record.specs.declared.entry.Entry.{Entry}
use Rattle.record.proofs.RoundTrip.{record_is_written, short}
use Rattle.record.proofs.Finishes.{chained_at}
use Rattle.record.proofs.Formed.{length-pairs_from, pairs_at, part_is, stand_chained, record_is_formed}

pub count_is : (bs : Bytes) → length (entries_in bs) ≡ count_in bs
count_is bs =
    let ps = pairs_from (count_in bs) (drop 5 bs) in
    length-map (parts ps bs) entry_from ∙ length-map ps _ ∙ length-pairs_from (count_in bs) (drop 5 bs)

pub read_when : (bs : Bytes) → is_record bs ≡ true → read bs ≡ Some (number_of_four bs, entries_in bs)
unfolding read
read_when bs h = ap (λ b. cond {A = Option (ℕ × List EntryValue)} b (Some (number_of_four bs, entries_in bs)) None) h

pub read-unless : (bs : Bytes) → is_record bs ≡ false → read bs ≡ None
unfolding read
read-unless bs h = ap (λ b. cond {A = Option (ℕ × List EntryValue)} b (Some (number_of_four bs, entries_in bs)) None) h

-- bytes that are a record, seen by their stamp and their count
pub shown : (v : RecordView) → is_record (bytes_under v) ≡ true → v.stamp ≡ number_of_four (bytes_under v) → v.count ≡ count_in (bytes_under v) → Shows (bytes_under v) v
shown v r s n =
    let bs = bytes_under v in
    let w = record_is_written bs r in
    record {
      same = refl;
      count_is = n ∙ sym (count_is bs);
      reads = read_when bs r ∙ ap (λ s. Some (s, entries_in bs)) (sym s);
      exact = ap (λ s. written s (entries_in bs)) s ∙ w.0;
      short = let l = short (number_of_four bs) (entries_in bs) w.1 in let e = ap length w.0 in omega arith;
    }

pub record_when : (bs : Bytes) (s : ℕ) (es : List EntryValue) → read bs ≡ Some (s, es) → is_record bs ≡ true
unfolding read
record_when bs s es h = by (is_record bs) h
  where
    by : (b : Bool) → cond {A = Option (ℕ × List EntryValue)} b (Some (number_of_four bs, entries_in bs)) None ≡ Some (s, es) → b ≡ true
    by true h = refl
    by false h = absurd (let z : ◌≡◌ {A = ℕ} 0 1 = cc in omega arith)

body_at : (ps : List (ℕ × ℕ)) (bs : Bytes) (i : ℕ) → are_bodies (parts ps bs) ≡ true → i < length ps → is_body (take (get_or ps i (0, 0)).1 (drop (get_or ps i (0, 0)).0 bs)) ≡ true
body_at [] bs i h k = absurd (omega arith)
body_at (p ∷ ps) bs zero h k = (and_parts (is_body (take p.1 (drop p.0 bs))) _ h).0
body_at (p ∷ ps) bs (suc i) h k = body_at ps bs i (and_parts (is_body (take p.1 (drop p.0 bs))) _ h).1 (omega arith)

-- the i-th pair of a record names its i-th body
pub entry_there : (bs : Bytes) (i : ℕ) → is_record bs ≡ true → i < count_in bs → (has_part bs i ≡ true) × (is_body (part_at bs i) ≡ true) × (slice_get (entries_in bs) i ≡ Some (entry_from (part_at bs i)))
entry_there bs i h k =
    let n = count_in bs in
    let ps = pairs_from n (drop 5 bs) in
    let l = length-pairs_from n (drop 5 bs) in
    let f = record_is_formed bs h in
    let u = and_parts (leb (front_size n) (length bs)) _ (and_parts (leb 5 (length bs) && (leb 1 n && leb n 28)) _ f).1 in
    let c = stand_chained (front_size n) ps bs u.1 in
    let e = pairs_at n i bs k in
    let w = chained_at (front_size n) ps (length bs) i c.0 (omega arith) in
    let P : ℕ × ℕ → Type 0 = λ p. p.0 + p.1 ≤ length bs in
    let Q : ℕ × ℕ → Type 0 = λ p. is_body (take p.1 (drop p.0 bs)) ≡ true in
    let m = leb-true (front_size n) (length bs) u.0 in
    let b : i < length (parts ps bs) = (let q = length-map ps (λ (p : ℕ × ℕ). take p.1 (drop p.0 bs)) in omega arith) in (
      and_from _ _ (le-leb (front_size (i + 1)) (length bs) (omega arith)) (le-leb _ _ (subst P e w)),
      subst Q e (body_at ps bs i c.1 (omega arith)),
      slice_get-get_or (entries_in bs) i (entry_from []) (omega (arith, count_is bs)) ∙ ap (λ x. Some x)
          (get_or-map entry_from (parts ps bs) i [] (entry_from []) b
          ∙ ap entry_from (get_or-map (λ (p : ℕ × ℕ). take p.1 (drop p.0 bs)) ps i (0, 0) [] (omega arith) ∙ ap (λ (p : ℕ × ℕ). take p.1 (drop p.0 bs)) e)),
    )

-- a view of a record hands out its entries in order
pub shows-entry : (bs : Bytes) (v : RecordView) (i : ℕ) → Shows bs v → entry_at v i ≡ slice_get (entries_in bs) i
unfolding entry_at
shows-entry bs v i s = by (cases_lt i v.count)
  where
    by : (i < v.count) ⊎ (v.count ≤ i) → entry_at v i ≡ slice_get (entries_in bs) i
    by (inl h) =
        let t = entry_there bs i (record_when bs v.stamp (entries_in bs) s.reads) (omega (arith, count_is bs, s.count_is)) in
        ap (λ x. cond {A = Option EntryValue} (ltb i v.count && (has_part x i && is_body (part_at x i))) (Some (entry_from (part_at x i))) None) s.same
        ∙ ap (λ b. cond {A = Option EntryValue} b (Some (entry_from (part_at bs i))) None) (and_from _ _ (lt-ltb i v.count h) (and_from _ _ t.0 t.1))
        ∙ sym t.2
    by (inr h) =
        ap (λ b. cond {A = Option EntryValue} b (Some (entry_from (part_at (bytes_under v) i))) None) (and_left (ltb i v.count) _ (le-ltb i v.count h))
        ∙ sym (slice_get_past (entries_in bs) i (omega (arith, s.count_is)))

-- what a view hands out, test by test
module _ (v : RecordView) (i : ℕ) where
  pub past_count : v.count ≤ i → None ≡ entry_at v i
  unfolding entry_at
  past_count h = sym (ap (λ b. cond {A = Option EntryValue} b (Some (entry_from (part_at (bytes_under v) i))) None) (and_left (ltb i v.count) _ (le-ltb i v.count h)))

  pub no_pair : length (bytes_under v) < front_size (i + 1) → None ≡ entry_at v i
  unfolding entry_at
  no_pair h =
      sym (ap (λ b. cond {A = Option EntryValue} b (Some (entry_from (part_at (bytes_under v) i))) None)
      (and_right (ltb i v.count) _ (and_left (has_part (bytes_under v) i) _ (and_left (leb (front_size (i + 1)) (length (bytes_under v))) _ (lt-leb _ _ h)))))

  pub no_part : (p : ℕ × ℕ) → p ≡ pair_at (bytes_under v) i → length (bytes_under v) < p.0 + p.1 → None ≡ entry_at v i
  unfolding entry_at
  no_part p e h =
      let P : ℕ × ℕ → Type 0 = λ q. length (bytes_under v) < q.0 + q.1 in
      sym (ap (λ b. cond {A = Option EntryValue} b (Some (entry_from (part_at (bytes_under v) i))) None)
      (and_right (ltb i v.count) _ (and_left (has_part (bytes_under v) i) _ (and_right (leb (front_size (i + 1)) (length (bytes_under v))) _ (lt-leb _ _ (subst P e h))))))

  pub has_entry : (p : ℕ × ℕ) (part : Bytes) (r : Option Entry) → p ≡ pair_at (bytes_under v) i → part ≡ take (p.0 + p.1 - p.0) (drop p.0 (bytes_under v)) → i < v.count → front_size (i + 1) ≤ length (bytes_under v) → p.0 + p.1 ≤ length (bytes_under v)
      → MatchOption r (is_body part ≡ false) (λ e. (is_body part ≡ true) × (value_of e ≡ entry_from part)) → option_map value_of r ≡ entry_at v i
  unfolding entry_at
  has_entry p part r e f h k l c =
      let bs = bytes_under v in
      let same : part ≡ part_at bs i = part_is bs part p f ∙ ap (λ (q : ℕ × ℕ). take q.1 (drop q.0 bs)) e in
      let P : ℕ × ℕ → Type 0 = λ q. q.0 + q.1 ≤ length bs in
      let t : ltb i v.count ≡ true = lt-ltb i v.count h in
      let u : has_part bs i ≡ true = and_from _ _ (le-leb _ _ k) (le-leb _ _ (subst P e l)) in
      by r c ∙ (λ j. cond {A = Option EntryValue} (is_body (same j)) (Some (entry_from (same j))) None)
      ∙ sym (λ j. cond {A = Option EntryValue} (t j && (u j && is_body (part_at bs i))) (Some (entry_from (part_at bs i))) None)
    where
      by : (r : Option Entry) → MatchOption r (is_body part ≡ false) (λ e. (is_body part ≡ true) × (value_of e ≡ entry_from part))
          → option_map value_of r ≡ cond {A = Option EntryValue} (is_body part) (Some (entry_from part)) None
      by None f = sym (ap (λ b. cond {A = Option EntryValue} b (Some (entry_from part)) None) f)
      by (Some x) f = ap (λ x. Some x) f.1 ∙ sym (ap (λ b. cond {A = Option EntryValue} b (Some (entry_from part)) None) f.0)
