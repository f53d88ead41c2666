-- What is written reads back, and only that is read.
use Rattle.std.proofs.Common.{◌≡◌, ℕ, zero, suc, ◌+◌, ◌*◌, ◌^◌, ◌<◌, ◌≤◌, Bool, true, false, cond, ◌&&◌, leb, List, [], ◌∷◌, ◌++◌, map, length, replicate, Some, None, codes, Option, sym, refl, ap, ◌∙◌, subst, arith}
use Rattle.std.specs.List.{AllByRecursion}
use Rattle.std.specs.Str.{bytes_eq}
use Rattle.std.proofs.lemmas.List.{length-append, length-map}
use Rattle.std.proofs.lemmas.Bool.{le-leb, leb-true, and_parts, and_from}
use Rattle.std.proofs.lemmas.Slice.Eq.{bytes_eq-Decides}
use Rattle.names.specs.Names.{Bytes, is_name}
use Rattle.names.proofs.Scan.{lawful-short}
use Rattle.record.specs.Entries.{EntryValue, Fitting, stamp_of}
use Rattle.record.specs.Written.{four, body, pairs, joined, front_size, written}
use Rattle.record.specs.Read.{entry_from, entries_in, names_lawful, number_of_four, pairs_from, parts, is_record, read}
use Rattle.record.specs.Laws.{Writable, ReadsBack, Exact, Short, Reached}
use Rattle.record.specs.declared.entry.Kind.TheVariants.{Absent}
use Rattle.record.proofs.Numbers.{four_back, four-fits}
use Rattle.record.proofs.Spans.{spans, length_pairs, pairs_back, parts_back}
use Rattle.record.proofs.Bodies.{body_back, line_back, kind_back, length-body}

pub named_from : (es : List EntryValue) → AllByRecursion Fitting es → names_lawful es ≡ true
named_from [] f = refl
named_from (e ∷ es) f = and_from (is_name e.name) _ f.0.lawful (named_from es f.1)

pub length_bodies : (es : List EntryValue) → names_lawful es ≡ true → length (joined (map body es)) ≤ 31 * length es
length_bodies [] h = omega arith
length_bodies (e ∷ es) h =
    let t = and_parts (is_name e.name) _ h in
    let k = lawful-short e.name t.0 in
    let r = length_bodies es t.1 in
    let l = length-append (body e) (joined (map body es)) in
    let b = length-body e in
    omega arith

pub length-written : (s : ℕ) (es : List EntryValue) → length (written s es) ≡ front_size (length es) + length (joined (map body es))
unfolding written
length-written s es =
    let a = length-append (pairs (front_size (length es)) (map body es)) (joined (map body es)) in
    let p = length_pairs (front_size (length es)) (map body es) in
    let m = length-map es body in
    omega arith

-- the entries that written entries would be
pub entries_back : (s : ℕ) (es : List EntryValue) → length es ≤ 28 → names_lawful es ≡ true → entries_in (written s es) ≡ map entry_from (map body es)
unfolding written
entries_back s es k h =
    let at = front_size (length es) in
    let bs = map body es in
    let m = length-map es body in
    let j = length_bodies es h in
    let p : pairs_from (length es) (pairs at bs ++ joined bs) ≡ spans at bs = ap (λ n. pairs_from n (pairs at bs ++ joined bs)) (sym m) ∙ pairs_back at bs (joined bs) (omega arith) in
    let front = four s ++ (length es ∷ pairs at bs) in
    let l : length front ≡ at = (let q = length_pairs at bs in omega arith) in
    let q = parts_back at front bs l in
    ap (map entry_from) (ap (λ ps. parts ps (front ++ joined bs)) p ∙ q)

stamp_back : (s : ℕ) (es : List EntryValue) → s < 2 ^ 32 → number_of_four (written s es) ≡ s
unfolding written
stamp_back s es h = four_back s h

stamp_fits : (s : ℕ) (es : List EntryValue) → number_of_four (written s es) < 2 ^ 32
unfolding written
stamp_fits s es = four-fits s

map_back : (es : List EntryValue) → AllByRecursion Fitting es → map entry_from (map body es) ≡ es
map_back [] f = refl
map_back (e ∷ es) f = λ i. body_back e f.0 i ∷ map_back es f.1 i

pub written-is_record : (s : ℕ) (es : List EntryValue) → Writable s es → (is_record (written s es) ≡ true) × (number_of_four (written s es) ≡ s) × (entries_in (written s es) ≡ es)
unfolding is_record
written-is_record s es w =
    let n = named_from es w.fitting in
    let e = entries_back s es w.few n ∙ map_back es w.fitting in
    let f : number_of_four (written s es) ≡ s = stamp_back s es w.stamp_fits in
    let a : leb 1 (length (entries_in (written s es))) ≡ true = ap (λ x. leb 1 (length x)) e ∙ le-leb 1 (length es) w.some in
    let b : leb (length (entries_in (written s es))) 28 ≡ true = ap (λ x. leb (length x) 28) e ∙ le-leb (length es) 28 w.few in
    let c : names_lawful (entries_in (written s es)) ≡ true = ap names_lawful e ∙ n in
    let d : bytes_eq (written (number_of_four (written s es)) (entries_in (written s es))) (written s es) ≡ true = (bytes_eq-Decides _ _).1 (λ i. written (f i) (e i)) in
    (and_from _ _ (and_from _ _ a b) (and_from _ _ c d), f, e)

pub reads_back : ReadsBack
unfolding read
reads_back s es w =
    let t = written-is_record s es w in
    ap (λ b. cond b (Some (number_of_four (written s es), entries_in (written s es))) None) t.0 ∙ (λ i. Some (t.1 i, t.2 i))

-- what a record was is what it says, and fits
pub same-fitting : (es : List EntryValue) → names_lawful es ≡ true → map entry_from (map body es) ≡ es → AllByRecursion Fitting es
same-fitting [] n h = tt
same-fitting (e ∷ es) n h =
    let t = and_parts (is_name e.name) _ n in
    let p : entry_from (body e) ≡ e = cc in
    let q : map entry_from (map body es) ≡ es = cc in
    let L : EntryValue → Type 0 = λ x. x.line < 2 ^ 16 in
    let S : EntryValue → Type 0 = λ x. stamp_of x.kind < 2 ^ 32 in
    (record { lawful = t.0; line_fits = subst L p (line_back e); stamp_fits = subst S p (kind_back e) }, same-fitting es t.1 q)

pub record_is_written : (bs : Bytes) → is_record bs ≡ true → (written (number_of_four bs) (entries_in bs) ≡ bs) × Writable (number_of_four bs) (entries_in bs)
unfolding is_record
record_is_written bs h =
    let s = number_of_four bs in
    let es = entries_in bs in
    let t = and_parts (leb 1 (length es) && leb (length es) 28) _ h in
    let u = and_parts (leb 1 (length es)) (leb (length es) 28) t.0 in
    let v = and_parts (names_lawful es) _ t.1 in
    let w : written s es ≡ bs = (bytes_eq-Decides _ _).0 v.1 in
    let few = leb-true (length es) 28 u.1 in
    let b : map entry_from (map body es) ≡ es = sym (entries_back s es few v.0) ∙ ap entries_in w in
    let F : ℕ → Type 0 = λ n. n < 2 ^ 32 in (
      w,
      record {
        stamp_fits = subst F (ap number_of_four w) (stamp_fits s es);
        some = leb-true 1 (length es) u.0;
        few = few;
        fitting = same-fitting es v.0 b;
      },
    )

pub exact : Exact
unfolding read
exact bs s es h = by (is_record bs) refl h
  where
    by : (b : Bool) → is_record bs ≡ b → cond {A = Option (ℕ × List EntryValue)} b (Some (number_of_four bs, entries_in bs)) None ≡ Some (s, es) → (written s es ≡ bs) × Writable s es
    by false e h = absurd (let z : ◌≡◌ {A = ℕ} 0 1 = cc in omega arith)
    by true e h =
        let t : ◌≡◌ {A = ℕ × List EntryValue} (number_of_four bs, entries_in bs) (s, es) = cc in
        let p : number_of_four bs ≡ s = ap (λ (x : ℕ × List EntryValue). x.0) t in
        let q : entries_in bs ≡ es = ap (λ (x : ℕ × List EntryValue). x.1) t in
        let P : ℕ → List EntryValue → Type 0 = λ s es. (written s es ≡ bs) × Writable s es in
        subst (λ (x : List EntryValue). P s x) q (subst (λ (x : ℕ). P x (entries_in bs)) p (record_is_written bs e))

pub short : Short
short s es w =
    let l = length-written s es in
    let j = length_bodies es (named_from es w.fitting) in
    let k = w.few in
    omega arith

-- 28 entries whose names have 24 letters
longest : EntryValue
longest = record { kind = Absent; line = 0; name = codes "abcdefghijklmnopqrstuvwx" }

longest_fits : Fitting longest
unfolding longest is_name
longest_fits = record { lawful = refl; line_fits = omega arith; stamp_fits = omega arith }

all_same : (n : ℕ) (e : EntryValue) → Fitting e → AllByRecursion Fitting (replicate n e)
all_same zero e f = tt
all_same (suc n) e f = (f, all_same n e f)

pub reached : Reached
unfolding longest written
reached = (0, replicate 28 longest, record { stamp_fits = omega arith; some = omega arith; few = omega arith; fitting = all_same 28 longest longest_fits }, refl)
