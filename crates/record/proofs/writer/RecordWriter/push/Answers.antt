use Rattle.std.proofs.Common.{◌≡◌, ◌+◌, ◌-◌, ◌<◌, true, ltb, [], ◌∷◌, ◌++◌, map, length, is_ok, sym, ap, ◌∙◌, arith}
use Rattle.std.proofs.lemmas.Bool.{leb-false, lt-ltb}
use Rattle.std.proofs.lemmas.List.{length-append}
use Rattle.record.specs.Written.{body}
use Rattle.record.specs.Read.{parts, are_bodies, entry_from}
use Rattle.record.specs.Chain.{chained}
use Rattle.record.specs.Filled.{filled}
use Rattle.record.specs.Values.{value_of}
use Rattle.record.specs.Held.{bodies_of, entries_of}
use Rattle.record.proofs.Pushes.{chained-push, pushed_parts, bodies_push, body_is, entries-push, count_entries, when_ok, from_ok}
use Rattle.record.proofs.writer.RecordWriter.push.Goals as goal
use Rattle.record.proofs.writer.RecordWriter.push.Goals.{After-try_push}

-- there is room, so that the pair is pushed
pushed : (c : After-try_push) → (length c.args.self.now.pairs.items < 28) × (is_ok c.try_push.result ≡ true) × (c.try_push.new.self.items ≡ c.args.self.now.pairs.items ++ (c.len-at.result, c.len.result - c.len-at.result) ∷ [])
unfolding entries_of
pushed c =
    let s = c.args.self.now in
    let l = count_entries s.pairs.items (filled s.bodies) in
    let few = leb-false 28 (length (entries_of s)) (sym c.is_full.ensures ∙ c.if-is_full.false) in
    let small : length s.pairs.items < 28 = omega arith in
    let k = c.try_push.ensures.variant ∙ lt-ltb (length s.pairs.items) 28 small in
    (small, k, from_ok c.try_push.result k c.try_push.ensures.ok)

-- the body's length, and the bodies, which are one more
long : (c : After-try_push) → c.len.result - c.len-at.result ≡ length (body (value_of c.args.entry.now))
long c =
    let s = c.args.self.now in
    let e = ap length c.append_body.ensures.bytes ∙ length-append (filled s.bodies) (body (value_of c.args.entry.now)) in
    omega (arith, c.len.ensures, c.len-at.ensures)

grown : (c : After-try_push) → parts c.try_push.new.self.items (filled c.append_body.new.self) ≡ bodies_of c.args.self.now ++ body (value_of c.args.entry.now) ∷ []
grown c =
    let s = c.args.self.now in
    let b = body (value_of c.args.entry.now) in
    let n = c.len.result - c.len-at.result in
    ap (λ ps. parts ps (filled c.append_body.new.self)) (pushed c).2
    ∙ pushed_parts s.pairs.items c.len-at.result n (filled s.bodies) b (filled c.append_body.new.self) c.len-at.ensures (long c) c.append_body.ensures.bytes s.ordered

pub invariant_of-self : goal.invariant_of-self
invariant_of-self c =
    let s = c.args.self.now in
    let at = c.len-at.result in
    let n = c.len.result - at in
    let p = (pushed c).2 in
    let l = ap length p ∙ length-append s.pairs.items ((at, n) ∷ []) in
    let e = ap length c.append_body.ensures.bytes ∙ length-append (filled s.bodies) (body (value_of c.args.entry.now)) in
    let m : length (filled c.append_body.new.self) ≡ at + n = omega (arith, long c, c.len-at.ensures) in
    let o : chained 0 s.pairs.items at ≡ true = ap (chained 0 s.pairs.items) c.len-at.ensures ∙ s.ordered in
    record {
      few = omega (arith, (pushed c).0);
      short = omega (arith, c.append_body.ensures.room, s.short);
      ordered = (λ i. chained 0 (p i) (m i)) ∙ chained-push 0 s.pairs.items at n o;
      lawful = ap are_bodies (grown c) ∙ bodies_push (bodies_of s) _ s.lawful (body_is (value_of c.args.entry.now) c.append_body.ensures.fitting);
    }

pub returns : goal.returns
unfolding entries_of
returns c =
    let s = c.args.self.now in
    let d = (goal.at.returns c).After-try_push in
    record {
      test = c.try_push.ensures.variant ∙ sym (ap (λ n. ltb n 28) (count_entries s.pairs.items (filled s.bodies)));
      cases = when_ok c.try_push.result _ _ (pushed d).1 (ap (map entry_from) (grown d) ∙ entries-push (bodies_of s) (value_of c.args.entry.now) c.append_body.ensures.fitting);
    }
