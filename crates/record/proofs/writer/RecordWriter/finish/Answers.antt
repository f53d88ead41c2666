use Rattle.std.proofs.Common.{◌≡◌, ℕ, ◌∷◌, ◌++◌, List, map, length, get_or, take, sym, ap, ◌∙◌, arith}
use Rattle.std.specs.List.{flat_map as JoinedBy}
use Rattle.std.proofs.lemmas.List.{length-map, take_all}
use Rattle.record.specs.Written.{four, front_size, written}
use Rattle.record.specs.Read.{entry_from, is_record, parts, read}
use Rattle.record.specs.Laws.{Writable}
use Rattle.record.specs.Filled.{filled}
use Rattle.record.specs.Held.{bodies_of, entries_of}
use Rattle.record.proofs.Finishes.{pair, chained_at, finished, writable}
use Rattle.record.proofs.RoundTrip.{written-is_record, reads_back, short, reached}
use Rattle.record.proofs.writer.RecordWriter.finish.Goals as goal
use Rattle.record.proofs.writer.RecordWriter.finish.Goals.{After-append-3}

pub returns-then-count-eq0 : goal.returns-then-count-eq0
unfolding entries_of
returns-then-count-eq0 c =
    let s = c.args.self.now in
    record { law = (reads_back, short, reached); cases = ap (λ ps. map entry_from (parts ps (filled s.bodies))) (sym (take_all 0 s.pairs.items (omega arith))) }

pub overflow_add-base-in-loop-offset : goal.overflow_add-base-in-loop-offset
overflow_add-base-in-loop-offset c =
    let s = c.args.self.now in
    let ps = s.pairs.items in
    let i = c.loop-offset.offset-index in
    let l = ap length c.as_slice-offset-items.ensures.value in
    let k = chained_at 0 ps (length (filled s.bodies)) i s.ordered (omega arith) in
    let g = ap (λ (xs : List (ℕ × ℕ)). (get_or xs i (0, 0)).0) c.as_slice-offset-items.ensures.value in
    omega (arith, s.few, s.short)

-- what stands in the end
whole : (c : After-append-3) → (filled c.append-3.new.self ≡ written c.args.stamp (entries_of c.args.self.now)) × Writable c.args.stamp (entries_of c.args.self.now)
unfolding entries_of
whole c =
    let s = c.args.self.now in
    let ps = s.pairs.items in
    let front = four c.args.stamp in
    let n = c.len-count.ensures.value in
    let i = c.loop-offset.offset-index in
    let l = ap length c.as_slice-offset-items.ensures.value in
    let t : take i ps ≡ ps = take_all i ps (omega arith) in
    let k : length (bodies_of s) ≡ length ps = length-map ps _ in (
      c.append-3.ensures
          ∙ (λ j. (c.loop-offset.invariant.0 ∙ (λ i. front ++ (n i ∷ JoinedBy (pair (front_size (n i))) (t i)))) j ++ c.as_bytes.ensures j)
          ∙ finished c.args.stamp ps (filled s.bodies) s.ordered s.lawful,
      writable c.args.stamp (bodies_of s) s.lawful c.ranges.stamp.fits (omega arith) (omega (arith, s.few)),
    )

pub new-requires : goal.new-requires
new-requires c = let w = whole c in ap is_record w.0 ∙ (written-is_record _ _ w.1).0

pub returns : goal.returns
returns c =
    let w = whole (goal.at.returns c).After-append-3 in
    let e = ap filled c.new.ensures ∙ w.0 in
    record {
      law = (reads_back, short, reached);
      cases = record {
        exact = e;
        reads_back = ap read e ∙ reads_back _ _ w.1;
        short = let l = short _ _ w.1 in let k = ap length e in omega arith;
      };
    }
