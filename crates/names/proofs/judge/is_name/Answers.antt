use Rattle.std.proofs.Common.{sym, ◌∙◌, arith}
use Rattle.std.proofs.lemmas.List.{at_drop_all}
use Rattle.names.proofs.Scan.{scan, lawful_is, too_long, next_twin, next_dot, next_plain, next_other}
use Rattle.names.proofs.judge.is_name.Goals as goal
use Rattle.names.proofs.judge.is_name.Goals.{in-Plain, in-Dot+else-after_dot}

pub returns-then-after_dot : goal.returns-then-after_dot
returns-then-after_dot c =
    let l = lawful_is c.args.bytes.now (omega arith) in
    let e = next_twin _ _ _ c.loop-b-test.true c.in-Dot.ensures c.if-after_dot.true in
    sym (l ∙ sym c.loop-b.invariant ∙ e)

pub returns-in-Other : goal.returns-in-Other
returns-in-Other c =
    let l = lawful_is c.args.bytes.now (omega arith) in
    let e = next_other _ c.loop-b.after_dot _ c.loop-b-test.true c.in-Other.ensures in
    sym (l ∙ sym c.loop-b.invariant ∙ e)

pub loop-b-preserved : goal.loop-b-preserved
loop-b-preserved c =
    elim c.match-glyph_of.branch [
      | in-Plain w ↦
          rw w.after_dot-is (sym (next_plain _ c.loop-b.after_dot _ c.loop-b-test.true w.in-Plain.ensures) ∙ c.loop-b.invariant)
      | in-Dot+else-after_dot w ↦
          rw w.after_dot-is (sym (next_dot _ c.loop-b.after_dot _ c.loop-b-test.true w.in-Dot.ensures w.if-after_dot.false) ∙ c.loop-b.invariant)
    ]

pub returns : goal.returns
returns c =
    let l = lawful_is c.args.bytes.now (omega arith) in
    let e = at_drop_all (scan c.loop-b.after_dot) c.args.bytes.now c.loop-b.b-index (omega arith) in
    sym (l ∙ sym c.loop-b.invariant ∙ e)

pub returns-then-bytes-gt-NAME_MAX : goal.returns-then-bytes-gt-NAME_MAX
returns-then-bytes-gt-NAME_MAX c = sym (too_long c.args.bytes.now (omega arith))
