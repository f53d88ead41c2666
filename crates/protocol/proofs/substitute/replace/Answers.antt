use Rattle.std.proofs.Common.{◌<◌, length, get_or, set, ap, ◌∙◌, arith}
use Rattle.std.proofs.lemmas.List.Edits.{map_over_more}
use Rattle.std.proofs.lemmas.List.{get_or_default}
use Rattle.protocol.specs.Substitutes.{replaced}
use Rattle.protocol.proofs.substitute.replace.Goals as goal

pub loop-b-preserved : goal.loop-b-preserved
loop-b-preserved c =
    let ys = c.loop-b.bytes in
    let i = c.loop-b.b-index in
    let f = replaced c.args.from c.args.to in
    let h : i < length ys = omega (arith, c.loop-b.auto.bytes, c.loop-b-test.true) in
    ap (set ys i) c.substitute.ensures
    ∙ map_over_more f c.args.bytes.now ys i (get_or ys i 0) c.loop-b-test.true c.loop-b.invariant (get_or_default ys i 0 (get_or ys i 0) h)
