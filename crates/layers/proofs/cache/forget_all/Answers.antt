use Rattle.std.proofs.Common.{set, sym, ap, ◌∙◌}
use Rattle.std.proofs.lemmas.List.Edits.{map_over_more}
use Rattle.disk.specs.Keys.{key_of}
use Rattle.layers.specs.declared.hold.Hold.{Hold}
use Rattle.layers.specs.Holds.{forgotten}
use Rattle.layers.proofs.cache.forget_all.Goals as goal

pub loop-hold-preserved : goal.loop-hold-preserved
loop-hold-preserved c =
    ap (λ (q : Hold). set c.loop-hold.holds c.loop-hold.hold-index q) (c.forget.ensures ∙ ap (forgotten (key_of c.args.key.now)) (sym c.hold-item.is))
    ∙ map_over_more (forgotten (key_of c.args.key.now)) c.args.holds.now c.loop-hold.holds c.loop-hold.hold-index c.hold-item.result c.loop-hold-test.true c.loop-hold.invariant c.hold-item.is
