use Rattle.std.proofs.Common.{set, sym, ap, ◌∙◌}
use Rattle.std.proofs.lemmas.List.Edits.{map_over_more}
use Rattle.two_copy.specs.declared.place.Place.{Place}
use Rattle.two_copy.specs.Places.{refresh}
use Rattle.two_copy.proofs.two_copy.search.refresh_all.Goals as goal

pub loop-p-preserved : goal.loop-p-preserved
loop-p-preserved c =
    ap (λ (q : Place). set c.loop-p.places c.loop-p.p-index q) (c.refresh.ensures ∙ ap (refresh c.args.old) (sym c.p-item.is))
    ∙ map_over_more (refresh c.args.old) c.args.places.now c.loop-p.places c.loop-p.p-index c.p-item.result c.loop-p-test.true c.loop-p.invariant c.p-item.is
