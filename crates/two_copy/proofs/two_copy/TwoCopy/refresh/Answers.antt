use Rattle.std.proofs.Common.{◌≡◌, map, length, vec_items, sym, ap, ◌∙◌}
use Rattle.std.proofs.lemmas.List.{with_items_is, length-map}
use Rattle.two_copy.specs.Masks.{mask}
use Rattle.two_copy.specs.Places.{apart, tidy, refresh}
use Rattle.two_copy.proofs.Refreshes.{apart-refresh, tidy-refresh}
use Rattle.two_copy.proofs.two_copy.TwoCopy.refresh.Goals as goal

pub invariant_of-self : goal.invariant_of-self
invariant_of-self c =
    let s = c.args.self.now in
    let v = s.places in
    let e : c.refresh_all.new.places ≡ map (refresh c.args.old) (vec_items v) = c.refresh_all.ensures ∙ ap (map (refresh c.args.old)) c.deref_mut.ensures.value in
    let w = with_items_is v c.refresh_all.new.places (ap length e ∙ (length-map _ _ ∙ sym v.ok.0)) ∙ e in record {
      few = s.few;
      marks = c.marks-self.ensures ∙ ap mask c.deref.ensures.value;
      apart = ap apart w ∙ apart-refresh c.args.old (vec_items v) s.apart s.tidy;
      tidy = ap tidy w ∙ tidy-refresh c.args.old (vec_items v);
    }
