use Rattle.std.proofs.Common.{◌≡◌, length, vec_items, sym, ap, ◌∙◌, arith}
use Rattle.std.proofs.lemmas.List.{length-replicate}
use Rattle.two_copy.specs.Places.{places_in, apart, tidy, idle}
use Rattle.two_copy.specs.Masks.{mask}
use Rattle.two_copy.proofs.Idle.{mask-idle, apart-idle, tidy-idle, blank_models}
use Rattle.two_copy.proofs.two_copy.TwoCopy.new.Goals as goal

pub invariant_of-result : goal.invariant_of-result
invariant_of-result c =
    let e = c.in_ok-places.ensures in
    let n = c.min-limit.result in
    let l : length (vec_items c.in_ok-places.places) ≡ n = ap length e ∙ length-replicate n idle in
    record {
      few = omega (arith, l, c.in_ok-places.places.ok.0, c.min-limit.ensures);
      marks = sym (mask-idle n) ∙ ap mask (sym e);
      apart = ap apart e ∙ apart-idle n;
      tidy = ap tidy e ∙ tidy-idle n;
    }

pub returns : goal.returns
returns c =
    let e = c.in_ok-places.ensures in
    let n : c.min-limit.result ≡ places_in c.args.bytes = omega (arith, c.min-limit.ensures) in
    rw (e, n) (blank_models (places_in c.args.bytes) c.args.charge (omega arith))
