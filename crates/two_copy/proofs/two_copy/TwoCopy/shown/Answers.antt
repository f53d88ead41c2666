use Rattle.std.proofs.Common.{◌≡◌, Some, is_some, vec_items, sym, ap, ◌∙◌}
use Rattle.disk.specs.Keys.{key_of}
use Rattle.two_copy.specs.Places.{Copies, place_of}
use Rattle.two_copy.proofs.Found.{copies_lost}
use Rattle.two_copy.proofs.Rooms.{not_placed, at_place, shown_if}
use Rattle.two_copy.proofs.two_copy.TwoCopy.shown.Goals as goal

pub returns-in_err-i : goal.returns-in_err-i
returns-in_err-i c =
    let ps = vec_items c.args.self.now.places in
    let k = key_of c.args.key.now in
    rw c.from_residual.ensures (ap (λ (l : Copies). is_some l.present) (copies_lost ps k (not_placed ps k (sym c.find.ensures ∙ c.in_err-i.was))))

pub returns : goal.returns
returns c =
    let ps = vec_items c.args.self.now.places in
    let k = key_of c.args.key.now in
    let e : place_of ps k ≡ Some c.in_ok-i.i = sym c.find.ensures ∙ c.in_ok-i.was in
    shown_if ps k c.in_ok-i.i c.is_some.result c.then_some.result e (at_place ps k c.in_ok-i.i c.index.result.now c.is_some.result e c.index.ensures c.is_some.ensures) c.then_some.ensures
