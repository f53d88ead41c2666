use Rattle.std.proofs.Common.{◌≡◌, ℕ, List, is_some, Some, None, vec_items, Option, sym, ◌∙◌}
use Rattle.disk.specs.Keys.{KeyId, key_of}
use Rattle.two_copy.specs.declared.place.Place.{Place}
use Rattle.two_copy.specs.Places.{found, place_of}
use Rattle.two_copy.proofs.Rooms.{placed, not_placed}
use Rattle.two_copy.proofs.Modelled.{used-found}
use Rattle.two_copy.proofs.two_copy.calls.TwoCopyDisk.is_used.Goals as goal

is_found : (ps : List Place) (k : KeyId) (r : Option ℕ) → r ≡ place_of ps k → is_some r ≡ found ps k
is_found ps k None h = sym (not_placed ps k (sym h))
is_found ps k (Some i) h = sym (placed ps k i (sym h)).0

pub returns : goal.returns
returns c = λ m h.
    let ps = vec_items c.args.self.now.places in
    c.is_some.ensures ∙ (is_found ps (key_of c.args.key.now) c.find.result c.find.ensures ∙ used-found ps c.args.self.now.charge m h (key_of c.args.key.now))
