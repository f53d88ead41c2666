use Rattle.std.proofs.Common.{◌≡◌, get_or, sym, vec_items, refl, ap, ◌∙◌, arith}
use Rattle.std.proofs.lemmas.List.{length-take}
use Rattle.two_copy.proofs.Rooms.{placed, not_placed}
use Rattle.disk.specs.Keys.{key_of}
use Rattle.disk.specs.Blocks.{bytes_of, content_of}
use Rattle.two_copy.proofs.Sought.{seek}
use Rattle.two_copy.proofs.Calls.{shown_lost, shown_at, read_none, read_some}
use Rattle.two_copy.proofs.two_copy.calls.TwoCopyDisk.read.Goals as goal

pub returns-in_default : goal.returns-in_default
returns-in_default c = record {
  bound = tt;
  same = refl;
  step = λ m h.
      let s = c.args.self.now in
      let k = key_of c.args.key.now in
      read_none (vec_items s.places) s.charge m h k c.args.into.now c.if-self-eq0.false (shown_lost (vec_items s.places) s.charge m h k (not_placed (vec_items s.places) k (sym c.in_default.ensures)));
}

pub returns-in-None : goal.returns-in-None
returns-in-None c = record {
  bound = tt;
  same = refl;
  step = λ m h.
      let s = c.args.self.now in
      let k = key_of c.args.key.now in
      let f = placed (vec_items s.places) k c.in-Some.i (sym c.in-Some.ensures) in
      let p = c.index.result.now in
      let i : p ≡ get_or (vec_items s.places) (seek (vec_items s.places) k) p = rw (← f.1.0) c.index.ensures in
      read_none (vec_items s.places) s.charge m h k c.args.into.now c.if-self-eq0.false (shown_at (vec_items s.places) s.charge m h k p f.0 i ∙ ap content_of c.in-None.is);
}

pub returns-in-Some-present : goal.returns-in-Some-present
returns-in-Some-present c = let b = c.in-Some-present.block in record {
  bound = omega (arith, c.copy_into.ensures.many, length-take b.len b.bytes, b.short);
  same = refl;
  step = λ m h.
      let s = c.args.self.now in
      let k = key_of c.args.key.now in
      let f = placed (vec_items s.places) k c.in-Some.i (sym c.in-Some.ensures) in
      let p = c.index.result.now in
      let i : p ≡ get_or (vec_items s.places) (seek (vec_items s.places) k) p = rw (← f.1.0) c.index.ensures in
      read_some (vec_items s.places) s.charge m h k c.args.into.now (bytes_of b) c.copy_into.new.into c.copy_into.result c.if-self-eq0.false
      (shown_at (vec_items s.places) s.charge m h k p f.0 i ∙ ap content_of c.in-Some-present.is) c.copy_into.ensures.many c.copy_into.ensures.after;
}
