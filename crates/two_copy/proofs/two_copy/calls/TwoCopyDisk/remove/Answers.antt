use Rattle.std.proofs.Common.{None, vec_items, ap, ◌∙◌}
use Rattle.disk.specs.Keys.{key_of}
use Rattle.two_copy.specs.Places.{copies}
use Rattle.two_copy.proofs.Slots.{fits-seek}
use Rattle.two_copy.proofs.Rooms.{placed}
use Rattle.two_copy.proofs.Calls.{remove-done}
use Rattle.two_copy.proofs.Settled.{seek-put-settled}
use Rattle.two_copy.proofs.two_copy.calls.TwoCopyDisk.remove.Goals as goal

pub put-requires-clause-fit : goal.put-requires-clause-fit
put-requires-clause-fit c =
    let s = c.args.self.now in
    let ps = vec_items s.places in
    let k = key_of c.args.key.now in
    let f = rw c.in_ok-i.ensures.ok_part at c.shown.ensures in
    let p = placed ps k c.in_ok-i.i f.1 in
    rw p.1.0 (fits-seek ps k s.apart p.0)

pub returns : goal.returns
returns c =
    let s = c.args.self.now in
    let ps = vec_items s.places in
    let k = key_of c.args.key.now in
    let f = rw c.in_ok-i.ensures.ok_part at c.shown.ensures in
    let p = placed ps k c.in_ok-i.i f.1 in record {
      value = λ m h.
          let r = remove-done ps s.charge m h c.args.key.now c.index.result.now c.if-self-eq0.false s.apart f.0 (rw (← p.1.0) c.index.ensures) in
          (r.0, rw (c.put.ensures.0, c.put.ensures.1, p.1.0) r.1);
      k_unchanged = λ j. ap (λ qs. (copies qs j).settled) c.put.ensures.0 ∙ rw p.1.0 (seek-put-settled ps s.apart c.args.key.now c.index.result.now None p.0 (rw (← p.1.0) c.index.ensures) j);
    }
