use Rattle.std.proofs.Common.{◌≡◌, ◌<◌, length, Some, None, Err, vec_items, sym, ap, ◌∙◌, arith, rules}
use Rattle.disk.specs.declared.refusal.Refusal.TheVariants.{Full}
use Rattle.disk.specs.Keys.{key_of}
use Rattle.disk.specs.Blocks.{bytes_of}
use Rattle.two_copy.specs.Places.{copies, room_for}
use Rattle.two_copy.proofs.Sought.{slot}
use Rattle.two_copy.proofs.Slots.{fits-slot}
use Rattle.two_copy.proofs.Rooms.{roomy, no_room}
use Rattle.two_copy.proofs.Calls.{block_fits, store-full, store-done}
use Rattle.two_copy.proofs.Settled.{slot-put-settled}
use Rattle.two_copy.proofs.two_copy.calls.TwoCopyDisk.store.Goals as goal

pub returns-in_err-i-clause-value : goal.returns-in_err-i-clause-value
returns-in_err-i-clause-value c = λ m h.
    let s = c.args.self.now in
    let ps = vec_items s.places in
    let k = key_of c.args.key.now in
    let n : room_for ps k ≡ None = sym c.room.ensures ∙ c.in_err-i.ensures.ok_part in
    let r : c.from_residual-in_err-i.result ≡ Err Full = search rules in
    let b : bytes_of c.in_ok-block.block ≡ c.args.bytes.now = rw c.in_ok-block.ensures.ok_part at c.new.ensures in
    rw r (store-full ps s.charge m h k c.args.bytes.now c.if-self-eq0.false (block_fits c.in_ok-block.block _ b) s.apart (no_room ps k n))

pub put-requires-clause-fit : goal.put-requires-clause-fit
put-requires-clause-fit c =
    let s = c.args.self.now in
    let ps = vec_items s.places in
    let k = key_of c.args.key.now in
    let f = roomy ps k c.in_ok-i.i (sym c.room.ensures ∙ c.in_ok-i.ensures.ok_part) in
    rw f.0 (fits-slot ps k s.apart (omega (arith, f.0, f.1)))

pub returns : goal.returns
returns c =
    let s = c.args.self.now in
    let ps = vec_items s.places in
    let k = key_of c.args.key.now in
    let f = roomy ps k c.in_ok-i.i (sym c.room.ensures ∙ c.in_ok-i.ensures.ok_part) in
    let b = c.in_ok-block.block in
    let e : bytes_of b ≡ c.args.bytes.now = rw c.in_ok-block.ensures.ok_part at c.new.ensures in
    let l : slot ps k < length ps = omega (arith, f.0, f.1) in record {
      value = λ m h.
          let r = store-done ps s.charge m h c.args.key.now c.index.result.now.settled b c.args.bytes.now c.if-self-eq0.false (block_fits b _ e) s.apart l e in
          (r.0, rw (c.put.ensures.0, c.put.ensures.1, f.0) r.1);
      k_unchanged = λ k. ap (λ qs. (copies qs k).settled) c.put.ensures.0 ∙ rw f.0 (slot-put-settled ps s.apart c.args.key.now c.index.result.now (Some b) s.tidy l (rw (← f.0) c.index.ensures) k);
    }
