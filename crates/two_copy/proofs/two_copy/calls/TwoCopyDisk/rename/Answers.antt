use Rattle.std.proofs.Common.{◌≡◌, ◌<◌, false, length, None, Err, vec_items, sym, refl, ap, ◌∙◌, arith, rules}
use Rattle.disk.specs.declared.refusal.Refusal.TheVariants.{Full}
use Rattle.disk.specs.Keys.{key_of, same_key}
use Rattle.two_copy.specs.Places.{copies, room_for}
use Rattle.two_copy.proofs.Sought.{slot}
use Rattle.two_copy.proofs.Slots.{fits-slot}
use Rattle.two_copy.proofs.Rooms.{placed, roomy, no_room}
use Rattle.two_copy.proofs.Calls.{rename-full, rename-done, second_fits}
use Rattle.two_copy.proofs.Settled.{rename-settled}
use Rattle.two_copy.proofs.two_copy.calls.TwoCopyDisk.rename.Goals as goal

pub returns-in_err-j-clause-value : goal.returns-in_err-j-clause-value
returns-in_err-j-clause-value c = λ m h.
    let s = c.args.self.now in
    let ps = vec_items s.places in
    let b = key_of c.args.to.now in
    let f = rw c.in_ok-i.ensures.ok_part at c.shown.ensures in
    let n : room_for ps b ≡ None = sym c.room.ensures ∙ c.in_err-j.ensures.ok_part in
    let d : same_key (key_of c.args.from.now) b ≡ false = search rules in
    let r : c.from_residual-in_err-j.result ≡ Err Full = search rules in
    rw r (rename-full ps s.charge m h (key_of c.args.from.now) b c.if-self-eq0.false d s.apart f.0 (no_room ps b n))

pub put-requires-clause-fit : goal.put-requires-clause-fit
put-requires-clause-fit c =
    let s = c.args.self.now in
    let ps = vec_items s.places in
    let b = key_of c.args.to.now in
    let g = roomy ps b c.in_ok-j.j (sym c.room.ensures ∙ c.in_ok-j.ensures.ok_part) in
    rw g.0 (fits-slot ps b s.apart (omega (arith, g.0, g.1)))

pub put-requires-2-clause-fit : goal.put-requires-2-clause-fit
put-requires-2-clause-fit c =
    let s = c.args.self.now in
    let ps = vec_items s.places in
    let a = key_of c.args.from.now in
    let b = key_of c.args.to.now in
    let f = rw c.in_ok-i.ensures.ok_part at c.shown.ensures in
    let p = placed ps a c.in_ok-i.i f.1 in
    let g = roomy ps b c.in_ok-j.j (sym c.room.ensures ∙ c.in_ok-j.ensures.ok_part) in
    let l : slot ps b < length ps = omega (arith, g.0, g.1) in
    let n : same_key a b ≡ false = search rules in
    let x = second_fits ps c.args.from.now c.args.to.now (record { key = c.args.to.now; settled = c.index.result.now.settled; present = c.index-old.result.now.present; firm = false }) refl n s.apart p.0 l in
    rw (c.put.ensures.0, p.1.0, g.0) x

pub returns : goal.returns
returns c =
    let s = c.args.self.now in
    let ps = vec_items s.places in
    let a = key_of c.args.from.now in
    let b = key_of c.args.to.now in
    let f = rw c.in_ok-i.ensures.ok_part at c.shown.ensures in
    let p = placed ps a c.in_ok-i.i f.1 in
    let g = roomy ps b c.in_ok-j.j (sym c.room.ensures ∙ c.in_ok-j.ensures.ok_part) in
    let l : slot ps b < length ps = omega (arith, g.0, g.1) in
    let n : same_key a b ≡ false = search rules in record {
      value = λ m h.
          let r = rename-done ps s.charge m h c.args.from.now c.args.to.now c.index-old.result.now c.index.result.now c.if-self-eq0.false n s.apart s.tidy f.0
          l (rw (← p.1.0) c.index-old.ensures) (rw (← g.0) c.index.ensures) in
          (r.0, rw (c.put-2.ensures.0, c.put-2.ensures.1, c.put.ensures.0, c.put.ensures.1, p.1.0, g.0) r.1);
      k_unchanged = λ j.
          ap (λ qs. (copies qs j).settled) c.put-2.ensures.0
          ∙ rw (c.put.ensures.0, p.1.0, g.0) (rename-settled ps s.apart c.args.from.now c.args.to.now c.index-old.result.now c.index.result.now c.index-old.result.now.present None n s.tidy p.0 l (rw (← p.1.0) c.index-old.ensures) (rw (← g.0) c.index.ensures) j);
    }
