use Rattle.std.proofs.Common.{vec_items, ◌∙◌, arith}
use Rattle.std.proofs.lemmas.Nat.{ones-le}
use Rattle.two_copy.proofs.Masks.{mask_under}
use Rattle.two_copy.proofs.Calls.{counted_is}
use Rattle.two_copy.proofs.two_copy.calls.TwoCopyDisk.count.Goals as goal

pub overflow_cast-result-2 : goal.overflow_cast-result-2
overflow_cast-result-2 c =
    let s = c.args.self.now in
    omega (arith, ones-le 64 s.used (omega (arith, s.marks, mask_under (vec_items s.places) 64 (omega (arith, s.few, s.places.ok.0)))))

pub returns : goal.returns
returns c = λ m h.
    let s = c.args.self.now in
    counted_is (vec_items s.places) s.charge m h c.len.result s.used (c.len.ensures ∙ s.places.ok.0) s.marks s.apart
