use Rattle.std.proofs.Common.{ℕ, ◌^◌, ◌<◌, length, vec_items, sym, ap, ◌∙◌, arith}
use lib.Bits.{bit_or}
use Rattle.std.proofs.lemmas.Nat.{one_shl}
use Rattle.two_copy.proofs.Masks.{mask-set}
use Rattle.two_copy.proofs.Slots.{apart-set, tidy-set}
use Rattle.two_copy.proofs.two_copy.TwoCopy.put.Goals as goal

pub invariant_of-self : goal.invariant_of-self
invariant_of-self c =
    let s = c.args.self.now in
    let ps = vec_items s.places in
    let i = c.args.i in
    let q = c.args.place in
    let l : i < length ps = omega (arith, c.requires.within, s.places.ok.0) in
    let e = one_shl i 64 (omega (arith, c.requires.within, s.few)) in record {
      few = s.few;
      marks = ap (λ (n : ℕ). bit_or s.used n) e ∙ (ap (λ (n : ℕ). bit_or n (2 ^ i)) s.marks ∙ sym (mask-set ps i q l c.requires.used));
      apart = apart-set q c.requires.used ps i c.requires.fit s.apart;
      tidy = tidy-set q c.requires.used ps i s.tidy;
    }
