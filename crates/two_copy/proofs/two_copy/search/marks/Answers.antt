use Rattle.std.proofs.Common.{◌≡◌, ℕ, ◌^◌, take, sym, ap, ◌∙◌, arith}
use lib.Bits.{bit_or}
use Rattle.std.proofs.lemmas.Nat.{one_shl}
use Rattle.two_copy.specs.Masks.{mask}
use Rattle.two_copy.proofs.Masks.{mask-take_unused, mask-take_used}
use Rattle.two_copy.proofs.two_copy.search.marks.Goals as goal
use Rattle.two_copy.proofs.two_copy.search.marks.Goals.{then-is_used, else-is_used}

pub loop-i-preserved : goal.loop-i-preserved
loop-i-preserved c =
    let ps = c.args.places.now in
    let i = c.loop-i.i in
    let p = c.index-places-i.result in
    let h = c.loop-i-test.true in
    let v : c.loop-i.marks ≡ mask (take i ps) = c.loop-i.invariant in
    elim c.if-is_used.branch [
      | then-is_used w ↦
          let u = sym c.is_used.ensures ∙ w.if-is_used.true in
          w.marks-is ∙ (ap (λ (n : ℕ). bit_or c.loop-i.marks n) (one_shl i 64 (omega (arith, c.requires))) ∙ (ap (λ (n : ℕ). bit_or n (2 ^ i)) v ∙ mask-take_used ps i p h c.index-places-i.is u))
      | else-is_used w ↦
          let u = sym c.is_used.ensures ∙ w.if-is_used.false in
          w.marks-is ∙ (v ∙ mask-take_unused ps i p h c.index-places-i.is u)
    ]
