use Rattle.std.proofs.Common.{◌≡◌, ℕ, false, List, Some, None, Option, MatchOption, sym, ap, ◌∙◌}
use Rattle.std.proofs.lemmas.Bool.{ne_eqb}
use Rattle.disk.specs.Keys.{KeyId, key_of}
use Rattle.disk.specs.declared.refusal.Count.{Count}
use Rattle.layers.specs.declared.hold.Hold.{Hold}
use Rattle.layers.specs.Holds.{held, hold_of}
use Rattle.layers.proofs.Sought.{not_sought}
use Rattle.layers.proofs.Latest.{unheld}
use Rattle.layers.proofs.cache.ReadCache.at_hand.Goals as goal

found_or_not : {P Q : Type 0} (hs : List Hold) (k : KeyId) (r : Option ℕ) → r ≡ hold_of hs k → (held hs k ≡ false → P) → Q → MatchOption r P (λ i. (hold_of hs k ≡ Some i) × Q)
found_or_not hs k None e f q = f (unheld hs k (not_sought hs k (sym e)))
found_or_not hs k (Some i) e f q = (sym e, q)

pub returns : goal.returns
returns g c = found_or_not c.args.self.now.holds (key_of c.args.key.now) c.seek.result c.seek.ensures (λ h m x d. h)
    (λ m h. ne_eqb _ _ (λ z. c.if-count-eq0.false (ap (λ (x : Count). x.charge) (c.count.ensures m h) ∙ z)))
