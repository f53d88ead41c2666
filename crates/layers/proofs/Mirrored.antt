-- A call on a capped state mirrors the call on the state below, where the cap is not what refuses.
use Rattle.std.proofs.Common.{◌≡◌, ℕ, min, Bool, true, false, not, ◌&&◌, is_some, nat_le, nat_lt, sym, refl, ◌∙◌, subst, arith}
use Rattle.std.proofs.lemmas.Bool.Decides.{nat_tests}
use Rattle.std.proofs.lemmas.Bool.{not-false}
use Rattle.disk.specs.declared.refusal.Refusal.TheVariants.{Dark, Full, Same, Missing}
use Rattle.disk.specs.Keys.{KeyId, same_key}
use Rattle.disk.specs.DiskState.{DiskState, shown, used_at, count}
use Rattle.disk.specs.Calls.{Answer, unless, dark, full, rename}
use Rattle.disk.proofs.Unless.{unless_alike}
use Rattle.layers.specs.Capped.{capped, Capped, over}

-- the same answer, and the same state but for the limit
abbrev pub Mirrors : ℕ → Answer × DiskState → Answer × DiskState → Type 0
Mirrors cap p q = (p.0 ≡ q.0) × (p.1 ≡ capped cap q.1)

full_alike : (d u : Bool) (limit cap n : ℕ) → d ≡ false → (not d && (nat_lt cap limit && (nat_le cap n && not u))) ≡ false → (not u && nat_le (min limit cap) n) ≡ (not u && nat_le limit n)
full_alike d true limit cap n e o = refl
full_alike true false limit cap n e o = grind (arith, nat_tests)
full_alike false false limit cap n e o = grind (arith, nat_tests)

module _ (cap : ℕ) (n : DiskState) where
  -- past a limit that refuses on both or on neither
  past_full : (k : KeyId) (x y : Answer × DiskState) → dark n ≡ false → over cap n k ≡ false → Mirrors cap x y
      → Mirrors cap (unless (full (capped cap n) k) Full (capped cap n) x) (unless (full n k) Full n y)
  past_full k x y d o r =
      let e : full (capped cap n) k ≡ full n k = full_alike (dark n) (used_at n k) n.limit cap (count n) d o in
      rw e (unless_alike (Mirrors cap) (full n k) Full (capped cap n) n _ _ (refl, refl) (λ _. r))

  pub rename_mirrors : (a b : KeyId) → (dark n ≡ false → same_key a b ≡ false → is_some (shown n a) ≡ true → over cap n b ≡ false) → Mirrors cap (rename (capped cap n) a b) (rename n a b)
  rename_mirrors a b o =
      unless_alike (Mirrors cap) (dark n) Dark (capped cap n) n _ _ (refl, refl) (λ d.
      unless_alike (Mirrors cap) (same_key a b) Same (capped cap n) n _ _ (refl, refl) (λ s.
      unless_alike (Mirrors cap) (not (is_some (shown n a))) Missing (capped cap n) n _ _ (refl, refl) (λ e.
      past_full b _ _ d (o d s (not-false _ e)) (refl, refl))))

-- what a layer owes of a call: the answer, and a state that its own is worked out from
abbrev pub Owed : (DiskState → Type 0) → ℕ → Answer → Answer × DiskState → Type 0
Owed models cap r p = (r ≡ p.0) × Capped models cap p.1

pub passes : (models : DiskState → Type 0) (r : Answer) (cap : ℕ) (f : DiskState → Answer × DiskState) (m n : DiskState) (q : Answer × DiskState)
    → m ≡ capped cap n → Mirrors cap (f (capped cap n)) q → (r ≡ q.0) × models q.1 → Owed models cap r (f m)
passes models r cap f m n q e l h = subst (λ (z : DiskState). Owed models cap r (f z)) (sym e) (h.0 ∙ sym l.0, (q.1, (h.1, l.1)))
