use Rattle.std.proofs.Common.{◌≡◌, true, false, is_some, sym, ◌∙◌, rules}
use Rattle.std.proofs.lemmas.Bool.{both_ways}
use Rattle.disk.specs.Keys.{key_of, same_key}
use Rattle.disk.specs.DiskState.{shown}
use Rattle.disk.specs.Calls.{rename, dark}
use Rattle.layers.specs.Capped.{over}
use Rattle.layers.proofs.Mirrored.{passes, rename_mirrors}
use Rattle.layers.proofs.quota.QuotaDisk.rename.Goals as goal
use Rattle.layers.proofs.quota.QuotaDisk.rename.Goals.{then-eq-via-then-eq, then-eq-via-else-eq+then-not-over}

pub returns-then-eq : goal.returns-then-eq
returns-then-eq g c = λ m h.
    let n = h.0 in
    let cap = c.args.self.now.cap in
    let a = key_of c.args.from.now in
    let b = key_of c.args.to.now in
    let o : dark n ≡ false → same_key a b ≡ false → is_some (shown n a) ≡ true → over cap n b ≡ false =
    λ d s e. elim c.then-eq.branch [
      | then-eq-via-then-eq w ↦ let t : same_key a b ≡ true = search rules in absurd (both_ways _ s t)
      | then-eq-via-else-eq+then-not-over w ↦ sym (w.over.ensures n h.1.0) ∙ w.if-not-over.true
    ] in
    passes (g.D.Disk.models c.rename.new.self) c.rename.result cap (λ z. rename z a b) m n (rename n a b) h.1.1 (rename_mirrors cap n a b o) (c.rename.ensures n h.1.0)
