-- Refusals in their order: a fact of a whole call from a fact of each way it may go.
use Rattle.std.proofs.Common.{◌≡◌, Bool, true, false, not, is_some, Err, refl, ◌∙◌}
use Rattle.std.proofs.lemmas.Bool.{both_ways, not_from_true}
use Rattle.disk.specs.declared.refusal.Refusal.{Refusal}
use Rattle.disk.specs.declared.refusal.Refusal.TheVariants.{Dark, Full, Same, Missing}
use Rattle.disk.specs.Keys.{KeyId, same_key}
use Rattle.disk.specs.DiskState.{DiskState, shown}
use Rattle.disk.specs.Calls.{Answer, unless, done, dark, full, renamed, removed, rename, remove}

pub unless_has : (P : Answer × DiskState → Type 0) (b : Bool) (why : Refusal) (m : DiskState) (x : Answer × DiskState) → P (Err why, m) → (b ≡ false → P x) → P (unless b why m x)
unless_has P true why m x p q = p
unless_has P false why m x p q = q refl

-- two calls refuse alike and go on alike
pub unless_alike : (R : Answer × DiskState → Answer × DiskState → Type 0) (b : Bool) (why : Refusal) (m n : DiskState) (x y : Answer × DiskState) → R (Err why, m) (Err why, n) → (b ≡ false → R x y) → R (unless b why m x) (unless b why n y)
unless_alike R true why m n x y p q = p
unless_alike R false why m n x y p q = q refl

-- a test that fails lets a call go on
pub past : (b : Bool) (why : Refusal) (m : DiskState) (x : Answer × DiskState) → b ≡ false → unless b why m x ≡ x
past true why m x e = absurd (both_ways _ e refl)
past false why m x e = refl

pub remove_is : (m : DiskState) (k : KeyId) → dark m ≡ false → is_some (shown m k) ≡ true → remove m k ≡ done (removed m k)
remove_is m k d s = past (dark m) Dark m _ d ∙ past (not (is_some (shown m k))) Missing m _ (not_from_true _ s)

pub rename_is : (m : DiskState) (a b : KeyId) → dark m ≡ false → same_key a b ≡ false → is_some (shown m a) ≡ true → full m b ≡ false → rename m a b ≡ done (renamed m a b)
rename_is m a b d n s f =
    past (dark m) Dark m _ d ∙ (past (same_key a b) Same m _ n ∙ (past (not (is_some (shown m a))) Missing m _ (not_from_true _ s) ∙ past (full m b) Full m _ f))
