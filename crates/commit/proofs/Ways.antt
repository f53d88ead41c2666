-- The ways that a call of a disk may end.
use Rattle.std.proofs.Common.{◌≡◌, Bool, true, false, not, ltb, length, is_some, Some, Err, refl}
use Rattle.std.proofs.lemmas.Bool.{not-true}
use Rattle.names.specs.Limits.{block_max}
use Rattle.names.specs.Names.{Bytes}
use Rattle.disk.specs.declared.refusal.Refusal.{Refusal}
use Rattle.disk.specs.declared.refusal.Refusal.TheVariants.{Dark, Long, Full, Same, Missing}
use Rattle.disk.specs.Keys.{KeyId, same_key}
use Rattle.disk.specs.DiskState.{DiskState, loose, shown}
use Rattle.disk.specs.Calls.{Answer, unless, done, dark, full, put, renamed, removed, settled, store, rename, remove, settle}
use Rattle.commit.specs.Updates.{cell}

pub unless_by : (P : Answer × DiskState → Type 0) (b : Bool) (why : Refusal) (m : DiskState) (x : Answer × DiskState) → (b ≡ true → P (Err why, m)) → (b ≡ false → P x) → P (unless b why m x)
unless_by P true why m x p q = p refl
unless_by P false why m x p q = q refl

module _ (P : Answer × DiskState → Type 0) (m : DiskState) (at-dark : dark m ≡ true → P (Err Dark, m)) where
  pub settle_ways : (dark m ≡ false → P (done (settled m))) → P (settle m)
  settle_ways p = unless_by P (dark m) Dark m _ at-dark p

  pub store_ways : (k : KeyId) (bs : Bytes) → (ltb block_max (length bs) ≡ true → P (Err Long, m)) → P (Err Full, m)
      → (dark m ≡ false → P (done (put m k (cell (Some bs) loose)))) → P (store m k bs)
  store_ways k bs l f p =
      unless_by P (dark m) Dark m _ at-dark (λ d.
      unless_by P (ltb block_max (length bs)) Long m _ l (λ _.
      unless_by P (full m k) Full m _ (λ _. f) (λ _. p d)))

  pub remove_ways : (k : KeyId) → (is_some (shown m k) ≡ false → P (Err Missing, m)) → (dark m ≡ false → P (done (removed m k))) → P (remove m k)
  remove_ways k l p =
      unless_by P (dark m) Dark m _ at-dark (λ d.
      unless_by P (not (is_some (shown m k))) Missing m _ (λ e. l (not-true _ e)) (λ _. p d))

  pub rename_ways : (a b : KeyId) → (same_key a b ≡ true → P (Err Same, m)) → (is_some (shown m a) ≡ false → P (Err Missing, m)) → P (Err Full, m)
      → (dark m ≡ false → P (done (renamed m a b))) → P (rename m a b)
  rename_ways a b s l f p =
      unless_by P (dark m) Dark m _ at-dark (λ d.
      unless_by P (same_key a b) Same m _ s (λ _.
      unless_by P (not (is_some (shown m a))) Missing m _ (λ e. l (not-true _ e)) (λ _.
      unless_by P (full m b) Full m _ (λ _. f) (λ _. p d))))
