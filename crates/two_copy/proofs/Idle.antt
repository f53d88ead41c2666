-- Places of which none is used.
use Rattle.std.proofs.Common.{◌≡◌, ℕ, zero, suc, ◌≤◌, true, replicate, None, sym, refl, subst, arith}
use Rattle.std.proofs.lemmas.List.{length-replicate}
use Rattle.disk.specs.Keys.{KeyId}
use Rattle.names.specs.Limits.{keys_max}
use Rattle.disk.specs.DiskState.{blank}
use Rattle.disk.specs.Restart.{Small}
use Rattle.two_copy.specs.Places.{copies, apart, tidy, idle}
use Rattle.two_copy.specs.Masks.{mask}
use Rattle.two_copy.specs.Models.{Models}

pub mask-idle : (n : ℕ) → mask (replicate n idle) ≡ 0
mask-idle zero = refl
mask-idle (suc n) = let r = mask-idle n in omega arith

pub apart-idle : (n : ℕ) → apart (replicate n idle) ≡ true
apart-idle zero = refl
apart-idle (suc n) = apart-idle n

pub tidy-idle : (n : ℕ) → tidy (replicate n idle) ≡ true
tidy-idle zero = refl
tidy-idle (suc n) = tidy-idle n

copies-idle : (n : ℕ) (k : KeyId) → copies (replicate n idle) k ≡ record { settled = None; present = None; firm = true }
copies-idle zero k = refl
copies-idle (suc n) k = copies-idle n k

pub blank_models : (n charge : ℕ) → n ≤ keys_max → Models (replicate n idle) charge (blank n charge)
blank_models n charge few = record {
  limit_is = sym (length-replicate n idle);
  charge_is = refl;
  each = λ k. rw (copies-idle n k) (record { shows_present = refl; as_firm = refl; old = refl; new = refl });
  lawful = record { once = refl; listed = λ k. refl; few = few; stays = λ k. refl; small = λ k s e. subst Small (sym e) tt };
}
