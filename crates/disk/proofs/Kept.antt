-- Every call leaves a lawful state lawful.
use Rattle.std.proofs.Common.{◌≡◌, ℕ, ◌≤◌, Bool, true, false, not, ◌&&◌, ltb, ◌⊎◌, length, is_some, Some, None, sym, refl, ap, ◌∙◌, subst, inl, inr}
use Rattle.std.proofs.lemmas.Bool.{ltb-false, cond-true, cond-false}
use Rattle.names.specs.Limits.{block_max, keys_max}
use Rattle.names.specs.Names.{Bytes}
use Rattle.disk.specs.declared.refusal.Refusal.TheVariants.{Dark, Long, Full, Same, Missing}
use Rattle.disk.specs.Keys.{KeyId, same_key}
use Rattle.disk.specs.DiskState.{Content, Mark, firm, either, loose, is_firm, Cell, used, DiskState, shown, used_at}
use Rattle.disk.specs.Calls.{Answer, dark, full, put, marked, settled, spent, store, rename, remove, settle, keep}
use Rattle.disk.specs.Restart.{Small, Allows, Restarted}
use Rattle.disk.specs.Lawful.{member, distinct, Lawful}
use Rattle.disk.proofs.Lists.{by_cases, same-key_is, member-keep, distinct-keep}
use Rattle.disk.proofs.Unless.{unless_has}

-- a cell that may be put: it is used, and its mark allows what it shows and nothing that does not fit
pub record Fit (c : Cell) : Type 0 where
  pub is_used : used c ≡ true
  pub stays : Allows c c.shows
  pub small : (s : Content) → Allows c s → Small s

pub put-lawful : (m : DiskState) (k : KeyId) (c : Cell) → Fit c → Lawful m → Lawful (put m k c)
put-lawful m k c f l = record {
  once = by_cases (used_at m k) (λ e. rw e l.once) (λ e. let n = l.listed k ∙ e in rw (e, n) l.once);
  listed = λ j. by_cases (used_at m k)
      (λ e. rw e (by_cases (same_key k j)
      (λ g. rw (g, f.is_used) (l.listed j ∙ subst (λ x. used_at m x ≡ true) (same-key_is k j g) e))
      (λ g. rw g (l.listed j))))
      (λ e. rw e (by_cases (same_key k j) (λ g. rw (g, f.is_used) refl) (λ g. rw g (l.listed j))));
  few = l.few;
  stays = λ j. by_cases (same_key k j)
      (λ g. subst (λ (x : Cell). Allows x x.shows) (sym (cond-true (same_key k j) c (m.cells j) g)) f.stays)
      (λ g. subst (λ (x : Cell). Allows x x.shows) (sym (cond-false (same_key k j) c (m.cells j) g)) (l.stays j));
  small = λ j s. by_cases (same_key k j) (λ g. rw g (f.small s)) (λ g. rw g (l.small j s));
}

-- where only keys that show something stay, each of them firm
pub kept_lawful : (m : DiskState) (contents : KeyId → Content) (limit charge : ℕ) → limit ≤ keys_max → ((k : KeyId) → Small (contents k))
    → ((k : KeyId) → is_some (contents k) ≡ true → used_at m k ≡ true) → Lawful m
    → Lawful (record { limit = limit; charge = charge; keys = keep (λ k. is_some (contents k)) m.keys; cells = λ k. record { shows = contents k; mark = firm } })
kept_lawful m contents limit charge few small h l = record {
  once = distinct-keep (λ k. is_some (contents k)) m.keys l.once;
  listed = λ j. member-keep (λ k. is_some (contents k)) j m.keys
      ∙ by_cases (is_some (contents j)) (λ e. rw (e, l.listed j, h j e) refl) (λ e. rw e refl);
  few = few;
  stays = λ j. refl;
  small = λ j s e. subst Small (sym e) (small j);
}

pub spent-lawful : (m : DiskState) → Lawful m → Lawful (spent m)
spent-lawful m l = record { once = l.once; listed = l.listed; few = l.few; stays = l.stays; small = l.small }

pub shown-small : (m : DiskState) → Lawful m → (k : KeyId) → Small (shown m k)
shown-small m l k = l.small k (shown m k) (l.stays k)

pub settled-lawful : (m : DiskState) → Lawful m → Lawful (settled m)
settled-lawful m l = kept_lawful m (shown m) m.limit m.charge l.few (shown-small m l) (λ k e. rw e refl) l

pub not_firm : (b : Bool) (old new : Content) → is_firm (marked b old new) ≡ false
not_firm true old new = refl
not_firm false old new = refl

pub used-marked : (b : Bool) (old new s : Content) → used (record { shows = s; mark = marked b old new }) ≡ true
used-marked b old new s = rw (not_firm b old new) (by_cases (is_some s) (λ e. rw e refl) (λ e. rw e refl))

either-small : (a b s : Content) → Small a → Small b → (s ≡ a) ⊎ (s ≡ b) → Small s
either-small a b s p q (inl e) = subst Small (sym e) p
either-small a b s p q (inr e) = subst Small (sym e) q

pub fit_marked : (b : Bool) (old new : Content) → Small old → Small new → Fit (record { shows = new; mark = marked b old new })
fit_marked true old new p q = record { is_used = used-marked true old new new; stays = inr refl; small = λ s h. either-small old new s p q h }
fit_marked false old new p q = record { is_used = used-marked false old new new; stays = q; small = λ s h. h }

pub fit_stored : (bs : Bytes) → length bs ≤ block_max → Fit (record { shows = Some bs; mark = loose })
fit_stored bs h = record { is_used = refl; stays = h; small = λ s a. a }

abbrev Fine : Answer × DiskState → Type 0
Fine p = Lawful p.1

module _ (m : DiskState) (l : Lawful m) where
  pub store-lawful : (k : KeyId) (bs : Bytes) → Lawful (store m k bs).1
  store-lawful k bs =
      unless_has Fine (dark m) Dark m _ l (λ _.
      unless_has Fine (ltb block_max (length bs)) Long m _ l (λ s.
      unless_has Fine (full m k) Full m _ l (λ _.
      spent-lawful _ (put-lawful m k _ (fit_stored bs (ltb-false _ _ s)) l))))

  pub remove-lawful : (k : KeyId) → Lawful (remove m k).1
  remove-lawful k =
      unless_has Fine (dark m) Dark m _ l (λ _.
      unless_has Fine (not (is_some (shown m k))) Missing m _ l (λ _.
      spent-lawful _ (put-lawful m k _ (fit_marked (is_firm (m.cells k).mark) (shown m k) None (shown-small m l k) tt) l)))

  pub rename-lawful : (a b : KeyId) → Lawful (rename m a b).1
  rename-lawful a b =
      let both = is_firm (m.cells a).mark && is_firm (m.cells b).mark in
      unless_has Fine (dark m) Dark m _ l (λ _.
      unless_has Fine (same_key a b) Same m _ l (λ _.
      unless_has Fine (not (is_some (shown m a))) Missing m _ l (λ _.
      unless_has Fine (full m b) Full m _ l (λ _.
      spent-lawful _ (put-lawful _ a _ (fit_marked both (shown m a) None (shown-small m l a) tt)
      (put-lawful m b _ (fit_marked both (shown m b) (shown m a) (shown-small m l b) (shown-small m l a)) l))))))

  pub settle-lawful : Lawful (settle m).1
  settle-lawful = unless_has Fine (dark m) Dark m _ l (λ _. spent-lawful _ (settled-lawful m l))

-- a key that a mark lets show something is used
pub allowed-used : (c : Cell) (s : Content) → Allows c s → is_some s ≡ true → used c ≡ true
allowed-used c s a e = go c.mark a
  where
    go : (k : Mark) → Allows (record { shows = c.shows; mark = k }) s → used (record { shows = c.shows; mark = k }) ≡ true
    go firm a = rw (← a, e) refl
    go (either x y) a = by_cases (is_some c.shows) (λ t. rw t refl) (λ t. rw t refl)
    go loose a = by_cases (is_some c.shows) (λ t. rw t refl) (λ t. rw t refl)

pub restarted_lawful : (m : DiskState) (charge : ℕ) (n : DiskState) → Lawful m → Restarted m charge n → Lawful n
restarted_lawful m charge n l r =
    let k = kept_lawful m (shown n) m.limit charge l.few (λ j. l.small j (shown n j) (r.allowed j)) (λ j e. allowed-used (m.cells j) (shown n j) (r.allowed j) e) l in
    record {
      once = ap distinct r.left ∙ k.once;
      listed = λ j. ap (member j) r.left ∙ (k.listed j ∙ rw (r.all_firm j) refl);
      few = rw r.same_limit l.few;
      stays = λ j. rw (r.all_firm j) refl;
      small = λ j s. rw (r.all_firm j) (k.small j s);
    }
