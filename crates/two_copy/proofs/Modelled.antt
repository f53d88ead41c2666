-- The states that describe places, and what changes leave of them.
use Rattle.std.proofs.Common.{◌≡◌, ℕ, ◌-◌, Bool, true, false, List, map, set, is_some, sym, refl, ap, ◌∙◌, length-set}
use lib.Count.{ones}
use Rattle.std.proofs.lemmas.List.{length-map}
use Rattle.disk.specs.Keys.{KeyId, same_key, key_of}
use Rattle.disk.specs.DiskState.{firm, Cell, used, DiskState, count, used_at}
use Rattle.disk.specs.Calls.{put, spent, settled, keep}
use Rattle.disk.specs.Restart.{Allows, Restarted}
use Rattle.disk.proofs.Lists.{by_cases, same_length}
use Rattle.disk.proofs.Kept.{Fit, put-lawful, settled-lawful, spent-lawful, restarted_lawful}
use Rattle.two_copy.specs.declared.place.Place.{Place}
use Rattle.two_copy.specs.Places.{used_place, Copies, copies_at, copies, found, apart, tidy, refresh, fits}
use Rattle.two_copy.specs.Masks.{mask}
use Rattle.two_copy.specs.Models.{Holds, Models}
use Rattle.two_copy.proofs.Masks.{tally, ones_mask}
use Rattle.two_copy.proofs.Found.{used-copies, found-used, used-keys, member-used, distinct-used, length-used}
use Rattle.two_copy.proofs.Slots.{copies-set}
use Rattle.two_copy.proofs.Refreshes.{picked, copies-refresh}

holds_used : (l : Copies) (c : Cell) → Holds l c → used c ≡ used-copies l
holds_used l c h = rw (h.shows_present, h.as_firm) refl

module _ (ps : List Place) (charge : ℕ) (m : DiskState) (h : Models ps charge m) where
  pub used-found : (k : KeyId) → found ps k ≡ used_at m k
  used-found k = found-used ps k ∙ sym (holds_used (copies ps k) (m.cells k) (h.each k))

  pub count_tally : apart ps ≡ true → count m ≡ tally ps
  count_tally d =
      same_length m.keys (used-keys ps) h.lawful.once (distinct-used ps d) (λ k. h.lawful.listed k ∙ (sym (used-found k) ∙ sym (member-used ps k)))
      ∙ length-used ps

  pub count_ones : apart ps ≡ true → count m ≡ ones (mask ps)
  count_ones d = count_tally d ∙ sym (ones_mask ps)

  -- a used place for a key, in a slot that fits
  pub put_models : (i : ℕ) (q : Place) (c : Cell) → used_place q ≡ true → fits ps i (key_of q.key) ≡ true → Fit c → Holds (copies_at q) c
      → Models (set ps i q) charge (put m (key_of q.key) c)
  put_models i q c u f v g = record {
    limit_is = h.limit_is ∙ sym (length-set ps i q);
    charge_is = h.charge_is;
    each = λ j. rw (copies-set q u ps i j f) (by_cases (same_key (key_of q.key) j) (λ e. rw e g) (λ e. rw e (h.each j)));
    lawful = put-lawful m (key_of q.key) c v h.lawful;
  }

  pub spent_models : Models ps (charge - 1) (spent m)
  spent_models = record { limit_is = h.limit_is; charge_is = ap (λ (n : ℕ). n - 1) h.charge_is; each = h.each; lawful = spent-lawful m h.lawful }

  pub settled_models : apart ps ≡ true → tidy ps ≡ true → Models (map (refresh false) ps) charge (settled m)
  settled_models d t = record {
    limit_is = h.limit_is ∙ sym (length-map ps (refresh false));
    charge_is = h.charge_is;
    each = λ k. rw (copies-refresh false ps k d t) (let g = h.each k in record { shows_present = g.shows_present; as_firm = refl; old = sym g.shows_present; new = sym g.shows_present });
    lawful = settled-lawful m h.lawful;
  }

-- the state after a restart
abbrev pub restarted : List Place → DiskState → Bool → ℕ → DiskState
restarted ps m old given = record {
  limit = m.limit;
  charge = given;
  keys = keep (λ k. is_some (picked old (copies ps k))) m.keys;
  cells = λ k. record { shows = picked old (copies ps k); mark = firm };
}

picked_allowed : (old : Bool) (l : Copies) (c : Cell) → Holds l c → Allows c (picked old l)
picked_allowed true l c h = h.old
picked_allowed false l c h = h.new

pub restart_models : (ps : List Place) (charge : ℕ) (m : DiskState) → Models ps charge m → (old : Bool) (given : ℕ) → apart ps ≡ true → tidy ps ≡ true
    → Restarted m given (restarted ps m old given) × Models (map (refresh old) ps) given (restarted ps m old given)
restart_models ps charge m h old given d t =
    let r : Restarted m given (restarted ps m old given) = record { same_limit = refl; given = refl; allowed = λ k. picked_allowed old (copies ps k) (m.cells k) (h.each k); all_firm = λ k. refl; left = refl } in (
      r,
      record {
        limit_is = h.limit_is ∙ sym (length-map ps (refresh old));
        charge_is = refl;
        each = λ k. rw (copies-refresh old ps k d t) (record { shows_present = refl; as_firm = refl; old = refl; new = refl });
        lawful = restarted_lawful m given _ h.lawful r;
      },
    )
