-- What holds say, when the disk below changes.
use Rattle.std.proofs.Common.{◌≡◌, ℕ, zero, suc, ◌+◌, ◌<◌, true, false, List, [], ◌∷◌, ◌++◌, map, length, get_or, take, drop, Some, None, Option, refl, ◌∙◌, subst, add-one, arith}
use Rattle.std.proofs.lemmas.Bool.{both_ways}
use Rattle.disk.specs.Keys.{KeyId, same_key, key_of}
use Rattle.disk.specs.DiskState.{DiskState, shown}
use Rattle.disk.specs.declared.block.Block.{Block}
use Rattle.disk.specs.declared.key.Key.{Key}
use Rattle.disk.proofs.Lists.{by_cases, same-key_is, same_key_refl}
use Rattle.disk.proofs.Shown.{other_sym}
use Rattle.layers.specs.declared.hold.Hold.{Hold}
use Rattle.layers.specs.Recent.{to_front}
use Rattle.layers.specs.Holds.{key_is, is_for, forgotten, Says, Agree}
use Rattle.layers.proofs.Sought.{seek_hold}
use Rattle.disk.specs.Blocks.{bytes_of}

says_moved : (m n : DiskState) (o : Option Key) (b : Block) → ((k : KeyId) → key_is o k ≡ true → shown n k ≡ shown m k) → Says m o b → Says n o b
says_moved m n None b h a = tt
says_moved m n (Some k) b h a = h (key_of k) (same_key_refl (key_of k)) ∙ a

-- where every key shows the same
pub agree_moved : (m n : DiskState) (hs : List Hold) → ((k : KeyId) → shown n k ≡ shown m k) → Agree m hs → Agree n hs
agree_moved m n [] h a = tt
agree_moved m n (x ∷ hs) h a = (says_moved m n x.key x.block (λ k _. h k) a.0, agree_moved m n hs h a.1)

-- holds with no word on the key
abbrev pub silent : KeyId → List Hold → Type 0
silent k [] = Unit {0}
silent k (x ∷ hs) = (is_for x k ≡ false) × silent k hs

pub silent_forgotten : (k : KeyId) (hs : List Hold) → silent k (map (forgotten k) hs)
silent_forgotten k [] = tt
silent_forgotten k (x ∷ hs) = (by_cases (is_for x k) (λ e. rw e refl) (λ e. rw (e, e) refl), silent_forgotten k hs)

pub silent_still : (k j : KeyId) (hs : List Hold) → silent k hs → silent k (map (forgotten j) hs)
silent_still k j [] s = tt
silent_still k j (x ∷ hs) s = (by_cases (is_for x j) (λ e. rw e refl) (λ e. rw e s.0), silent_still k j hs s.1)

-- dropping a hold is always right
pub agree_forgotten : (m : DiskState) (k : KeyId) (hs : List Hold) → Agree m hs → Agree m (map (forgotten k) hs)
agree_forgotten m k [] a = tt
agree_forgotten m k (x ∷ hs) a = (by_cases (is_for x k) (λ e. rw e tt) (λ e. rw e a.0), agree_forgotten m k hs a.1)

-- holds silent on two keys outlive a change of both
pub agree_off_two : (m n : DiskState) (k l : KeyId) (hs : List Hold) → silent k hs → silent l hs → ((j : KeyId) → same_key k j ≡ false → same_key l j ≡ false → shown n j ≡ shown m j) → Agree m hs → Agree n hs
agree_off_two m n k l [] s t h a = tt
agree_off_two m n k l (x ∷ hs) s t h a =
    (says_moved m n x.key x.block (λ j e. h j (other k x.key j e s.0) (other l x.key j e t.0)) a.0, agree_off_two m n k l hs s.1 t.1 h a.1)
  where
    other : (k : KeyId) (o : Option Key) (j : KeyId) → key_is o j ≡ true → key_is o k ≡ false → same_key k j ≡ false
    other k None j e f = absurd (both_ways _ refl e)
    other k (Some i) j e f = subst (λ z. same_key k z ≡ false) (same-key_is (key_of i) j e) (other_sym (key_of i) k f)

-- the hold of a key that changed is dropped
pub agree_dropped : (m n : DiskState) (k : KeyId) (hs : List Hold) → ((j : KeyId) → same_key k j ≡ false → shown n j ≡ shown m j) → Agree m hs
    → Agree n (map (forgotten k) hs)
agree_dropped m n k hs h a =
    agree_off_two m n k k (map (forgotten k) hs) (silent_forgotten k hs) (silent_forgotten k hs) (λ j e f. h j e) (agree_forgotten m k hs a)

-- a hold found says what the key shows
pub agree_hit : (m : DiskState) (k : KeyId) (hs : List Hold) (d : Hold) → Agree m hs → seek_hold hs k < length hs → shown m k ≡ Some (bytes_of (get_or hs (seek_hold hs k) d).block)
agree_hit m k [] d a l = absurd (omega arith)
agree_hit m k (x ∷ hs) d a l = by_cases (is_for x k)
    (λ e. rw e (says x.key x.block e a.0))
    (λ e. let t : suc (seek_hold hs k) < suc (length hs) = rw e at l in rw e (agree_hit m k hs d a.1 (omega arith)))
  where
    says : (o : Option Key) (b : Block) → key_is o k ≡ true → Says m o b → shown m k ≡ Some (bytes_of b)
    says None b e s = absurd (both_ways _ refl e)
    says (Some j) b e s = subst (λ z. shown m z ≡ Some (bytes_of b)) (same-key_is (key_of j) k e) s

-- a hold moved to the front says what it said
pub agree_others : (m : DiskState) (hs : List Hold) (i : ℕ) → Agree m hs → Agree m (take i hs ++ drop (i + 1) hs)
agree_others m hs i a = rw add-one (go hs i a)
  where
    go : (hs : List Hold) (i : ℕ) → Agree m hs → Agree m (take i hs ++ drop (suc i) hs)
    go [] zero a = tt
    go [] (suc i) a = tt
    go (x ∷ hs) zero a = a.1
    go (x ∷ hs) (suc i) a = (a.0, go hs i a.1)

pub agree_at : (m : DiskState) (hs : List Hold) (i : ℕ) (d : Hold) → i < length hs → Agree m hs → Says m (get_or hs i d).key (get_or hs i d).block
agree_at m [] i d l a = absurd (omega arith)
agree_at m (x ∷ hs) zero d l a = a.0
agree_at m (x ∷ hs) (suc i) d l a = agree_at m hs i d (omega arith) a.1

pub agree_front : (m : DiskState) (hs : List Hold) (i : ℕ) (d : Hold) → i < length hs → Agree m hs → Agree m (to_front hs i d)
agree_front m hs i d l a = (agree_at m hs i d l a, agree_others m hs i a)
