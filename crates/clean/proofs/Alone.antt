-- A page that was made with other targets open is the page of the name alone.
use Rattle.std.proofs.Common.{◌≡◌, ℕ, zero, suc, ◌≤◌, Bool, true, false, cond, ◌||◌, List, [], ◌∷◌, ◌++◌, sym, refl, ap, ◌∙◌, arith}
use mathlib.Core.Bool.{or-false, or_assoc}
use Rattle.std.specs.Str.{bytes_eq}
use Rattle.std.proofs.lemmas.Bool.{or_parts, or_from}
use Rattle.names.specs.Limits.{depth_max}
use Rattle.names.specs.Names.{Bytes}
use Rattle.faults.specs.Trails.{Steps}
use Rattle.faults.specs.declared.script_fault.ScriptFault.{ScriptFault}
use Rattle.faults.specs.declared.script_fault.ScriptFault.TheVariants.{Cycle}
use Rattle.script.specs.Tree.{Tree, done, stop, ask, Offer, wanted, refused}
use Rattle.script.specs.Search.{whole_run}
use Rattle.clean.specs.Files.{Files}
use Rattle.clean.specs.Status.{Status, absent, source, target, status}
use Rattle.clean.specs.Evaluate.{Outcome, page, fault, taken, if_wanted, follow, lacking_in, yields, evaluate, member}
use Rattle.clean.specs.Laws.{PagesAreMadeAlone}

no-page : {A : Type 0} (f : ScriptFault) (trail : Steps) (p : Bytes) → fault f trail ≡ page p → A
no-page f trail p e = let z : ◌≡◌ {A = ℕ} 0 1 = cc in absurd (omega arith)

-- g yields no other page than h does
abbrev Less : (Bytes → Outcome) → (Bytes → Outcome) → Type 0
Less g h = (n b : Bytes) → g n ≡ page b → h n ≡ page b

less_ask : (t : Bytes) (l : ℕ) (p : Bytes) (x : Bool) (o : Offer) (y z a b : Outcome) (j k : Bytes → Outcome)
    → ((c : Bytes) → y ≡ page c → z ≡ page c) → (a ≡ page p → b ≡ page p) → ((c : Bytes) → j c ≡ page p → k c ≡ page p)
    → cond x a (if_wanted t l o (taken t l y j)) ≡ page p → cond x b (if_wanted t l o (taken t l z k)) ≡ page p
less_ask t l p true o y z a b j k hy ha hk e = ha e
less_ask t l p false (refused f) y z a b j k hy ha hk e = e
less_ask t l p false wanted (page c) z a b j k hy ha hk e = rw (hy c refl) (hk c e)
less_ask t l p false wanted (fault f trail) z a b j k hy ha hk e = no-page _ _ p e

less_follow : (t : Bytes) (lacks : Bytes → Bool) (g h : Bytes → Outcome) → Less g h → (u : Tree) (p : Bytes)
    → follow t lacks g u ≡ page p → follow t lacks h u ≡ page p
less_follow t lacks g h m (done q) p e = e
less_follow t lacks g h m (stop f l) p e = e
less_follow t lacks g h m (ask i n l a o k) p e =
    less_ask t l p (lacks n) o (g n) (h n) (follow t lacks g a) (follow t lacks h a) (λ b. follow t lacks g (k b)) (λ b. follow t lacks h (k b))
    (m n) (less_follow t lacks g h m a p) (λ c. less_follow t lacks g h m (k c) p) e

-- the targets of d are among those of c
abbrev Within : List Bytes → List Bytes → Type 0
Within d c = (n : Bytes) → member n c ≡ false → member n d ≡ false

pub member-push : (n : Bytes) (c : List Bytes) (t : Bytes) → member n (c ++ (t ∷ [])) ≡ (member n c || bytes_eq t n)
member-push n [] t = or-false (bytes_eq t n)
member-push n (m ∷ c) t = ap (λ b. bytes_eq m n || b) (member-push n c t) ∙ sym (or_assoc (bytes_eq m n) (member n c) (bytes_eq t n))

within_more : (c d : List Bytes) → Within d c → (t : Bytes) → Within (d ++ (t ∷ [])) (c ++ (t ∷ []))
within_more c d w t n e =
    let p = or_parts (member n c) (bytes_eq t n) (sym (member-push n c t) ∙ e) in
    member-push n d t ∙ or_from (member n d) (bytes_eq t n) (w n p.0) p.1

less_reach : (x y : Bool) (r q : Outcome) (p : Bytes) → (x ≡ false → y ≡ false) → (r ≡ page p → q ≡ page p)
    → cond x (fault Cycle []) r ≡ page p → cond y (fault Cycle []) q ≡ page p
less_reach true y r q p w h e = no-page _ _ p e
less_reach false y r q p w h e = rw (w refl) (h e)

less_yields : (c d : List Bytes) → Within d c → (g h : Bytes → Outcome) → Less g h → (n : Bytes) (st : Status) (p : Bytes)
    → yields c g n st ≡ page p → yields d h n st ≡ page p
less_yields c d w g h m n absent p e = e
less_yields c d w g h m n (source l) p e = e
less_yields c d w g h m n target p e = less_reach (member n c) (member n d) (g n) (h n) p (w n) (m n p) e

pub less_evaluate : (laid : Files) (i j : ℕ) → i ≤ j → (c d : List Bytes) → Within d c → Less (evaluate laid i c) (evaluate laid j d)
unfolding evaluate
less_evaluate laid zero j le c d w t p e = no-page _ _ p e
less_evaluate laid (suc i) zero le c d w t p e = absurd (omega arith)
less_evaluate laid (suc i) (suc j) le c d w t p e =
    let cs : List Bytes = c ++ (t ∷ []) in
    let ds : List Bytes = d ++ (t ∷ []) in
    less_follow t (lacking_in laid) _ _
    (λ n b. less_yields cs ds (within_more c d w t) (evaluate laid i cs) (evaluate laid j ds)
    (less_evaluate laid i j (omega arith) cs ds (within_more c d w t)) n (status laid n) b)
    (whole_run t) p e

pub pages_are_made_alone : PagesAreMadeAlone
pages_are_made_alone laid left chain t p le e = less_evaluate laid left depth_max le chain [] (λ n h. refl) t p e
