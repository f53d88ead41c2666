-- How long a page, a run and a trail can become.
use Rattle.std.proofs.Common.{◌≡◌, ℕ, zero, suc, ◌+◌, ◌≤◌, Bool, true, false, cond, leb, List, [], ◌∷◌, ◌++◌, length, is_some, Some, None, Option, sym, refl, ◌∙◌, subst, arith, length-append}
use Rattle.std.proofs.lemmas.List.{length_push}
use Rattle.std.proofs.lemmas.Bool.{leb-true, le-leb, lt-leb}
use Rattle.names.specs.Limits.{page_max, entries_max, depth_max}
use Rattle.names.specs.Names.{Bytes, is_name}
use Rattle.faults.specs.Trails.{Steps}
use Rattle.faults.specs.declared.script_fault.ScriptFault.{ScriptFault}
use Rattle.faults.specs.declared.script_fault.ScriptFault.TheVariants.{PageTooLong, NotAName}
use Rattle.script.specs.Lines.{lines}
use Rattle.script.specs.Words.{spelled_by, rest_of}
use Rattle.script.specs.Tree.{Tree, done, stop, ask, Offer, wanted, refused, Entered, Entries, entered, with_entry, full, unless_full, Does, pass, skip, add, fail, query, adding, copying, known, asking, named, worded, does, lacking, offer, mode_after, goes, run}
use Rattle.script.specs.Candidates.{Candidate, candidates}
use Rattle.script.specs.Search.{seeking, whole_run}
use Rattle.script.specs.declared.word.Word.{Word}
use Rattle.script.specs.declared.word.Word.TheVariants.{Need, IfCreate, IfHas, Say, Copy}
use Rattle.script.specs.declared.word.Rest.TheVariants.{Name, Text}
use Rattle.script.specs.declared.word.Spelled.{Spelled}
use Rattle.script.specs.declared.word.Spelled.TheVariants.{Nothing, Unknown, Known}
use Rattle.script.specs.declared.word.Mode.{Mode}
use Rattle.script.specs.declared.word.Mode.TheVariants.{Running, Skipping}
use Rattle.script.specs.declared.entry.Kind.TheVariants.{Needed, Absent}
use Rattle.clean.specs.Files.{Files}
use Rattle.clean.specs.Status.{Status, absent, source, target, status}
use Rattle.clean.specs.Evaluate.{Outcome, page as paged, fault, taken, if_wanted, follow, evaluate, made, failed, as_answer, answer}
use Rattle.clean.specs.Trace.{Question, asked, asked_on, asked_if}
use Rattle.clean.specs.Laws.{PagesAreShort, RunsMakeFewEntries, TrailsEndInTheTarget}
use Rattle.faults.specs.declared.cause.Cause.TheVariants.{Misnamed, Script as InScript}
use Rattle.clean.proofs.Drives.{trail_length, evaluate-length}

-- ---- pages

abbrev pub Short : Tree → Type 0
Short (done p) = length p ≤ page_max
Short (stop f l) = Unit {0}
Short (ask k n l a o next) = Short a × ((b : Bytes) → Short (next b))

-- what a line does leaves the page short
abbrev Fits : Bytes → Does → Type 0
Fits page pass = Unit {0}
Fits page skip = Unit {0}
Fits page (add t) = length (page ++ t) ≤ page_max
Fits page (fail f) = Unit {0}
Fits page (query w n) = Unit {0}

fits_if : (page text : Bytes) (b : Bool) → leb (length page + length text) page_max ≡ b → Fits page (cond b (add text) (fail PageTooLong))
fits_if page text true h = let k = leb-true _ _ h in omega (arith, length-append page text)
fits_if page text false h = tt

adding-fits : (page text : Bytes) → Fits page (adding page text)
adding-fits page text = fits_if page text _ refl

copying-fits : (page : Bytes) (o : Option Bytes) → Fits page (copying page o)
copying-fits page None = tt
copying-fits page (Some b) = adding-fits page b

known-fits : (page n : Bytes) (w : Word) (x y : Bool) → Fits page (known w n x y)
known-fits page n Need true y = tt
known-fits page n Need false true = tt
known-fits page n Need false false = tt
known-fits page n IfCreate true y = tt
known-fits page n IfCreate false true = tt
known-fits page n IfCreate false false = tt
known-fits page n IfHas true y = tt
known-fits page n IfHas false true = tt
known-fits page n IfHas false false = tt
known-fits page n Say true y = tt
known-fits page n Say false true = tt
known-fits page n Say false false = tt
known-fits page n Copy true y = tt
known-fits page n Copy false true = tt
known-fits page n Copy false false = tt

asking-fits : (page n : Bytes) (es : Entries) (w : Word) → Fits page (asking w n es)
asking-fits page n es w = known-fits page n w (is_some (entered Needed n es)) (is_some (entered Absent n es))

named-fits : (page n : Bytes) (es : Entries) (w : Word) → Fits page (named w es page n)
named-fits page n es Copy = copying-fits page (entered Needed n es)
named-fits page n es Need = asking-fits page n es Need
named-fits page n es IfCreate = asking-fits page n es IfCreate
named-fits page n es IfHas = asking-fits page n es IfHas
named-fits page n es Say = asking-fits page n es Say

name-fits : (page : Bytes) (d : Does) (b : Bool) → Fits page d → Fits page (cond b d (fail NotAName))
name-fits page d true h = h
name-fits page d false h = tt

worded-fits : (page rest : Bytes) (es : Entries) (s : Spelled) → Fits page (worded s es page rest)
worded-fits page rest es Nothing = tt
worded-fits page rest es Unknown = tt
worded-fits page rest es (Known w Name) = name-fits page _ (is_name rest) (named-fits page rest es w)
worded-fits page rest es (Known w Text) = adding-fits page _

unless-short : (f : Bool) (l : ℕ) (t : Tree) → Short t → Short (unless_full f l t)
unless-short true l t h = tt
unless-short false l t h = h

lacking-short : (w : Word) (f : Bool) (l : ℕ) (t : Tree) → Short t → Short (lacking w f l t)
lacking-short Need f l t h = tt
lacking-short IfCreate f l t h = unless-short f l t h
lacking-short IfHas f l t h = unless-short f l t h
lacking-short Say f l t h = unless-short f l t h
lacking-short Copy f l t h = unless-short f l t h

goes-short : (l : ℕ) (es : Entries) (page : Bytes) (next : Mode → Entries → Bytes → Tree) → length page ≤ page_max
    → ((m : Mode) (fs : Entries) (p : Bytes) → length p ≤ page_max → Short (next m fs p)) → (d : Does) → Fits page d → Short (goes l es page next d)
goes-short l es page next h k pass f = k Running es page h
goes-short l es page next h k skip f = k Skipping es page h
goes-short l es page next h k (add t) f = k Running es (page ++ t) f
goes-short l es page next h k (fail x) f = tt
goes-short l es page next h k (query w n) f = (lacking-short w (full es) l _ (k (mode_after w) _ page h), λ b. k Running _ page h)

pub run_short : (stem : Bytes) (m : Mode) (l : ℕ) (es : Entries) (page : Bytes) (xs : List Bytes) → length page ≤ page_max → Short (run stem m l es page xs)
run_short stem m l es page [] h = h
run_short stem Skipping l es page (x ∷ xs) h = run_short stem Running (l + 1) es page xs h
run_short stem Running l es page (x ∷ xs) h =
    goes-short l es page (λ m fs p. run stem m (l + 1) fs p xs) h (λ m fs p k. run_short stem m (l + 1) fs p xs k) (does stem es page x)
    (worded-fits page (rest_of stem x) es (spelled_by x))

either-short : (b : Bool) (t u : Tree) → Short t → Short u → Short (cond b t u)
either-short true t u p q = p
either-short false t u p q = q

pub seeking-short : (cs : List Candidate) (es : Entries) → Short (seeking cs es)
seeking-short [] es = tt
seeking-short (c ∷ cs) es =
    either-short (is_some (entered Absent c.script es)) _ _ (seeking-short cs es)
    (unless-short (full es) 0 _ (seeking-short cs (with_entry es Absent c.script [])), λ b. run_short c.stem Running 1 _ [] (lines b) (omega arith))

abbrev Brief : Outcome → Type 0
Brief (paged p) = length p ≤ page_max
Brief (fault f s) = Unit {0}

brief_ask : (t : Bytes) (l : ℕ) (x : Bool) (o : Offer) (g a : Outcome) (j : Bytes → Outcome) → Brief a → ((b : Bytes) → Brief (j b))
    → Brief (cond x a (if_wanted t l o (taken t l g j)))
brief_ask t l true o g a j p q = p
brief_ask t l false (refused f) g a j p q = tt
brief_ask t l false wanted (paged b) a j p q = q b
brief_ask t l false wanted (fault f s) a j p q = tt

pub follow_brief : (t : Bytes) (lacks : Bytes → Bool) (get : Bytes → Outcome) (u : Tree) → Short u → Brief (follow t lacks get u)
follow_brief t lacks get (done p) h = h
follow_brief t lacks get (stop f l) h = tt
follow_brief t lacks get (ask k n l a o next) h =
    brief_ask t l (lacks n) o (get n) _ _ (follow_brief t lacks get a h.0) (λ b. follow_brief t lacks get (next b) (h.1 b))

-- ---- what an answer came from

differ : {A : Type 0} → (◌≡◌ {A = ℕ} 0 1) → A
differ z = absurd (omega arith)

made_from : (laid : Files) (n p : Bytes) (b : Bool) (st : Status) → cond b (answer laid n st) (failed Misnamed []) ≡ made p
    → as_answer (evaluate laid depth_max [] n) ≡ made p
made_from laid n p false st e = let z : ◌≡◌ {A = ℕ} 0 1 = cc in differ z
made_from laid n p true absent e = let z : ◌≡◌ {A = ℕ} 0 1 = cc in differ z
made_from laid n p true (source b) e = let z : ◌≡◌ {A = ℕ} 0 1 = cc in differ z
made_from laid n p true target e = e

failed_from : (laid : Files) (n : Bytes) (f : ScriptFault) (s : Steps) (b : Bool) (st : Status) → cond b (answer laid n st) (failed Misnamed []) ≡ failed (InScript f) s
    → as_answer (evaluate laid depth_max [] n) ≡ failed (InScript f) s
failed_from laid n f s false st e = let z : ◌≡◌ {A = ℕ} 0 1 = cc in differ z
failed_from laid n f s true absent e = let z : ◌≡◌ {A = ℕ} 0 1 = cc in differ z
failed_from laid n f s true (source b) e = let z : ◌≡◌ {A = ℕ} 0 1 = cc in differ z
failed_from laid n f s true target e = e

brief_made : (o : Outcome) (p : Bytes) → Brief o → as_answer o ≡ made p → length p ≤ page_max
brief_made (paged b) p h e = let q : b ≡ p = cc in subst (λ (x : Bytes). length x ≤ page_max) q h
brief_made (fault f s) p h e = let z : ◌≡◌ {A = ℕ} 0 1 = cc in differ z

evaluate_brief : (laid : Files) (n : Bytes) → Brief (evaluate laid depth_max [] n)
unfolding evaluate
evaluate_brief laid n = follow_brief n _ _ (whole_run n) (seeking-short (candidates n) [])

pub pages_are_short : PagesAreShort
pages_are_short laid n p e = brief_made (evaluate laid depth_max [] n) p (evaluate_brief laid n) (made_from laid n p (is_name n) (status laid n) e)

-- ---- trails

abbrev EndsIn : Bytes → Outcome → Type 0
EndsIn t (paged b) = Unit {0}
EndsIn t (fault f s) = (inner : Steps) × (l : ℕ) × (s ≡ inner ++ ((t, l) ∷ []))

ends_ask : (t : Bytes) (l : ℕ) (x : Bool) (o : Offer) (g a : Outcome) (j : Bytes → Outcome) → EndsIn t a → ((b : Bytes) → EndsIn t (j b))
    → EndsIn t (cond x a (if_wanted t l o (taken t l g j)))
ends_ask t l true o g a j p q = p
ends_ask t l false (refused f) g a j p q = ([], l, refl)
ends_ask t l false wanted (paged b) a j p q = q b
ends_ask t l false wanted (fault f s) a j p q = (s, l, refl)

follow_ends : (t : Bytes) (lacks : Bytes → Bool) (get : Bytes → Outcome) (u : Tree) → EndsIn t (follow t lacks get u)
follow_ends t lacks get (done p) = tt
follow_ends t lacks get (stop f l) = ([], l, refl)
follow_ends t lacks get (ask k n l a o next) =
    ends_ask t l (lacks n) o (get n) _ _ (follow_ends t lacks get a) (λ b. follow_ends t lacks get (next b))

evaluate_ends : (laid : Files) (n : Bytes) → EndsIn n (evaluate laid depth_max [] n)
unfolding evaluate
evaluate_ends laid n = follow_ends n _ _ (whole_run n)

ends_failed : (o : Outcome) (n : Bytes) (f : ScriptFault) (s : Steps) → EndsIn n o → trail_length o ≤ depth_max → as_answer o ≡ failed (InScript f) s
    → (length s ≤ depth_max) × ((inner : Steps) × (l : ℕ) × (s ≡ inner ++ ((n, l) ∷ [])))
ends_failed (paged b) n f s h k e = let z : ◌≡◌ {A = ℕ} 0 1 = cc in differ z
ends_failed (fault g u) n f s h k e =
    let q : u ≡ s = cc in
    (subst (λ (x : Steps). length x ≤ depth_max) q k, (h.0, h.1, sym q ∙ h.2))

pub trails_end_in_the_target : TrailsEndInTheTarget
trails_end_in_the_target laid n f s e =
    ends_failed (evaluate laid depth_max [] n) n f s (evaluate_ends laid n) (evaluate-length laid depth_max [] n) (failed_from laid n f s (is_name n) (status laid n) e)

-- ---- entries

abbrev Stops : Tree → Type 0
Stops (done p) = ⊥
Stops (stop f l) = Unit {0}
Stops (ask k n l a o next) = ⊥

abbrev Refuses : Offer → Type 0
Refuses wanted = ⊥
Refuses (refused f) = Unit {0}

-- at most k entries can still be made
abbrev pub Few : ℕ → Tree → Type 0
Few k (done p) = Unit {0}
Few k (stop f l) = Unit {0}
Few zero (ask i n l a o next) = Stops a × Refuses o
Few (suc k) (ask i n l a o next) = Few k a × ((b : Bytes) → Few k (next b))

now_full : (es : Entries) → length es + 0 ≡ entries_max → full es ≡ true
now_full es h = le-leb entries_max (length es) (omega arith)

not_full : (es : Entries) (k : ℕ) → length es + suc k ≡ entries_max → full es ≡ false
not_full es k h = lt-leb entries_max (length es) (omega arith)

stops-lacking : (w : Word) (l : ℕ) (t : Tree) → Stops (lacking w true l t)
stops-lacking Need l t = tt
stops-lacking IfCreate l t = tt
stops-lacking IfHas l t = tt
stops-lacking Say l t = tt
stops-lacking Copy l t = tt

refuses_offer : (w : Word) → Refuses (offer w true)
refuses_offer Need = tt
refuses_offer IfCreate = tt
refuses_offer IfHas = tt
refuses_offer Say = tt
refuses_offer Copy = tt

lacking-few : (w : Word) (k l : ℕ) (t : Tree) → Few k t → Few k (lacking w false l t)
lacking-few Need k l t h = tt
lacking-few IfCreate k l t h = h
lacking-few IfHas k l t h = h
lacking-few Say k l t h = h
lacking-few Copy k l t h = h

abbrev Room : ℕ → Entries → Type 0
Room k es = length es + k ≡ entries_max

one_less : (k : ℕ) (es : Entries) (e : Entered) → Room (suc k) es → Room k (es ++ (e ∷ []))
one_less k es e h = omega (arith, length_push es e)

goes-few : (l : ℕ) (es : Entries) (page : Bytes) (next : Mode → Entries → Bytes → Tree)
    → ((m : Mode) (fs : Entries) (p : Bytes) (j : ℕ) → Room j fs → Few j (next m fs p)) → (k : ℕ) → Room k es → (d : Does) → Few k (goes l es page next d)
goes-few l es page next h k r pass = h Running es page k r
goes-few l es page next h k r skip = h Skipping es page k r
goes-few l es page next h k r (add t) = h Running es (page ++ t) k r
goes-few l es page next h k r (fail f) = tt
goes-few l es page next h zero r (query w n) = let f = now_full es r in rw f (stops-lacking w l _, refuses_offer w)
goes-few l es page next h (suc k) r (query w n) =
    let f = not_full es k r in
    rw f (lacking-few w k l _ (h (mode_after w) _ page k (one_less k es _ r)), λ b. h Running _ page k (one_less k es _ r))

pub run-few : (stem : Bytes) (m : Mode) (l : ℕ) (es : Entries) (page : Bytes) (xs : List Bytes) (k : ℕ) → Room k es → Few k (run stem m l es page xs)
run-few stem m l es page [] k r = tt
run-few stem Skipping l es page (x ∷ xs) k r = run-few stem Running (l + 1) es page xs k r
run-few stem Running l es page (x ∷ xs) k r =
    goes-few l es page (λ m fs p. run stem m (l + 1) fs p xs) (λ m fs p j q. run-few stem m (l + 1) fs p xs j q) k r (does stem es page x)

either-few : (k : ℕ) (b : Bool) (t u : Tree) → Few k t → Few k u → Few k (cond b t u)
either-few k true t u p q = p
either-few k false t u p q = q

pub seeking-few : (cs : List Candidate) (es : Entries) (k : ℕ) → Room k es → Few k (seeking cs es)
seeking-few [] es k r = tt
seeking-few (c ∷ cs) es zero r =
    let f = now_full es r in
    either-few zero (is_some (entered Absent c.script es)) _ _ (seeking-few cs es zero r) (rw f (tt, tt))
seeking-few (c ∷ cs) es (suc k) r =
    let f = not_full es k r in
    either-few (suc k) (is_some (entered Absent c.script es)) _ _ (seeking-few cs es (suc k) r)
    (rw f (seeking-few cs _ k (one_less k es _ r), λ b. run-few c.stem Running 1 _ [] (lines b) k (one_less k es _ r)))

-- the questions of a run, counted
abbrev Counted : ℕ → ℕ → Outcome → Type 0
Counted k q o = (q ≤ k + 1) × ((p : Bytes) → o ≡ paged p → q ≤ k)

no-page : {A : Type 0} (f : ScriptFault) (s : Steps) (p : Bytes) → fault f s ≡ paged p → A
no-page f s p e = let z : ◌≡◌ {A = ℕ} 0 1 = cc in differ z

count_last : (t : Bytes) (l : ℕ) (x : Bool) (a : Tree) (o : Offer) (lacks : Bytes → Bool) (get : Bytes → Outcome) (r : Outcome) (qs : List Question)
    → Stops a → Refuses o
    → Counted 0 (suc (length (cond x (asked lacks get (λ n. []) a) (asked_if o qs)))) (cond x (follow t lacks get a) (if_wanted t l o r))
count_last t l x (done p) o lacks get r qs s f = absurd s
count_last t l x (ask k n m a u next) o lacks get r qs s f = absurd s
count_last t l true (stop g m) wanted lacks get r qs s f = absurd f
count_last t l false (stop g m) wanted lacks get r qs s f = absurd f
count_last t l true (stop g m) (refused h) lacks get r qs s f = (omega arith, λ p e. no-page _ _ p e)
count_last t l false (stop g m) (refused h) lacks get r qs s f = (omega arith, λ p e. no-page _ _ p e)

count_more : (t : Bytes) (l k : ℕ) (x : Bool) (o : Offer) (g a : Outcome) (j : Bytes → Outcome) (qa : List Question) (qj : Bytes → List Question)
    → Counted k (length qa) a → ((b : Bytes) → Counted k (length (qj b)) (j b))
    → Counted (suc k) (suc (length (cond x qa (asked_if o ([] ++ asked_on g qj))))) (cond x a (if_wanted t l o (taken t l g j)))
count_more t l k true o g a j qa qj p q = (omega (arith, p.0), λ b e. let h = p.1 b e in omega arith)
count_more t l k false (refused f) g a j qa qj p q = (omega arith, λ b e. no-page _ _ b e)
count_more t l k false wanted (paged b) a j qa qj p q = (omega (arith, (q b).0), λ c e. let h = (q b).1 c e in omega arith)
count_more t l k false wanted (fault f s) a j qa qj p q = (omega arith, λ b e. no-page _ _ b e)

count-asked : (t : Bytes) (lacks : Bytes → Bool) (get : Bytes → Outcome) (k : ℕ) (u : Tree) → Few k u
    → Counted k (length (asked lacks get (λ n. []) u)) (follow t lacks get u)
count-asked t lacks get k (done p) h = (omega arith, λ q e. omega arith)
count-asked t lacks get k (stop f l) h = (omega arith, λ q e. omega arith)
count-asked t lacks get zero (ask i n l a o next) h = count_last t l (lacks n) a o lacks get _ _ h.0 h.1
count-asked t lacks get (suc k) (ask i n l a o next) h =
    count_more t l k (lacks n) o (get n) _ _ _ _ (count-asked t lacks get k a h.0) (λ b. count-asked t lacks get k (next b) (h.1 b))

pub runs_make_few-entries : RunsMakeFewEntries
runs_make_few-entries lacks get t = count-asked t lacks get entries_max (whole_run t) (seeking-few (candidates t) [] entries_max refl)
