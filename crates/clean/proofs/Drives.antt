-- A run that is driven to its end comes to what clean evaluation says.
use Rattle.std.proofs.Common.{◌≡◌, ℕ, zero, suc, ◌+◌, ◌-◌, ◌<◌, ◌≤◌, Bool, true, false, cond, leb, List, [], ◌∷◌, ◌++◌, length, take, is_some, Some, None, Option, sym, refl, ap, ◌∙◌, subst, add-one, arith}
use Rattle.std.proofs.lemmas.List.{take_all, length_push}
use Rattle.std.proofs.lemmas.Bool.{leb-true, leb-false}
use Rattle.names.specs.Limits.{depth_max}
use Rattle.names.specs.Names.{Bytes, is_name}
use Rattle.faults.specs.Causes.{extended}
use Rattle.faults.specs.Trails.{Steps}
use Rattle.faults.specs.declared.script_fault.ScriptFault.{ScriptFault}
use Rattle.faults.specs.declared.script_fault.ScriptFault.TheVariants.{Cycle, TooDeep, TooManyEntries}
use Rattle.script.specs.Lines.{lines}
use Rattle.script.specs.Tree.{Tree, done, stop, ask, Offer, wanted, refused, Entries, entered, with_entry, full, unless_full, wanted_unless, offer, lacking, mode_after, query, run}
use Rattle.script.specs.View.{Point, onward, tree_of, after_doing}
use Rattle.script.specs.Search.{seeking, whole_run}
use Rattle.script.specs.Candidates.{Candidate, candidates}
use Rattle.script.specs.declared.word.Mode.TheVariants.{Running}
use Rattle.script.specs.declared.entry.Kind.TheVariants.{Script, Needed, Absent}
use Rattle.script.specs.declared.word.Word.{Word}
use Rattle.script.proofs.Scripts.{Scripts, scripts}
use Rattle.clean.specs.Files.{Files}
use Rattle.clean.specs.Status.{Status, absent, source, target, plain, status, is_absent}
use Rattle.clean.specs.Evaluate.{Outcome, page, fault, framed, taken, if_wanted, follow, yields, member, lacking_in, evaluate, failed, as_answer, answer, clean}
use Rattle.clean.specs.Opening.{Opening, begins, stops, tried, opening}
use Rattle.clean.specs.Answered.{told_of, gets, finished}
use Rattle.clean.specs.Told.{told}
use Rattle.clean.specs.declared.status.Status as memory
use Rattle.clean.specs.declared.status.Status.TheVariants.{Absent as NotHere, Source as FromSource, Target as AsTarget}
use Rattle.faults.specs.declared.cause.Cause.{Cause}
use Rattle.faults.specs.declared.fault.Fault.{Fault}
use Rattle.faults.specs.declared.cause.Cause.TheVariants.{Misnamed, Script as InScript}

script-status : (laid : Files) (n : Bytes) → candidates n ≡ [] → status laid n ≡ plain (laid n)
unfolding status
script-status laid n h = rw h

-- one level of clean evaluation
pub evaluate_open : (laid : Files) (chain : List Bytes) (t : Bytes) → length chain < depth_max
    → evaluate laid (depth_max - length chain) chain t ≡ finished laid (chain ++ (t ∷ [])) t (whole_run t)
unfolding evaluate
evaluate_open laid chain t h =
    let m : depth_max - length (chain ++ (t ∷ [])) ≡ depth_max - (length chain + 1) = ap (λ (k : ℕ). depth_max - k) (length_push chain t) in
    let e : depth_max - length chain ≡ suc (depth_max - length (chain ++ (t ∷ []))) = omega (arith, length_push chain t) in
    ap (λ (k : ℕ). evaluate laid k chain t) e

pub too_deep : (laid : Files) (chain : List Bytes) (n : Bytes) → status laid n ≡ target → member n chain ≡ false → leb depth_max (length chain) ≡ true
    → gets laid chain n ≡ fault TooDeep []
unfolding evaluate
too_deep laid chain n s m f =
    let z : depth_max - length chain ≡ 0 = omega (arith, leb-true depth_max (length chain) f) in
    ap (yields chain (evaluate laid (depth_max - length chain) chain) n) s
    ∙ (ap (λ (b : Bool). cond b (fault Cycle []) (evaluate laid (depth_max - length chain) chain n)) m
    ∙ ap (λ (k : ℕ). evaluate laid k chain n) z)

module _ (laid : Files) (chain : List Bytes) (t : Bytes) where
  -- the run that the search opens
  abbrev pub from_opening : Opening → Outcome
  from_opening (begins stem text es) = finished laid chain t (run stem Running 1 es [] (lines text))
  from_opening (stops f) = framed t 0 f []

  tries : (c : Candidate) (es : Entries) (missed : Opening) (tree : Tree) (file : Option Bytes) (f : Bool)
      → finished laid chain t (unless_full false 0 tree) ≡ from_opening missed
      → cond (is_absent (plain file)) (finished laid chain t (unless_full f 0 tree))
      (if_wanted t 0 (wanted_unless f) (taken t 0 (yields chain (evaluate laid (depth_max - length chain) chain) c.script (plain file))
      (λ b. finished laid chain t (run c.stem Running 1 (with_entry es Script c.script []) [] (lines b)))))
      ≡ from_opening (cond f (stops TooManyEntries) (tried c file es missed))
  tries c es missed tree None true h = refl
  tries c es missed tree None false h = h
  tries c es missed tree (Some b) true h = refl
  tries c es missed tree (Some b) false h = refl

  either : (b : Bool) (u v : Tree) (x y : Opening) → finished laid chain t u ≡ from_opening x → finished laid chain t v ≡ from_opening y
      → finished laid chain t (cond b u v) ≡ from_opening (cond b x y)
  either true u v x y p q = p
  either false u v x y p q = q

  pub search_opens : (cs : List Candidate) (es : Entries) → Scripts cs → finished laid chain t (seeking cs es) ≡ from_opening (opening laid cs es)
  search_opens [] es s = refl
  search_opens (c ∷ cs) es s =
      let n = c.script in
      let tree = seeking cs (with_entry es Absent n []) in
      let missed = opening laid cs (with_entry es Absent n []) in
      let next : Bytes → Outcome = λ b. finished laid chain t (run c.stem Running 1 (with_entry es Script n []) [] (lines b)) in
      let way : Status → Outcome =
      λ st. cond (is_absent st) (finished laid chain t (unless_full (full es) 0 tree))
      (if_wanted t 0 (wanted_unless (full es)) (taken t 0 (yields chain (evaluate laid (depth_max - length chain) chain) n st) next)) in
      either (is_some (entered Absent n es)) (seeking cs es) _ (opening laid cs es) _ (search_opens cs es s.1)
      (ap way (script-status laid n s.0) ∙ tries c es missed tree (laid n) (full es) (search_opens cs (with_entry es Absent n []) s.1))

  pub whole_opens : finished laid chain t (whole_run t) ≡ from_opening (opening laid (candidates t) [])
  whole_opens = search_opens (candidates t) [] (scripts t)

-- ---- trails

abbrev pub trail_length : Outcome → ℕ
trail_length (page b) = 0
trail_length (fault f s) = length s

framed-length : (t : Bytes) (l : ℕ) (f : ScriptFault) (s : Steps) (k : ℕ) → length s ≤ k → trail_length (framed t l f s) ≤ k + 1
framed-length t l f s k h = omega (arith, length_push s (t, l))

taken-length : (t : Bytes) (l : ℕ) (o : Outcome) (next : Bytes → Outcome) (k : ℕ) → trail_length o ≤ k → ((b : Bytes) → trail_length (next b) ≤ k + 1)
    → trail_length (taken t l o next) ≤ k + 1
taken-length t l (page b) next k h n = n b
taken-length t l (fault f s) next k h n = framed-length t l f s k h

wanted-length : (t : Bytes) (l : ℕ) (o : Offer) (r : Outcome) (k : ℕ) → trail_length r ≤ k + 1 → trail_length (if_wanted t l o r) ≤ k + 1
wanted-length t l (refused f) r k h = framed-length t l f [] k (omega arith)
wanted-length t l wanted r k h = h

cond-length : (b : Bool) (x y : Outcome) (k : ℕ) → trail_length x ≤ k → trail_length y ≤ k → trail_length (cond b x y) ≤ k
cond-length true x y k p q = p
cond-length false x y k p q = q

pub follow-length : (t : Bytes) (lacks : Bytes → Bool) (get : Bytes → Outcome) (k : ℕ) → ((n : Bytes) → trail_length (get n) ≤ k)
    → (u : Tree) → trail_length (follow t lacks get u) ≤ k + 1
follow-length t lacks get k g (done p) = omega arith
follow-length t lacks get k g (stop f l) = framed-length t l f [] k (omega arith)
follow-length t lacks get k g (ask i n l a o next) =
    cond-length (lacks n) _ _ (k + 1) (follow-length t lacks get k g a)
    (wanted-length t l o _ k (taken-length t l (get n) _ k (g n) (λ b. follow-length t lacks get k g (next b))))

yields-length : (chain : List Bytes) (deeper : Bytes → Outcome) (n : Bytes) (k : ℕ) → trail_length (deeper n) ≤ k → (s : Status) → trail_length (yields chain deeper n s) ≤ k
yields-length chain deeper n k h absent = omega arith
yields-length chain deeper n k h (source b) = omega arith
yields-length chain deeper n k h target = cond-length (member n chain) _ _ k (omega arith) h

pub evaluate-length : (laid : Files) (left : ℕ) (chain : List Bytes) (t : Bytes) → trail_length (evaluate laid left chain t) ≤ left
unfolding evaluate
evaluate-length laid zero chain t = omega arith
evaluate-length laid (suc left) chain t =
    let longer : List Bytes = chain ++ (t ∷ []) in
    let get : Bytes → Outcome = λ n. yields longer (evaluate laid left longer) n (status laid n) in
    let h : trail_length (follow t (lacking_in laid) get (whole_run t)) ≤ left + 1 =
    follow-length t (lacking_in laid) get left
    (λ n. yields-length longer (evaluate laid left longer) n left (evaluate-length laid left longer n) (status laid n)) (whole_run t) in
    subst (λ (k : ℕ). trail_length (follow t (lacking_in laid) get (whole_run t)) ≤ k) (add-one left) h

gets-length : (laid : Files) (chain : List Bytes) (n : Bytes) → trail_length (gets laid chain n) ≤ depth_max - length chain
gets-length laid chain n = yields-length chain (evaluate laid (depth_max - length chain) chain) n (depth_max - length chain) (evaluate-length laid (depth_max - length chain) chain n) (status laid n)

-- a fault that a needed name yields passes through the line that asked
pub passed : (laid : Files) (chain : List Bytes) (t n : Bytes) (l : ℕ) (c : Cause) (s s' : Steps) (o : Outcome)
    → 0 < length chain → failed c s ≡ as_answer (gets laid chain n) → s' ≡ extended c s t l
    → ((f : ScriptFault) (u : Steps) → gets laid chain n ≡ fault f u → o ≡ framed t l f u)
    → failed c s' ≡ as_answer o
passed laid chain t n l c s s' o h e p k = through (gets laid chain n) (gets-length laid chain n) e k
  where
    through : (g : Outcome) → trail_length g ≤ depth_max - length chain → failed c s ≡ as_answer g
        → ((f : ScriptFault) (u : Steps) → g ≡ fault f u → o ≡ framed t l f u) → failed c s' ≡ as_answer o
    through (page b) m e k = let z : ◌≡◌ {A = ℕ} 0 1 = cc in absurd (omega arith)
    through (fault f u) m e k =
        let q : s ≡ u = cc in
        let w : c ≡ InScript f = cc in
        let j : length s ≤ depth_max - length chain = subst (λ (x : Steps). length x ≤ depth_max - length chain) (sym q) m in
        let x : s' ≡ u ++ ((t, l) ∷ []) =
        p ∙ (ap (λ (k : Cause). extended k s t l) w ∙ take_all depth_max (s ++ ((t, l) ∷ [])) (omega (arith, length_push s (t, l))) ∙ ap (λ (y : Steps). y ++ ((t, l) ∷ [])) q) in
        (λ i. failed (w i) (x i)) ∙ sym (ap as_answer (k f u refl))

-- ---- a question, told

module _ (laid : Files) (chain : List Bytes) (t : Bytes) (p : Point) (w : Word) (n : Bytes) where
  pub asked-fault : is_absent (status laid n) ≡ false → wanted ≡ offer w (full p.made) → (f : ScriptFault) (u : Steps) → gets laid chain n ≡ fault f u
      → finished laid chain t (after_doing p (query w n)) ≡ framed t p.line f u
  asked-fault h o f u e =
      let gone = finished laid chain t (lacking w (full p.made) p.line (onward p (mode_after w) (with_entry p.made Absent n []) p.page)) in
      let next : Bytes → Outcome = λ b. finished laid chain t (onward p Running (with_entry p.made Needed n b) p.page) in
      ap (λ (b : Bool). cond b gone (if_wanted t p.line (offer w (full p.made)) (taken t p.line (gets laid chain n) next))) h
      ∙ (ap (λ (x : Offer). if_wanted t p.line x (taken t p.line (gets laid chain n) next)) (sym o)
      ∙ ap (λ (g : Outcome). taken t p.line g next) e)

pub there : (s : memory.Status) → (s ≡ NotHere → ⊥) → is_absent (told s) ≡ false
there NotHere h = absurd (h refl)
there (FromSource b) h = refl
there AsTarget h = refl

-- the run that a search opened
pub opened-run : (laid : Files) (chain : List Bytes) (t stem text : Bytes) (es : Entries) (v : Point)
    → v ≡ record { stem = stem; mode = Running; line = 0; made = es; page = []; rest = text }
    → begins stem text es ≡ opening laid (candidates t) [] → finished laid chain t (tree_of v) ≡ finished laid chain t (whole_run t)
opened-run laid chain t stem text es v e o =
    ap (λ (x : Point). finished laid chain t (tree_of x)) e
    ∙ (ap (from_opening laid chain t) o ∙ sym (whole_opens laid chain t))

-- the fault that stops a search
pub stopped-run : (laid : Files) (chain : List Bytes) (t : Bytes) (f : Fault)
    → (why : ScriptFault) × (opening laid (candidates t) [] ≡ stops why) × (told_of f ≡ failed (InScript why) ((t, 0) ∷ []))
    → told_of f ≡ as_answer (finished laid chain t (whole_run t))
stopped-run laid chain t f (why, o, e) =
    e ∙ sym (ap as_answer (whole_opens laid chain t ∙ ap (from_opening laid chain t) o))

-- a needed target is opened under the chain that ends in it
pub deeper : (laid : Files) (chain longer : List Bytes) (n : Bytes) → status laid n ≡ target → member n chain ≡ false → leb depth_max (length chain) ≡ false
    → longer ≡ take depth_max (chain ++ (n ∷ [])) → finished laid longer n (whole_run n) ≡ gets laid chain n
deeper laid chain longer n s m f q =
    let h : length chain < depth_max = leb-false depth_max (length chain) f in
    ap (λ (x : List Bytes). finished laid x n (whole_run n)) (q ∙ take_all depth_max (chain ++ (n ∷ [])) (omega (arith, length_push chain n, h)))
    ∙ (sym (evaluate_open laid chain n h)
    ∙ (sym (ap (λ (b : Bool). cond b (fault Cycle []) (evaluate laid (depth_max - length chain) chain n)) m)
    ∙ sym (ap (yields chain (evaluate laid (depth_max - length chain) chain) n) s)))

-- a target that is asked for is opened alone
pub asked_alone : (laid : Files) (n : Bytes) (longer : List Bytes) → is_name n ≡ true → status laid n ≡ target → longer ≡ take depth_max (n ∷ [])
    → as_answer (finished laid longer n (whole_run n)) ≡ clean laid n
asked_alone laid n longer y s q =
    ap as_answer (ap (λ (x : List Bytes). finished laid x n (whole_run n)) q ∙ sym (evaluate_open laid [] n (omega arith)))
    ∙ sym (ap (λ (b : Bool). cond b (answer laid n (status laid n)) (failed Misnamed [])) y ∙ ap (answer laid n) s)
