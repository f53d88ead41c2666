-- An evaluation depends only on the names that it asks about.
use Rattle.std.proofs.Common.{◌≡◌, ℕ, zero, suc, Bool, true, false, cond, List, [], ◌∷◌, ◌++◌, sym, refl, ap, ◌∙◌, subst, true≢false}
use Rattle.names.specs.Names.{Bytes}
use Rattle.faults.specs.declared.script_fault.ScriptFault.TheVariants.{Cycle}
use Rattle.script.specs.Tree.{Tree, done, stop, ask, Offer, wanted, refused}
use Rattle.script.specs.Search.{whole_run}
use Rattle.clean.specs.Files.{Files}
use Rattle.clean.specs.Status.{Status, absent, source, target, status, is_absent}
use Rattle.clean.specs.Evaluate.{Outcome, page, fault, taken, if_wanted, follow, member, yields, lacking_in, evaluate}
use Rattle.clean.specs.Trace.{Question, asked_on, asked_if, asked, inside, questions, Agree}
use Rattle.clean.specs.Laws.{EvaluationIsLocal}

module _ (laid other : Files) where
  agree_parts : (xs ys : List Question) → Agree laid other (xs ++ ys) → Agree laid other xs × Agree laid other ys
  agree_parts [] ys h = (tt, h)
  agree_parts (x ∷ xs) ys h = let p = agree_parts xs ys h.1 in ((h.0, p.0), p.1)

  abbrev question : Bytes → ℕ → Bool → Question
  question n l b = record { name = n; line = l; gone = b }

  module _ (t n : Bytes) (l : ℕ) (a a' : Outcome) (qa qa' : List Question) (j j' : Bytes → Outcome) (qj qj' : Bytes → List Question) (g' : Outcome) (i i' : List Question)
      (gone : Agree laid other qa → (a ≡ a') × (qa ≡ qa'))
      (next : (x : Bytes) → Agree laid other (qj x) → (j x ≡ j' x) × (qj x ≡ qj' x)) where
    one_ask : (b c : Bool) (o : Offer) (g : Outcome) → b ≡ c → (Agree laid other i → (g ≡ g') × (i ≡ i'))
        → Agree laid other (cond b qa (asked_if o (i ++ asked_on g qj)))
        → (cond b a (if_wanted t l o (taken t l g j)) ≡ cond c a' (if_wanted t l o (taken t l g' j')))
        × (question n l b ∷ cond b qa (asked_if o (i ++ asked_on g qj)) ≡ question n l c ∷ cond c qa' (asked_if o (i' ++ asked_on g' qj')))
    one_ask true true o g e got h = let p = gone h in (p.0, ap (λ (qs : List Question). question n l true ∷ qs) p.1)
    one_ask true false o g e got h = absurd (true≢false e)
    one_ask false true o g e got h = absurd (true≢false (sym e))
    one_ask false false (refused f) g e got h = (refl, refl)
    one_ask false false wanted (page x) e got h =
        let p = agree_parts i (qj x) h in
        let r = got p.0 in
        let s = next x p.1 in (
          s.0 ∙ ap (λ (o : Outcome). taken t l o j') r.0,
          (λ k. question n l false ∷ (r.1 k ++ (s.1 ∙ ap (λ (o : Outcome). asked_on o qj') r.0) k)),
        )
    one_ask false false wanted (fault f u) e got h =
        let p = agree_parts i [] h in
        let r = got p.0 in (
          ap (λ (o : Outcome). taken t l o j') r.0,
          (λ k. question n l false ∷ (r.1 k ++ ap (λ (o : Outcome). asked_on o qj') r.0 k)),
        )

  module _ (t : Bytes) (get get' : Bytes → Outcome) (inner inner' : Bytes → List Question)
      (got : (n : Bytes) → status laid n ≡ status other n → Agree laid other (inner n) → (get n ≡ get' n) × (inner n ≡ inner' n)) where
    local_run : (u : Tree) → Agree laid other (asked (lacking_in laid) get inner u)
        → (follow t (lacking_in laid) get u ≡ follow t (lacking_in other) get' u)
        × (asked (lacking_in laid) get inner u ≡ asked (lacking_in other) get' inner' u)
    local_run (done p) h = (refl, refl)
    local_run (stop f l) h = (refl, refl)
    local_run (ask k n l a o next) h =
        one_ask t n l _ _ _ _ (λ b. follow t (lacking_in laid) get (next b)) (λ b. follow t (lacking_in other) get' (next b))
        (λ b. asked (lacking_in laid) get inner (next b)) (λ b. asked (lacking_in other) get' inner' (next b)) (get' n) (inner n) (inner' n)
        (local_run a) (λ b. local_run (next b)) (lacking_in laid n) (lacking_in other n) o (get n) (ap is_absent h.0) (got n h.0) h.1

  abbrev Same : ℕ → List Bytes → Bytes → Type 0
  Same left chain t =
      Agree laid other (questions laid left chain t)
      → (evaluate laid left chain t ≡ evaluate other left chain t) × (questions laid left chain t ≡ questions other left chain t)

  local_member : (left : ℕ) (chain : List Bytes) (n : Bytes) → Same left chain n → (b : Bool)
      → Agree laid other (cond b [] (questions laid left chain n))
      → (cond b (fault Cycle []) (evaluate laid left chain n) ≡ cond b (fault Cycle []) (evaluate other left chain n))
      × (cond b [] (questions laid left chain n) ≡ cond b [] (questions other left chain n))
  local_member left chain n s true h = (refl, refl)
  local_member left chain n s false h = s h

  local_name : (left : ℕ) (chain : List Bytes) (n : Bytes) → Same left chain n → (st : Status)
      → Agree laid other (inside chain (questions laid left chain) n st)
      → (yields chain (evaluate laid left chain) n st ≡ yields chain (evaluate other left chain) n st)
      × (inside chain (questions laid left chain) n st ≡ inside chain (questions other left chain) n st)
  local_name left chain n s absent h = (refl, refl)
  local_name left chain n s (source b) h = (refl, refl)
  local_name left chain n s target h = local_member left chain n s (member n chain) h

  local_evaluate : (left : ℕ) (chain : List Bytes) (t : Bytes) → Same left chain t
  unfolding evaluate questions
  local_evaluate zero chain t h = (refl, refl)
  local_evaluate (suc left) chain t h =
      let longer : List Bytes = chain ++ (t ∷ []) in
      local_run t
      (λ n. yields longer (evaluate laid left longer) n (status laid n)) (λ n. yields longer (evaluate other left longer) n (status other n))
      (λ n. inside longer (questions laid left longer) n (status laid n)) (λ n. inside longer (questions other left longer) n (status other n))
      (λ n s k.
      let p = local_name left longer n (local_evaluate left longer n) (status other n)
      (subst (λ (st : Status). Agree laid other (inside longer (questions laid left longer) n st)) s k) in (
        ap (λ (st : Status). yields longer (evaluate laid left longer) n st) s ∙ p.0,
        ap (λ (st : Status). inside longer (questions laid left longer) n st) s ∙ p.1,
      ))
      (whole_run t) h

pub evaluation_is_local : EvaluationIsLocal
evaluation_is_local laid other left chain t h = local_evaluate laid other left chain t h
