-- Clean evaluation: what a name's page is as from bare files. A target that is needed on several ways is evaluated anew on each.
use Rattle.std.specs.Prelude.{ℕ, zero, suc, Bool, false, cond, ◌||◌, List, [], ◌∷◌, ◌++◌}
use Rattle.std.specs.Str.{bytes_eq}
use Rattle.names.specs.Limits.{depth_max}
use Rattle.names.specs.Names.{Bytes, is_name}
use Rattle.faults.specs.Trails.{Steps}
use Rattle.faults.specs.declared.script_fault.ScriptFault.{ScriptFault}
use Rattle.faults.specs.declared.script_fault.ScriptFault.TheVariants.{Absent as NotThere, Cycle, TooDeep}
use Rattle.script.specs.Tree.{Tree, done, stop, ask, Offer, wanted, refused}
use Rattle.script.specs.Search.{whole_run}
use Rattle.clean.specs.Files.{Files}
use Rattle.faults.specs.declared.cause.Cause.{Cause}
use Rattle.faults.specs.declared.cause.Cause.TheVariants.{Misnamed, Unknown, Plain, Script}
use Rattle.clean.specs.Status.{Status, absent, source, target, status, is_absent}

-- a run ends with a page, or with a fault and its trail: each open target with its line, innermost first
pub data Outcome : Type 0 where
  page : Bytes → Outcome
  fault : ScriptFault → Steps → Outcome

-- a fault that passes through line l of the target t
abbrev pub framed : Bytes → ℕ → ScriptFault → Steps → Outcome
framed t l f trail = fault f (trail ++ ((t, l) ∷ []))

-- how the run of t goes on at line l with what a name yields, and if it wants the name
abbrev pub taken : Bytes → ℕ → Outcome → (Bytes → Outcome) → Outcome
taken t l (page b) next = next b
taken t l (fault f trail) next = framed t l f trail

abbrev pub if_wanted : Bytes → ℕ → Offer → Outcome → Outcome
if_wanted t l (refused f) r = framed t l f []
if_wanted t l wanted r = r

-- the run of t, where `lacks` says what is absent and `get` what a name yields
abbrev pub follow : Bytes → (Bytes → Bool) → (Bytes → Outcome) → Tree → Outcome
follow t lacks get (done p) = page p
follow t lacks get (stop f l) = framed t l f []
follow t lacks get (ask k n l a o next) =
    let gone = follow t lacks get a in
    let got = taken t l (get n) (λ b. follow t lacks get (next b)) in
    let here = if_wanted t l o got in
    cond (lacks n) gone here

abbrev pub member : Bytes → List Bytes → Bool
member n [] = false
member n (m ∷ ms) = bytes_eq m n || member n ms

-- what a name yields where the targets of `chain` are open: a source its bytes, a target its page by `deeper`
abbrev pub yields : List Bytes → (Bytes → Outcome) → Bytes → Status → Outcome
yields chain deeper n absent = fault NotThere []
yields chain deeper n (source b) = page b
yields chain deeper n target = let r = deeper n in cond (member n chain) (fault Cycle []) r

abbrev pub lacking_in : Files → Bytes → Bool
lacking_in laid n = is_absent (status laid n)

-- the page of a target where `left` more targets may be opened and those of `chain` are open
unfoldable pub evaluate : Files → ℕ → List Bytes → Bytes → Outcome
evaluate laid zero chain t = fault TooDeep []
evaluate laid (suc left) chain t =
    follow t (lacking_in laid)
    (λ n. yields (chain ++ (t ∷ [])) (evaluate laid left (chain ++ (t ∷ []))) n (status laid n))
    (whole_run t)

-- The answer to bytes that may be a name: the page, or why there is none and the trail.
pub data Answer : Type 0 where
  made : Bytes → Answer
  failed : Cause → Steps → Answer

abbrev pub as_answer : Outcome → Answer
as_answer (page b) = made b
as_answer (fault f trail) = failed (Script f) trail

abbrev pub answer : Files → Bytes → Status → Answer
answer laid n absent = failed Unknown []
answer laid n (source b) = failed Plain []
answer laid n target = as_answer (evaluate laid depth_max [] n)

abbrev pub clean : Files → Bytes → Answer
clean laid n = cond (is_name n) (answer laid n (status laid n)) (failed Misnamed [])
