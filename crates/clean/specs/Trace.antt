-- What an evaluation asks about, in order, the questions of the targets that it opens among them.
use Rattle.std.specs.Prelude.{◌≡◌, ℕ, zero, suc, Bool, cond, List, [], ◌∷◌, ◌++◌}
use Rattle.names.specs.Names.{Bytes}
use Rattle.script.specs.Tree.{Tree, done, stop, ask, Offer, wanted, refused}
use Rattle.script.specs.Search.{whole_run}
use Rattle.clean.specs.Files.{Files}
use Rattle.clean.specs.Status.{Status, absent, source, target, status}
use Rattle.clean.specs.Evaluate.{Outcome, page, fault, member, yields, evaluate, lacking_in}

-- a name that was asked about at a line, and whether it was absent
pub record Question : Type 0 where
  pub name : Bytes
  pub line : ℕ
  pub gone : Bool

abbrev pub asked_on : Outcome → (Bytes → List Question) → List Question
asked_on (page b) next = next b
asked_on (fault f trail) next = []

abbrev pub asked_if : Offer → List Question → List Question
asked_if wanted qs = qs
asked_if (refused f) qs = []

-- the questions of a run, where `inner` has those of a name that it opens
abbrev pub asked : (Bytes → Bool) → (Bytes → Outcome) → (Bytes → List Question) → Tree → List Question
asked lacks get inner (done p) = []
asked lacks get inner (stop f l) = []
asked lacks get inner (ask k n l a o next) =
    let gone = asked lacks get inner a in
    let here = asked_if o (inner n ++ asked_on (get n) (λ b. asked lacks get inner (next b))) in
    record { name = n; line = l; gone = lacks n } ∷ cond (lacks n) gone here

abbrev pub inside : List Bytes → (Bytes → List Question) → Bytes → Status → List Question
inside chain deeper n absent = []
inside chain deeper n (source b) = []
inside chain deeper n target = let r = deeper n in cond (member n chain) [] r

-- all questions of the evaluation of t
unfoldable pub questions : Files → ℕ → List Bytes → Bytes → List Question
questions laid zero chain t = []
questions laid (suc left) chain t =
    asked (lacking_in laid)
    (λ n. yields (chain ++ (t ∷ [])) (evaluate laid left (chain ++ (t ∷ []))) n (status laid n))
    (λ n. inside (chain ++ (t ∷ [])) (questions laid left (chain ++ (t ∷ []))) n (status laid n))
    (whole_run t)

-- two sets of files agree on each name asked about: on what it is, and on what it holds if it is a source
abbrev pub Agree : Files → Files → List Question → Type 0
Agree laid other [] = Unit {0}
Agree laid other (q ∷ qs) = (status laid q.name ≡ status other q.name) × Agree laid other qs
