-- Laws of clean evaluation.
use Rattle.std.specs.Prelude.{◌≡◌, ℕ, ◌+◌, ◌≤◌, Bool, true, List, [], ◌∷◌, ◌++◌, length, None}
use Rattle.names.specs.Limits.{page_max, entries_max, depth_max}
use Rattle.names.specs.Names.{Bytes, is_name}
use Rattle.faults.specs.Trails.{Steps}
use Rattle.faults.specs.declared.script_fault.ScriptFault.{ScriptFault}
use Rattle.script.specs.Words.{spelled_by, rest_of}
use Rattle.script.specs.Tree.{Entries, entered, run}
use Rattle.script.specs.declared.word.Word.TheVariants.{IfHas}
use Rattle.script.specs.declared.word.Rest.TheVariants.{Name}
use Rattle.script.specs.declared.word.Spelled.TheVariants.{Known}
use Rattle.script.specs.declared.word.Mode.TheVariants.{Running}
use Rattle.script.specs.declared.entry.Kind.TheVariants.{Needed}
use Rattle.script.specs.Search.{whole_run}
use Rattle.clean.specs.Files.{Files}
use Rattle.clean.specs.Evaluate.{Outcome, page, follow, evaluate, made, failed, clean}
use Rattle.clean.specs.Trace.{asked, questions, Agree}
use Rattle.faults.specs.declared.cause.Cause.{Cause}
use Rattle.faults.specs.declared.cause.Cause.TheVariants.{Misnamed, Oversize, Unknown, Plain, Disk, Spent, Spoiled, Narrow, Garbled, Script}

-- The line behind an `ifhas` of an absent name may be any line.
abbrev pub SkippedLinesDoNothing : Type 0
SkippedLinesDoNothing =
    (t stem : Bytes) (lacks : Bytes → Bool) (get : Bytes → Outcome) (l : ℕ) (es : Entries) (so_far ifhas x y : Bytes) (behind : List Bytes)
    → spelled_by ifhas ≡ Known IfHas Name → is_name (rest_of stem ifhas) ≡ true
    → lacks (rest_of stem ifhas) ≡ true → entered Needed (rest_of stem ifhas) es ≡ None
    → follow t lacks get (run stem Running l es so_far (ifhas ∷ x ∷ behind)) ≡ follow t lacks get (run stem Running l es so_far (ifhas ∷ y ∷ behind))

-- Two sets of files that agree on the names that an evaluation asks about give the same outcome and the same questions.
abbrev pub EvaluationIsLocal : Type 0
EvaluationIsLocal =
    (laid other : Files) (left : ℕ) (chain : List Bytes) (t : Bytes) → Agree laid other (questions laid left chain t)
    → (evaluate laid left chain t ≡ evaluate other left chain t) × (questions laid left chain t ≡ questions other left chain t)

-- A page that was made while other targets were open is the page of the name alone.
abbrev pub PagesAreMadeAlone : Type 0
PagesAreMadeAlone =
    (laid : Files) (left : ℕ) (chain : List Bytes) (t p : Bytes) → left ≤ depth_max
    → evaluate laid left chain t ≡ page p → evaluate laid depth_max [] t ≡ page p

-- A page has at most 1,020 bytes.
abbrev pub PagesAreShort : Type 0
PagesAreShort = (laid : Files) (n p : Bytes) → clean laid n ≡ made p → length p ≤ page_max

-- A run asks at most 28 questions on its way to a page, each of which is an entry, and at most one more where it ends with a fault.
abbrev pub asked_of : (Bytes → Bool) → (Bytes → Outcome) → Bytes → ℕ
asked_of lacks get t = length (asked lacks get (λ n. []) (whole_run t))

abbrev pub RunsMakeFewEntries : Type 0
RunsMakeFewEntries =
    (lacks : Bytes → Bool) (get : Bytes → Outcome) (t : Bytes)
    → (asked_of lacks get t ≤ entries_max + 1) × ((p : Bytes) → follow t lacks get (whole_run t) ≡ page p → asked_of lacks get t ≤ entries_max)

-- A trail has at most eight frames, and the last is the name that was asked for.
abbrev pub TrailsEndInTheTarget : Type 0
TrailsEndInTheTarget =
    (laid : Files) (n : Bytes) (f : ScriptFault) (trail : Steps) → clean laid n ≡ failed (Script f) trail
    → (length trail ≤ depth_max) × ((inner : Steps) × (l : ℕ) × (trail ≡ inner ++ ((n, l) ∷ [])))

-- A name has no page for one of four causes, and a trail only where a script is at fault.
abbrev pub IsClean : Cause → Steps → Type 0
IsClean Misnamed trail = trail ≡ []
IsClean Oversize trail = ⊥
IsClean Unknown trail = trail ≡ []
IsClean Plain trail = trail ≡ []
IsClean (Disk why) trail = ⊥
IsClean Spent trail = ⊥
IsClean Spoiled trail = ⊥
IsClean Narrow trail = ⊥
IsClean Garbled trail = ⊥
IsClean (Script f) trail = Unit {0}

abbrev pub CausesAreClean : Type 0
CausesAreClean = (laid : Files) (n : Bytes) (c : Cause) (trail : Steps) → clean laid n ≡ failed c trail → IsClean c trail
