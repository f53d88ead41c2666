-- What an evaluation in memory answers, by what it means.
use Rattle.std.specs.Prelude.{[], ◌∷◌, ◌≡◌, ◌-◌, List, length, Ok, Err, Result}
use Rattle.names.specs.Limits.{depth_max}
use Rattle.names.specs.Names.{Bytes}
use Rattle.faults.specs.Trails.{steps}
use Rattle.faults.specs.declared.script_fault.ScriptFault.{ScriptFault}
use Rattle.script.specs.Tree.{Tree}
use Rattle.script.specs.Pages.{content}
use Rattle.script.specs.Made.{entries}
use Rattle.script.specs.Searched.{candidate}
use Rattle.script.specs.declared.page.Page.{Page}
use Rattle.script.specs.declared.entry.Entries.{Entries}
use Rattle.clean.specs.Files.{Files}
use Rattle.clean.specs.Status.{status}
use Rattle.clean.specs.Evaluate.{Outcome, follow, yields, evaluate, lacking_in, Answer, made, failed, as_answer}
use Rattle.clean.specs.Opening as spec
use Rattle.faults.specs.declared.cause.Cause.TheVariants.{Script}
use Rattle.faults.specs.declared.fault.Fault.{Fault}
use Rattle.faults.specs.declared.fault.Failed.{Failed}
use Rattle.clean.specs.declared.evaluate.Opening.{Opening}

-- why there is no page, and the open targets that the fault passed through
abbrev pub told_of : Fault → Answer
told_of f = failed f.cause (steps f.trail)

-- a page, or the fault
abbrev pub yielded : Result Page Fault → Answer
yielded (Ok p) = made (content p)
yielded (Err f) = told_of f

-- a page, or the fault that stands in the lent place
abbrev pub answered : Result Page Failed → Fault → Answer
answered (Ok p) f = made (content p)
answered (Err e) f = told_of f

-- what a name yields where the targets of the chain are open
abbrev pub gets : Files → List Bytes → Bytes → Outcome
gets laid chain n = yields chain (evaluate laid (depth_max - length chain) chain) n (status laid n)

-- the outcome of the run of t, of which the tree is left, under a chain that ends in t
abbrev pub finished : Files → List Bytes → Bytes → Tree → Outcome
finished laid chain t tree = follow t (lacking_in laid) (gets laid chain) tree

-- the search of the target t has found what the run begins with, its entries beside it, or has the fault that stops it
abbrev pub sought : Bytes → Result Opening Fault → Entries → spec.Opening → Type 0
sought t (Ok o) es found = spec.begins (candidate t o.script).stem (content o.text) (entries es) ≡ found
sought t (Err f) es found = (why : ScriptFault) × (found ≡ spec.stops why) × (told_of f ≡ failed (Script why) ((t, 0) ∷ []))

-- one question of the run of t, told: the run goes on from the one tree to the other, or has failed
abbrev pub Told : Result (Unit {0}) Fault → Files → List Bytes → Bytes → Tree → Tree → Type 0
Told (Ok x) laid chain t before after = finished laid chain t before ≡ finished laid chain t after
Told (Err f) laid chain t before after = told_of f ≡ as_answer (finished laid chain t before)
