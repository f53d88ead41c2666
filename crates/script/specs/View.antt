-- A run in memory, as the tree of what it still asks.
use Rattle.std.specs.Prelude.{◌≡◌, ℕ, ◌+◌, ◌++◌, Some, None, Ok, Err, Option, Result}
use Rattle.names.specs.Names.{Bytes}
use Rattle.names.specs.Spelled.{spelled}
use Rattle.faults.specs.declared.script_fault.ScriptFault.{ScriptFault}
use Rattle.script.specs.Lines.{lines}
use Rattle.script.specs.Tree.{Tree, done, stop, Entries, Does, pass, skip, add, fail, query, goes, run, Offer, wanted, refused}
use Rattle.script.specs.Pages.{content}
use Rattle.script.specs.Made.{entries}
use Rattle.script.specs.declared.word.Mode.{Mode}
use Rattle.script.specs.declared.word.Mode.TheVariants.{Skipping}
use Rattle.script.specs.declared.word.Word.{Word}
use Rattle.script.specs.declared.run.Work.{Work}
use Rattle.script.specs.declared.run.Run.{Run}
use Rattle.script.specs.declared.run.Question.{Question}

-- what a step of a run answers: nothing, a question, or a fault
abbrev pub Answer : Type 0
Answer = Result (Option Question) ScriptFault

-- the work v has this mode, these entries and this page
abbrev pub Stands : Work → Mode → Entries → Bytes → Type 0
Stands v m es page = (v.mode ≡ m) × (entries v.entries ≡ es) × (content v.page ≡ page)

-- the answer is the question of word w about the name n
abbrev pub Queries : Answer → Word → Bytes → Type 0
Queries (Ok None) w n = ⊥
Queries (Ok (Some q)) w n = (q.word ≡ w) × (spelled q.name ≡ n)
Queries (Err f) w n = ⊥

-- the work u, having met a word that does d, has become v with the answer o
abbrev pub Plays : Work → Work → Answer → Does → Type 0
Plays u v o pass = (o ≡ Ok None) × Stands v u.mode (entries u.entries) (content u.page)
Plays u v o skip = (o ≡ Ok None) × Stands v Skipping (entries u.entries) (content u.page)
Plays u v o (add t) = (o ≡ Ok None) × Stands v u.mode (entries u.entries) (content u.page ++ t)
Plays u v o (fail f) = o ≡ Err f
Plays u v o (query w n) = Queries o w n × Stands v u.mode (entries u.entries) (content u.page)

-- a run by what it means
pub record Point : Type 0 where
  pub stem : Bytes
  pub mode : Mode
  pub line : ℕ
  pub made : Entries
  pub page : Bytes
  pub rest : Bytes

abbrev pub view : Run → Point
view r = record { stem = r.stem.now; mode = r.work.mode; line = r.line; made = entries r.work.entries; page = content r.work.page; rest = r.rest.now }

-- the tree of the lines behind those read
abbrev pub onward : Point → Mode → Entries → Bytes → Tree
onward p m es page = run p.stem m (p.line + 1) es page (lines p.rest)

abbrev pub tree_of : Point → Tree
tree_of p = onward p p.mode p.made p.page

-- the tree behind the line read last, which does d
abbrev pub after_doing : Point → Does → Tree
after_doing p d = goes p.line p.made p.page (onward p) d

-- what an answer tells of the tree t, where the run is now at p: it is at its end, asks, or has a fault
abbrev pub Stepped : Answer → Point → Tree → Type 0
Stepped (Ok None) p t = t ≡ done p.page
Stepped (Ok (Some q)) p t = t ≡ after_doing p (query q.word (spelled q.name))
Stepped (Err f) p t = t ≡ stop f p.line

-- the same of one line, behind which the run goes on where it asks nothing
abbrev pub Went : Answer → Point → Tree → Type 0
Went (Ok None) p t = t ≡ tree_of p
Went (Ok (Some q)) p t = Stepped (Ok (Some q)) p t
Went (Err f) p t = Stepped (Err f) p t

-- an offer, as the fault that refuses it
abbrev pub offered : Result (Unit {0}) ScriptFault → Offer
offered (Ok _) = wanted
offered (Err f) = refused f

-- does the run ask?
abbrev pub Asks : Answer → Type 0
Asks (Ok None) = ⊥
Asks (Ok (Some q)) = Unit {0}
Asks (Err f) = ⊥

-- told that a name is absent, a run goes on to p, or ends with a fault at line l
abbrev pub Lacks : Result (Unit {0}) ScriptFault → ℕ → Point → Tree → Type 0
Lacks (Ok _) l p t = t ≡ tree_of p
Lacks (Err f) l p t = t ≡ stop f l
