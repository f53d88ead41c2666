-- A reply in memory, by what it means.
use Rattle.std.specs.Prelude.{◌≡◌, Ok, Err, Some, None, Option, Result}
use Rattle.names.specs.Names.{Bytes}
use Rattle.faults.specs.Causes.{number}
use Rattle.faults.specs.Trails.{Steps}
use Rattle.faults.specs.declared.cause.Cause as faults
use Rattle.clean.specs.Files.{Files}
use Rattle.script.specs.Pages.{content}
use Rattle.script.specs.declared.page.Page as memory
use Rattle.preview.specs.Session.{Reply, done, page, no}
use Rattle.preview.specs.declared.session.Refused.{Refused}
use Rattle.preview.specs.declared.session.Refused.TheVariants.{Cause, OutOfMemory}

-- a call that was done, a page that was made, and a call that made a page or none
abbrev pub done_with : Unit {0} → Reply
done_with x = done

abbrev pub page_with : memory.Page → Reply
page_with p = page (content p)

abbrev pub made_with : Option memory.Page → Reply
made_with None = done
made_with (Some p) = page_with p

-- the reply of a call, with the trail of a refusal
abbrev pub replied : {X : Type 0} → (X → Reply) → Result X faults.Cause → Steps → Reply
replied f (Ok x) trail = f x
replied f (Err c) trail = no (number c) trail

-- P of the call's answer, unless there was no memory for it
abbrev pub IfAnswered : {X : Type 0} → Result X Refused → (Result X faults.Cause → Type 0) → Type 0
IfAnswered (Ok x) P = P (Ok x)
IfAnswered (Err (Cause c)) P = P (Err c)
IfAnswered (Err (OutOfMemory e)) P = Unit {0}

-- the reply, and the files after a call, are those of the step
abbrev pub Answers : Reply × Files → Reply → Files → Type 0
Answers step reply after = (reply ≡ step.0) × ((n : Bytes) → after n ≡ step.1 n)
