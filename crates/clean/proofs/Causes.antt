-- Why a name has no page.
use Rattle.std.proofs.Common.{[], Bool, true, false, cond, refl, subst}
use Rattle.names.specs.Names.{Bytes, is_name}
use Rattle.names.specs.Limits.{depth_max}
use Rattle.clean.specs.Evaluate.{Outcome, page, fault, Answer, made, failed, as_answer, answer, evaluate}
use Rattle.clean.specs.Files.{Files}
use Rattle.clean.specs.Laws.{IsClean, CausesAreClean}
use Rattle.clean.specs.Status.{Status, absent, source, target, status}

abbrev Fair : Answer → Type 0
Fair (made b) = Unit {0}
Fair (failed c trail) = IsClean c trail

outcome_fair : (o : Outcome) → Fair (as_answer o)
outcome_fair (page b) = tt
outcome_fair (fault f trail) = tt

answer_fair : (laid : Files) (n : Bytes) (s : Status) → Fair (answer laid n s)
answer_fair laid n absent = refl
answer_fair laid n (source b) = refl
answer_fair laid n target = outcome_fair (evaluate laid depth_max [] n)

either_fair : (b : Bool) (x y : Answer) → Fair x → Fair y → Fair (cond b x y)
either_fair true x y p q = p
either_fair false x y p q = q

pub causes_are_clean : CausesAreClean
causes_are_clean laid n c trail e =
    subst Fair e (either_fair (is_name n) (answer laid n (status laid n)) _ (answer_fair laid n (status laid n)) refl)
