-- A skipped line is not looked at.
use Rattle.std.proofs.Common.{◌≡◌, ℕ, ◌+◌, Bool, true, false, List, ◌∷◌, is_some, refl}
use Rattle.names.specs.Names.{Bytes}
use Rattle.script.specs.Words.{rest_of}
use Rattle.script.specs.Tree.{Tree, Entries, entered, full, run, goes, known}
use Rattle.script.specs.declared.word.Word.TheVariants.{IfHas}
use Rattle.script.specs.declared.word.Mode.{Mode}
use Rattle.script.specs.declared.entry.Kind.TheVariants.{Absent}
use Rattle.clean.specs.Evaluate.{Outcome, follow}
use Rattle.clean.specs.Laws.{SkippedLinesDoNothing}

module _ (t stem : Bytes) (lacks : Bytes → Bool) (get : Bytes → Outcome) (l : ℕ) (es : Entries) (page n x y : Bytes) (behind : List Bytes) where
  abbrev behind_it : Bytes → Mode → Entries → Bytes → Tree
  behind_it z = λ m fs p. run stem m (l + 1) fs p (z ∷ behind)

  -- it is known to be absent, or it is asked for and turns out to be
  both_ways : (a f : Bool) → full es ≡ f → lacks n ≡ true
      → follow t lacks get (goes l es page (behind_it x) (known IfHas n false a)) ≡ follow t lacks get (goes l es page (behind_it y) (known IfHas n false a))
  both_ways true f e h = refl
  both_ways false true e h = rw (h, e)
  both_ways false false e h = rw (h, e)

pub skipped_lines_do_nothing : SkippedLinesDoNothing
skipped_lines_do_nothing t stem lacks get l es so_far ifhas x y behind s n h e =
    rw (s, n, e) (both_ways t stem lacks get l es so_far (rest_of stem ifhas) x y behind (is_some (entered Absent (rest_of stem ifhas) es)) (full es) refl h)
