use Rattle.clean.proofs.Alone.{pages_are_made_alone}
use Rattle.clean.proofs.Bounds.{pages_are_short, runs_make_few-entries, trails_end_in_the_target}
use Rattle.clean.proofs.Causes.{causes_are_clean}
use Rattle.clean.proofs.Local.{evaluation_is_local}
use Rattle.clean.proofs.Skips.{skipped_lines_do_nothing}
use Rattle.clean.proofs.laws.laws.Goals as goal

pub returns : goal.returns
returns c =
    record {
      skipped = skipped_lines_do_nothing;
      local = evaluation_is_local;
      alone = pages_are_made_alone;
      short = pages_are_short;
      few = runs_make_few-entries;
      trails = trails_end_in_the_target;
      causes = causes_are_clean;
    }
