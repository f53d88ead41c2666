use Rattle.script.proofs.Lengths.{candidates_are_skipped_for_length}
use Rattle.script.proofs.laws.candidate_law.Goals as goal

pub returns : goal.returns
returns c = candidates_are_skipped_for_length
