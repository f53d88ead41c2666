use Rattle.commit.proofs.Updates.{commit_update, remove_update}
use Rattle.commit.proofs.laws.laws.Goals as goal

pub returns : goal.returns
returns c = record { commits = commit_update; removals = remove_update }
