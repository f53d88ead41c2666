use Rattle.std.proofs.Common.{Some, ap}
use Rattle.std.proofs.lemmas.Result.{MatchResult-from_err}
use Rattle.std.specs.Map.{keys_of, values_of}
use Rattle.clean.specs.Files.{held, laid}
use Rattle.clean.proofs.Held.{held-put}
use Rattle.clean.proofs.files.Files.lay.Goals as goal

pub returns : goal.returns
unfolding laid
returns c = held-put c.args.self.now.map c.insert.new.self c.args.name (Some c.args.bytes) c.in_ok-insert.ensures.updates.0

pub returns-in_err-insert : goal.returns-in_err-insert
unfolding laid
returns-in_err-insert c =
    MatchResult-from_err c.from_residual.result _ _ c.from_residual.ensures.0
    (λ e n. ap (λ es. held (keys_of es) (values_of es) n) c.in_err-insert.ensures.err)
