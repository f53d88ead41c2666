use Rattle.std.proofs.Common.{refl}
use Rattle.names.specs.Names.{is_name}
use Rattle.script.specs.Candidates.{candidates}
use Rattle.clean.specs.Status.{status}
use Rattle.clean.specs.Evaluate.{evaluate}
use Rattle.clean.specs.Trace.{questions}
use Rattle.record.specs.Written.{written}
use Rattle.record.specs.Read.{is_body, is_record, read}
use Rattle.worked.proofs.worked_cases.Goals as goal

pub returns : goal.returns
unfolding is_name candidates status evaluate questions written is_body is_record read
returns c = ((refl, refl, refl, refl, refl, refl, refl, refl, refl, refl), (refl, refl))
