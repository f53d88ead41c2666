use Rattle.std.proofs.Common.{ap}
use Rattle.std.specs.Map.{keys_of, values_of}
use Rattle.clean.specs.Files.{held, laid}
use Rattle.clean.proofs.files.Files.new.Goals as goal

pub returns : goal.returns
unfolding laid
returns c n = ap (λ es. held (keys_of es) (values_of es) n) c.new.ensures.empty
