use Rattle.std.proofs.Common.{map, take, ap, sym, ◌∙◌}
use Rattle.std.proofs.lemmas.List.{take-map, map_push}
use Rattle.names.specs.Limits.{depth_max}
use Rattle.names.specs.Spelled.{spelled}
use Rattle.clean.proofs.chain.Chain.with.Goals as goal

pub returns : goal.returns
returns c =
    ap (map spelled) c.try_push.ensures.capped ∙ sym (take-map spelled depth_max _)
    ∙ ap (take depth_max) (map_push spelled c.args.self.now.targets.items c.args.target)
