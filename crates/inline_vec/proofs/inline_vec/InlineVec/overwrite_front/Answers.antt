use Rattle.std.proofs.Common.{◌++◌, length, take, drop, ◌∙◌, ap, arith}
use Rattle.inline_vec.proofs.Fronts.{front_written}
use Rattle.inline_vec.proofs.inline_vec.InlineVec.overwrite_front.Goals as goal

pub returns-clause-ok : goal.returns-clause-ok
returns-clause-ok g c =
    let part = c.args.part.now in
    ap (λ l. take c.self.inside.len (l ++ drop (length part) c.self.inside.cells)) c.copy_from_slice.ensures.after
    ∙ front_written part c.self.inside.cells c.self.inside.len (omega arith)
    ∙ ap (λ l. part ++ drop (length part) l) (ap (λ v. v.items) c.self.view_is)
