use Rattle.std.proofs.Common.{◌≡◌, ◌+◌, ◌*◌, map, length, ◌∙◌, arith}
use Rattle.std.proofs.lemmas.Bool.{eq-eqb, ne_eqb}
use Rattle.record.specs.Read.{pair_in}
use Rattle.record.specs.Formed.{bodies_stand, well_formed}
use Rattle.record.proofs.Formed.{header_said, formed_by}
use Rattle.record.proofs.form.header_of.Goals as goal
use Rattle.record.proofs.form.header_of.Goals.{After-as_chunks}

-- what is left to test once the table is there
left : (c : goal.After-as_chunks) → well_formed c.args.bytes.now ≡ bodies_stand (5 + 4 * c.from-entries.result) (map pair_in c.as_chunks.result.0.now) c.args.bytes.now
left c =
    let bs = c.args.bytes.now in
    let h = header_said bs c.in_ok-s0.field-0.now c.in_ok-s0.ensures.cases.same in
    let t = c.in_ok-get.ensures.lookup.0 in
    formed_by bs c.in_ok-get.field-0.now c.as_chunks.result.0.now c.from-entries.result (c.from-entries.ensures ∙ h.1) c.in_ok-s0.ensures.cases.enough (omega arith) (omega arith) t.1 t.2 c.as_chunks.ensures.front

pub returns-in_err-bodies_end : goal.returns-in_err-bodies_end
returns-in_err-bodies_end c = rw c.from_residual-in_err-bodies_end.ensures (left (goal.at.returns-in_err-bodies_end c).After-as_chunks ∙ c.in_err-bodies_end.ensures)

pub returns-then-branch-bytes : goal.returns-then-branch-bytes
returns-then-branch-bytes c =
    left (goal.at.returns-then-branch-bytes c).After-as_chunks ∙ c.in_ok-bodies_end.ensures ∙ ne_eqb c.in_ok-bodies_end.field-0 (length c.args.bytes.now) c.if-branch-bytes.true

pub returns : goal.returns
returns c =
    let h = header_said c.args.bytes.now c.in_ok-s0.field-0.now c.in_ok-s0.ensures.cases.same in (
      left (goal.at.returns c).After-as_chunks ∙ c.in_ok-bodies_end.ensures ∙ eq-eqb c.in_ok-bodies_end.field-0 (length c.args.bytes.now) c.if-branch-bytes.false,
      λ i. ((c.from_le_bytes.ensures ∙ h.0) i, h.1 i),
    )
