use Rattle.std.proofs.Common.{◌≡◌, ◌+◌, ◌*◌, ◌<◌, ◌≤◌, length, IfSome, Some, None, Option, ◌∙◌, arith}
use Rattle.record.specs.Formed.{pair_at}
use Rattle.record.proofs.Formed.{pair_there}
use Rattle.record.proofs.Handed.{shows-entry, past_count, no_pair, no_part, has_entry}
use Rattle.record.proofs.view.RecordView.entry.Goals as goal
use Rattle.record.proofs.view.RecordView.entry.Goals.{After-pair_of-offset}

pub returns-then-i-len : goal.returns-then-i-len
returns-then-i-len c =
    let v = c.args.self.now in
    let e = past_count v c.args.i (omega arith) in
    record { value = e; bound = tt; item = λ bs s. e ∙ shows-entry bs v c.args.i s }

pub returns-in_err-rest : goal.returns-in_err-rest
returns-in_err-rest c =
    let v = c.args.self.now in
    let e = no_pair v c.args.i (omega (arith, c.in_err-rest.ensures.lookup.0)) in
    rw c.from_residual.ensures (record { value = e; bound = tt; item = λ bs s. e ∙ shows-entry bs v c.args.i s })

pub returns-in_err-first_chunk : goal.returns-in_err-first_chunk
returns-in_err-first_chunk c =
    let v = c.args.self.now in
    let e = no_pair v c.args.i (omega (arith, c.in_err-first_chunk.ensures.cases, c.in_ok-rest.ensures.lookup.0.3)) in
    rw c.from_residual-in_err-first_chunk.ensures (record { value = e; bound = tt; item = λ bs s. e ∙ shows-entry bs v c.args.i s })

-- the pair that was read is the i-th
pair_is : (c : After-pair_of-offset) → c.pair_of-offset.result ≡ pair_at c.args.self.now.bytes.now c.args.i
pair_is c =
    c.pair_of-offset.ensures.value
    ∙ pair_there c.args.self.now.bytes.now c.in_ok-rest.rest.now c.in_ok-first_chunk.field-0.now c.args.i c.in_ok-rest.ensures.lookup.0.2 c.in_ok-first_chunk.ensures.cases.same

pub returns-in_err-get : goal.returns-in_err-get
returns-in_err-get c =
    let v = c.args.self.now in
    let e = no_part v c.args.i c.pair_of-offset.result (pair_is (goal.at.returns-in_err-get c).After-pair_of-offset) (omega (arith, c.in_err-get.ensures.lookup.0)) in
    rw c.from_residual-in_err-get.ensures (record { value = e; bound = tt; item = λ bs s. e ∙ shows-entry bs v c.args.i s })

any : {X : Type 0} (r : Option X) (P : Type 0) → P → IfSome r (λ _. P)
any None P p = tt
any (Some x) P p = p

pub returns : goal.returns
returns c =
    let v = c.args.self.now in
    let i = c.args.i in
    let t = c.in_ok-rest.ensures.lookup.0 in
    let p = c.in_ok-get.ensures.lookup.0 in
    let below : i < v.count = omega arith in
    let room : 5 + 4 * (i + 1) ≤ length v.bytes.now = omega (arith, t.3, c.in_ok-first_chunk.ensures.cases.enough) in
    let e = has_entry v i c.pair_of-offset.result c.in_ok-get.field-0.now c.entry_of.result (pair_is (goal.at.returns c).After-pair_of-offset) p.2 below room p.1 c.entry_of.ensures in
    record { value = e; bound = any c.entry_of.result _ (below, omega arith); item = λ bs s. e ∙ shows-entry bs v i s }
