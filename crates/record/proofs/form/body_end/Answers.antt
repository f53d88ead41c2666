use Rattle.std.proofs.Common.{ℕ, ◌+◌, sym, ap, ◌∙◌, arith}
use Rattle.record.specs.Read.{is_body}
use Rattle.record.specs.Formed.{body_stands}
use Rattle.record.proofs.Formed.{off_start, past_end, no_body, stands, part_is}
use Rattle.record.proofs.form.body_end.Goals as goal

pub returns-then-offset-at : goal.returns-then-offset-at
returns-then-offset-at c =
    let bs = c.args.bytes.now in
    let p = c.pair_of-offset.result in
    ap (λ p. body_stands c.args.at p bs) (sym c.pair_of-offset.ensures.value) ∙ off_start bs c.args.at p c.if-offset-at.true

pub returns-in_err-get : goal.returns-in_err-get
returns-in_err-get c =
    let bs = c.args.bytes.now in
    let p = c.pair_of-offset.result in
    let f = past_end bs c.args.at p c.if-offset-at.false (omega (arith, c.in_err-get.ensures.lookup.0)) in
    rw c.from_residual.ensures (ap (λ p. body_stands c.args.at p bs) (sym c.pair_of-offset.ensures.value) ∙ f)

pub returns-in_err-entry_of : goal.returns-in_err-entry_of
returns-in_err-entry_of c =
    let bs = c.args.bytes.now in
    let p = c.pair_of-offset.result in
    let e = part_is bs c.in_ok-get.field-0.now p c.in_ok-get.ensures.lookup.0.2 in
    let f = no_body bs c.args.at p (ap is_body (sym e) ∙ c.in_err-entry_of.ensures) in
    rw c.from_residual-in_err-entry_of.ensures (ap (λ p. body_stands c.args.at p bs) (sym c.pair_of-offset.ensures.value) ∙ f)

pub returns : goal.returns
returns c =
    let bs = c.args.bytes.now in
    let p = c.pair_of-offset.result in
    let e = part_is bs c.in_ok-get.field-0.now p c.in_ok-get.ensures.lookup.0.2 in
    let f = stands bs c.args.at p c.if-offset-at.false c.in_ok-get.ensures.lookup.0.1 (ap is_body (sym e) ∙ c.in_ok-entry_of.ensures.0) in
    let v = c.pair_of-offset.ensures.value in (
      ap (λ p. body_stands c.args.at p bs) (sym v) ∙ f,
      ap (λ n. n + p.1) c.if-offset-at.false ∙ ap (λ (p : ℕ × ℕ). c.args.at + p.1) v,
    )
