use Rattle.std.proofs.Common.{rules, ◌≡◌, get_or, drop, sym, refl, ap, ◌∙◌}
use Rattle.names.specs.Names.{is_name}
use Rattle.record.specs.Read.{number_of_four}
use Rattle.record.specs.Codes.{code_of}
use Rattle.record.proofs.Bodies.{too_short, no_name, no_kind, head_said, decoded, undecoded, a_body}
use Rattle.record.proofs.decode.entry_of.Goals as goal

pub returns-in_err-head : goal.returns-in_err-head
returns-in_err-head c = rw c.from_residual.ensures (too_short c.args.body.now c.in_err-head.ensures.cases)

pub returns-in_err-kind : goal.returns-in_err-kind
returns-in_err-kind c =
    let b = c.args.body.now in
    let h = head_said b c.in_ok-head.head.now c.in_ok-head.ensures.cases.0 in
    let s = c.from_le_bytes-stamp.ensures ∙ h.2 in
    let none = undecoded (get_or c.in_ok-head.head.now 0 0, c.from_le_bytes-stamp.result) c.try_from.result c.try_from.ensures c.in_err-kind.ensures.value in
    rw c.from_residual-in_err-kind.ensures (no_kind b (get_or c.in_ok-head.head.now 0 0) c.from_le_bytes-stamp.result (sym h.0) (sym s) c.from_le_bytes-stamp.type_inv none)

pub returns-in_err-name : goal.returns-in_err-name
returns-in_err-name c =
    let b = c.args.body.now in
    rw c.from_residual-in_err-name.ensures (no_name b (ap is_name (sym c.in_ok-head.ensures.cases.1) ∙ c.in_err-name.ensures))

pub returns : goal.returns
returns c =
    let b = c.args.body.now in
    let p = c.in_ok-head.ensures.cases in
    let h = head_said b c.in_ok-head.head.now p.0 in
    let s = c.from_le_bytes-stamp.ensures ∙ h.2 in
    let n = c.in_ok-name.ensures ∙ p.1 in
    let l = c.from_le_bytes-line.ensures ∙ h.1 in
    let k = c.in_ok-kind.kind in
    let e = decoded (get_or c.in_ok-head.head.now 0 0, c.from_le_bytes-stamp.result) c.try_from.result k c.try_from.ensures c.in_ok-kind.ensures.value in
    let f : code_of k ≡ (get_or b 0 0, number_of_four (drop 3 b)) = e ∙ (λ i. (h.0 i, s i)) in
    let t = a_body b k (c.in_ok-head.ensures.variant.0 refl) (λ k. search (rules, c.type_inv.body k)) f (ap is_name (sym n) ∙ c.in_ok-name.name.lawful) in
    (t.0, (λ i. record { kind = t.1 i; line = l i; name = n i }))
