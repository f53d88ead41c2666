use Rattle.std.proofs.Common.{rules, ℕ, ap}
use Rattle.record.proofs.RoundTrip.{exact}
use Rattle.record.proofs.Formed.{malformed, formed-is_record}
use Rattle.record.proofs.Handed.{shown, read-unless}
use Rattle.record.proofs.view.RecordView.read.Goals as goal

pub returns-in_err-stamp : goal.returns-in_err-stamp
returns-in_err-stamp c = let bs = c.args.bytes.now in rw c.from_residual.ensures (record { law = exact; cases = read-unless bs (malformed bs c.in_err-stamp.ensures) })

pub returns : goal.returns
returns c =
    let bs = c.args.bytes.now in
    let f = c.in_ok-stamp.ensures in
    let r = formed-is_record bs (λ k. search (rules, c.type_inv.bytes k)) f.0 in
    record { law = exact; cases = shown _ r (ap (λ (p : ℕ × ℕ). p.0) f.1) (ap (λ (p : ℕ × ℕ). p.1) f.1) }
