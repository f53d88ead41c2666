use Rattle.std.proofs.Common.{◌≡◌, false, is_ok, rules, sym, ◌∙◌}
use Rattle.protocol.proofs.Readings.{no_text}
use Rattle.protocol.proofs.decimal.decimal.Goals as goal

pub returns-in_err-ok : goal.returns-in_err-ok
returns-in_err-ok c =
    let e : is_ok c.from_utf8.result ≡ false = search rules in
    c.from_residual.ensures ∙ sym (no_text c.args.most c.args.bytes.now (search rules) _ _ c.from_utf8.result c.from_utf8.ensures.cases e)
