use Rattle.std.proofs.Common.{string_bytes, ◌∙◌, arith, rules}
use Rattle.recordtext.proofs.Digits.{hex_back, hex_more, hex_all}
use Rattle.recordtext.proofs.hex.hex_of.Goals as goal

pub returns-in_err-push_byte : goal.returns-in_err-push_byte
returns-in_err-push_byte c = record { law = hex_back; made = search rules }

pub loop-b-preserved : goal.loop-b-preserved
loop-b-preserved c =
    hex_more (string_bytes c.loop-b.text) (string_bytes c.push_byte.new.text) c.args.bytes.now c.loop-b.b-index c.loop-b-test.true c.in_ok-push_byte.ensures
    ∙ c.loop-b.invariant

pub returns : goal.returns
returns c = record { law = hex_back; made = hex_all _ c.args.bytes.now c.loop-b.b-index (omega arith) ∙ c.loop-b.invariant }
