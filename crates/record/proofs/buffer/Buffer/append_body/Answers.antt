use Rattle.std.proofs.Common.{length, ap, ◌∙◌, arith}
use Rattle.std.proofs.lemmas.List.{length-append}
use Rattle.names.proofs.Scan.{lawful-short}
use Rattle.record.specs.Filled.{filled}
use Rattle.record.specs.Values.{value_of}
use Rattle.record.proofs.Bodies.{length-body}
use Rattle.record.proofs.buffer.Buffer.append_body.Goals as goal

pub append-requires-2 : goal.append-requires-2
append-requires-2 c =
    let k = lawful-short _ c.as_bytes.ensures.lawful in
    let h = ap length c.head.ensures.bytes in
    let e = ap length c.append.ensures ∙ length-append (filled c.args.self.now) c.head.result in
    omega arith

pub returns-clause-room : goal.returns-clause-room
returns-clause-room c =
    let k = lawful-short _ c.as_bytes.ensures.lawful in
    let n = ap length c.as_bytes.ensures.value in
    let b = length-body (value_of c.args.entry.now) in
    omega arith
