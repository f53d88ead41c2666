use Rattle.std.proofs.Common.{◌≡◌, ◌+◌, ◌/◌, [], ◌∷◌, ◌++◌, length, drop, vec_items, sym, refl, ap, ◌∙◌, arith}
use Rattle.std.proofs.lemmas.Bool.{eqb-true, eqb-false}
use Rattle.std.proofs.lemmas.Slice.{pushed}
use Rattle.recordtext.specs.Hex.{hex_bytes}
use Rattle.recordtext.proofs.Digits.{ahead, pairs_bytes, odd, even, byte_next, byte_none, byte_all}
use Rattle.recordtext.proofs.hex.bytes_of.Goals as goal
use Rattle.recordtext.proofs.hex.bytes_of.Goals.{After-new-bytes}

pub returns-then-not-is_empty : goal.returns-then-not-is_empty
returns-then-not-is_empty c =
    let cs = c.args.text.now in
    let z = eqb-false (length c.as_chunks.result.1.now) 0 (sym c.is_empty.ensures ∙ c.if-not-is_empty.true) in
    sym (odd (length cs / 2) cs (omega (arith, c.as_chunks.ensures.back_len, z)))

-- an even number of digits, pair by pair
whole : (c : After-new-bytes) → pairs_bytes c.as_chunks.result.0.now ≡ hex_bytes c.args.text.now
whole c =
    let cs = c.args.text.now in
    let z = eqb-true (length c.as_chunks.result.1.now) 0 (sym c.is_empty.ensures ∙ c.if-not-is_empty.false) in
    ap pairs_bytes c.as_chunks.ensures.front ∙ even (length cs / 2) cs (omega (arith, c.as_chunks.ensures.back_len, z))

pub returns-in_default : goal.returns-in_default
returns-in_default c =
    byte_none (vec_items c.loop-high.bytes) c.as_chunks.result.0.now c.loop-high.high-index c.loop-high-test.true c.in_default.ensures
    ∙ c.loop-high.invariant ∙ whole (goal.at.returns-in_default c).After-new-bytes

pub loop-high-preserved : goal.loop-high-preserved
loop-high-preserved c =
    let done = vec_items c.loop-high.bytes in
    let ps = c.as_chunks.result.0.now in
    let p : vec_items c.push.new.self ≡ done ++ c.in-Some.b ∷ [] = pushed {was = done} (c.in-Some.b ∷ []) refl c.in_ok-push.was c.push.ensures.items in
    ap (λ x. ahead x (pairs_bytes (drop (c.loop-high.high-index + 1) ps))) p
    ∙ byte_next done ps c.loop-high.high-index c.loop-high-test.true c.in-Some.b c.in-Some.ensures
    ∙ c.loop-high.invariant

pub returns : goal.returns
returns c =
    byte_all (vec_items c.loop-high.bytes) c.as_chunks.result.0.now c.loop-high.high-index c.loop-high-test.false
    ∙ c.loop-high.invariant ∙ whole (goal.at.returns c).After-new-bytes
