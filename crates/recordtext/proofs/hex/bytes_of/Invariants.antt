use Rattle.std.proofs.Common.{◌≡◌, drop, vec_items}
use Rattle.recordtext.proofs.Digits.{ahead, pairs_bytes}
use Rattle.recordtext.proofs.hex.bytes_of.Given as goal

abbrev pub invariant-loop-high : goal.invariant-loop-high
invariant-loop-high l = ahead (vec_items l.bytes) (pairs_bytes (drop l.high-index l.pairs)) ≡ pairs_bytes l.pairs
