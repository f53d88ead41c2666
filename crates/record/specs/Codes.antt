-- A kind as its byte and its stamp.
use Rattle.std.specs.Prelude.{◌≡◌, ℕ, ◌≢◌, Result, MatchResult}
use Rattle.record.specs.Entries.{stamp_of}
use Rattle.record.specs.Written.{kind_byte}
use Rattle.record.specs.declared.entry.Kind.{Kind}
use Rattle.record.specs.declared.entry.NoKind.{NoKind}

abbrev pub code_of : Kind → ℕ × ℕ
code_of k = (kind_byte k, stamp_of k)

-- the result is the kind with this byte and this stamp, or none has them
abbrev pub Decodes : ℕ × ℕ → Result Kind NoKind → Type 0
Decodes code r = MatchResult r (λ k. code_of k ≡ code) (λ _. (k : Kind) → code_of k ≢ code)
