-- One byte put for another. A line cannot hold the byte that ends it, so `|` stands for it in texts and pages.
use Rattle.std.specs.Prelude.{ℕ, cond, ◌==◌}

abbrev pub newline : ℕ
newline = 10

abbrev pub bar : ℕ
bar = 124

-- b, or `to` where b is `from`
abbrev pub replaced : ℕ → ℕ → ℕ → ℕ
replaced from to b = cond (b == from) to b
