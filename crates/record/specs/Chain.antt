-- Pairs of offset and length, the first at `start`, each other where the one before it ends, and the last ending at `end`.
use Rattle.std.specs.Prelude.{ℕ, ◌+◌, Bool, ◌&&◌, List, [], ◌∷◌, ◌==◌}

abbrev pub chained : ℕ → List (ℕ × ℕ) → ℕ → Bool
chained start [] end = start == end
chained start (p ∷ ps) end = p.0 == start && chained (start + p.1) ps end
