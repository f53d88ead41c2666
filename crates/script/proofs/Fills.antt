-- A template filled byte by byte.
use Rattle.std.proofs.Common.{◌≡◌, ℕ, ◌+◌, ◌<◌, ◌++◌, length, get_or, drop, sym, ap, ◌∙◌, append_assoc, arith, length-append}
use Rattle.std.proofs.lemmas.List.{at_drop_more}
use Rattle.names.specs.Names.{Bytes}
use Rattle.script.specs.Lines.{piece, filled}

-- vs was written before the piece p of the byte at i
module _ (stem xs : Bytes) (i : ℕ) (h : i < length xs) (p vs : Bytes) (is : p ≡ piece stem (get_or xs i 0))
    (inv : vs ++ filled stem (drop i xs) ≡ filled stem xs) where
  pub fill_more : (vs ++ p) ++ filled stem (drop (i + 1) xs) ≡ filled stem xs
  fill_more =
      append_assoc vs p (filled stem (drop (i + 1) xs))
      ∙ (sym (ap (λ (l : Bytes). vs ++ l) (at_drop_more (filled stem) xs i 0 h ∙ ap (λ (l : Bytes). l ++ filled stem (drop (i + 1) xs)) (sym is))) ∙ inv)

  pub fill_over : (m : ℕ) → m < length vs + length p → m < length (filled stem xs)
  fill_over m k =
      omega (arith, ap length fill_more, length-append (vs ++ p) (filled stem (drop (i + 1) xs)), length-append vs p)
