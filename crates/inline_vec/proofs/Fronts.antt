-- The first items of a list, written over.
use Rattle.std.proofs.Common.{◌≡◌, ℕ, ◌+◌, ◌-◌, ◌≤◌, List, ◌++◌, length, take, drop, sym, ap, ◌∙◌, arith}
use Rattle.std.proofs.lemmas.List.{drop-take}
use Rattle.std.proofs.Math.Seq.{take-append-add}

pub front_written : {A : Type 0} (part xs : List A) (n : ℕ) → length part ≤ n
    → take n (part ++ drop (length part) xs) ≡ part ++ drop (length part) (take n xs)
front_written part xs n h =
    let e : length part + (n - length part) ≡ n = omega arith in
    ap (λ k. take k (part ++ drop (length part) xs)) (sym e) ∙ take-append-add part (drop (length part) xs) (n - length part)
    ∙ ap (λ l. part ++ l) (sym (drop-take (length part) (n - length part) xs) ∙ ap (λ k. drop (length part) (take k xs)) e)
