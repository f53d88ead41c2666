-- Which scripts may make a page, in the order of the search, each with the stem that `%` stands for.
use Rattle.std.specs.Prelude.{ℕ, ◌-◌, Bool, cond, List, [], ◌∷◌, ◌++◌, length, drop, Some, None, codes, Option}
use Rattle.std.specs.Str.{bytes_eq}
use Rattle.names.specs.Names.{Bytes, is_name, dot}

pub record Candidate : Type 0 where
  pub script : Bytes
  pub stem : Bytes

abbrev pub ends_in : Bytes → Bytes → Bool
ends_in tail n = bytes_eq tail (drop (length n - length tail) n)

-- what precedes and what follows the last dot
abbrev pub cut_more : ℕ → Bytes → Option (Bytes × Bytes) → Option (Bytes × Bytes)
cut_more b bs (Some p) = Some (b ∷ p.0, p.1)
cut_more b bs None = cond (dot b) (Some ([], bs)) None

abbrev pub cut_last : Bytes → Option (Bytes × Bytes)
cut_last [] = None
cut_last (b ∷ bs) = cut_more b bs (cut_last bs)

-- a candidate that is no name is skipped: of a name's candidates those that are too long
abbrev pub if_name : Bytes → Bytes → List Candidate
if_name s stem = cond (is_name s) (record { script = s; stem = stem } ∷ []) []

-- t.do
abbrev pub own : Bytes → List Candidate
own t = if_name (t ++ codes ".do") t

-- default.E.do, where E follows the last dot of t
abbrev pub ending_by : Option (Bytes × Bytes) → List Candidate
ending_by None = []
ending_by (Some p) = if_name (codes "default." ++ (p.1 ++ codes ".do")) p.0

abbrev pub by_ending : Bytes → List Candidate
by_ending t = ending_by (cut_last t)

-- default.do
abbrev pub fallback : Bytes → List Candidate
fallback t = record { script = codes "default.do"; stem = t } ∷ []

-- a name that ends in `.do` is never a target
unfoldable pub candidates : Bytes → List Candidate
candidates t = cond (ends_in (codes ".do") t) [] (own t ++ (by_ending t ++ fallback t))
