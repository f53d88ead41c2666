-- The candidates of a name, in memory.
use Rattle.std.proofs.Common.{◌≡◌, ◌+◌, ◌-◌, ◌<◌, Bool, true, false, List, [], ◌++◌, length, drop, codes, eqb, ap, ◌∙◌, arith, length-append}
use Rattle.std.specs.Cmp.Lexicographic.{pointwise}
use Rattle.std.specs.Option.{option_to_list}
use Rattle.std.proofs.lemmas.List.{map-append}
use Rattle.std.proofs.lemmas.Slice.Eq.{slice_eq-Decides, bytes_eq-Decides}
use Rattle.std.proofs.lemmas.Bool.Decides.{same_from_decides, Decides-eqb}
use Rattle.names.specs.Names.{Bytes, is_name}
use Rattle.names.proofs.Scan.{too_long}
use Rattle.script.specs.Candidates as spec
use Rattle.script.specs.Searched.{listed, to_come, candidate}
use Rattle.script.specs.declared.candidates.Candidates.{Candidates}

pub joined_long : (a b c : Bytes) → 24 < length a + (length b + length c) → is_name (a ++ (b ++ c)) ≡ false
joined_long a b c h = too_long (a ++ (b ++ c)) (omega (arith, length-append a (b ++ c), length-append b c))

pub joined_over : (a b c : Bytes) → 24 < length (a ++ b) + length c → is_name (a ++ (b ++ c)) ≡ false
joined_over a b c h = joined_long a b c (omega (arith, length-append a b))

module _ (t : Bytes) where
  pub parts : (cs : Candidates) → to_come t cs ≡ listed t cs.own ++ (listed t cs.ending ++ listed t cs.fallback)
  parts cs =
      let b = option_to_list cs.ending in
      let d = option_to_list cs.fallback in
      map-append (candidate t) (option_to_list cs.own) (b ++ d) ∙ ap (λ (l : List spec.Candidate). listed t cs.own ++ l) (map-append (candidate t) b d)

  pub no_target : spec.ends_in (codes ".do") t ≡ true → [] ≡ spec.candidates t
  unfolding spec.candidates
  no_target h = rw h

  pub all_candidates : spec.ends_in (codes ".do") t ≡ false → spec.own t ++ (spec.by_ending t ++ spec.fallback t) ≡ spec.candidates t
  unfolding spec.candidates
  all_candidates h = rw h

  pub ends_told : (b : Bool) → b ≡ pointwise eqb (codes ".do") (drop (length t - 3) t) → spec.ends_in (codes ".do") t ≡ b
  ends_told b m =
      let d = codes ".do" in
      let u = drop (length t - 3) t in
      same_from_decides _ _ (bytes_eq-Decides d u) (slice_eq-Decides Decides-eqb d u b m)
