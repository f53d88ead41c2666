-- What a line does to a run.
use Rattle.std.proofs.Common.{◌≡◌, ℕ, ◌+◌, ◌<◌, Bool, true, false, cond, eqb, [], ◌∷◌, length, None, Some, Ok, Err, sym, refl, ap, ◌∙◌, subst, arith}
use Rattle.names.specs.Names.{Bytes}
use Rattle.script.specs.Pages.{content}
use Rattle.script.specs.Made.{entries as made}
use Rattle.script.specs.Lines.{before, after, lines, on_first}
use Rattle.script.specs.Words.{spelled_by, rest_of}
use Rattle.script.specs.Tree.{Tree, Entries, Does, pass, skip, add, fail, query, goes, worded, run}
use Rattle.script.specs.View.{Answer, Point, Queries, Plays, Went, onward, after_doing}
use Rattle.script.specs.declared.run.Work.{Work}
use Rattle.script.specs.declared.word.Word.{Word}
use Rattle.script.specs.declared.word.Spelled.{Spelled}
use Rattle.script.specs.declared.word.Mode.{Mode}
use Rattle.script.specs.declared.word.Mode.TheVariants.{Running, Skipping}

first_at : (b : ℕ) (bs : Bytes) (t : Bool) → on_first b (lines bs) ≡ (b ∷ before 10 bs) ∷ lines (after 10 bs)
    → cond t ([] ∷ lines bs) (on_first b (lines bs)) ≡ cond t [] (b ∷ before 10 bs) ∷ lines (cond t bs (after 10 bs))
first_at b bs true h = refl
first_at b bs false h = h

first_line : (s : Bytes) → 0 < length s → lines s ≡ before 10 s ∷ lines (after 10 s)
first_line [] h = absurd (omega arith)
first_line (b ∷ []) h = first_at b [] (eqb b 10) refl
first_line (b ∷ (c ∷ cs)) h = first_at b (c ∷ cs) (eqb b 10) (ap (on_first b) (first_line (c ∷ cs) (omega arith)))

module _ (stem : Bytes) (m : Mode) (l : ℕ) (es : Entries) (page rest line behind : Bytes) (h : 0 < length rest)
    (a : line ≡ before 10 rest) (b : behind ≡ after 10 rest) where
  pub skipped : m ≡ Skipping → run stem m l es page (lines rest) ≡ run stem Running (l + 1) es page (lines behind)
  skipped e = rw (e, first_line rest h, b)

  pub ran : m ≡ Running → (w : Spelled) (text : Bytes) → w ≡ spelled_by line → text ≡ rest_of stem line
      → run stem m l es page (lines rest) ≡ goes l es page (λ m fs p. run stem m (l + 1) fs p (lines behind)) (worded w es page text)
  ran e w text f g = rw (e, first_line rest h, ← a, b, g, f)

module _ (stem rest : Bytes) (l : ℕ) (u v : Work) (running : u.mode ≡ Running) where
  abbrev at : Work → Point
  at w = record { stem = stem; mode = w.mode; line = l; made = made w.entries; page = content w.page; rest = rest }

  abbrev behind_a : Does → Tree
  behind_a d = after_doing (at u) d

  asked : (o : Answer) (w : Word) (n : Bytes) → Queries o w n → made v.entries ≡ made u.entries → content v.page ≡ content u.page → Went o (at v) (behind_a (query w n))
  asked (Ok None) w n q e p = absurd q
  asked (Ok (Some a)) w n q e p = λ i. goes l (sym e i) (sym p i) (onward (at u)) (query (sym q.0 i) (sym q.1 i))
  asked (Err f) w n q e p = absurd q

  pub played : (o : Answer) (d : Does) → Plays u v o d → Went o (at v) (behind_a d)
  played o pass h =
      subst (λ (x : Answer). Went x (at v) (behind_a pass)) (sym h.0) (λ i. run stem (sym (h.1.0 ∙ running) i) (l + 1) (sym h.1.1 i) (sym h.1.2 i) (lines rest))
  played o skip h =
      subst (λ (x : Answer). Went x (at v) (behind_a skip)) (sym h.0) (λ i. run stem (sym h.1.0 i) (l + 1) (sym h.1.1 i) (sym h.1.2 i) (lines rest))
  played o (add t) h =
      subst (λ (x : Answer). Went x (at v) (behind_a (add t))) (sym h.0) (λ i. run stem (sym (h.1.0 ∙ running) i) (l + 1) (sym h.1.1 i) (sym h.1.2 i) (lines rest))
  played o (fail f) h = subst (λ (x : Answer). Went x (at v) (behind_a (fail f))) (sym h) refl
  played o (query w n) h = asked o w n h.0 h.1.1 h.1.2
