-- A search through the code's own table of words.
use Rattle.std.proofs.Common.{◌≡◌, Bool, true, false, cond, List, [], ◌∷◌, Some, None, Option, MatchOption, IsSomeAnd, refl, ap, ◌∙◌}
use Rattle.std.specs.Borrow.{Bor}
use Rattle.std.specs.List.{find}
use Rattle.std.specs.Option.{option_map}
use Rattle.std.specs.Str.{bytes_eq}
use Rattle.names.specs.Names.{Bytes}
use Rattle.protocol.specs.declared.command.Form.{Form}
use Rattle.protocol.specs.declared.command.Word.{Word}

abbrev pub is_spelled : Bytes → Word → Bool
is_spelled s w = bytes_eq w.spelling.now s

abbrev pub form_in : Bytes → List Word → Option Form
form_in s [] = None
form_in s (w ∷ ws) = cond (is_spelled s w) (Some w.form) (form_in s ws)

form_at : (s : Bytes) (w : Word) (ws : List Word) (t : Bool) → option_map (λ (v : Word). v.form) (find (is_spelled s) ws) ≡ form_in s ws
    → option_map (λ (v : Word). v.form) (cond t (Some w) (find (is_spelled s) ws)) ≡ cond t (Some w.form) (form_in s ws)
form_at s w ws true h = refl
form_at s w ws false h = h

form-find : (s : Bytes) (ws : List Word) → option_map (λ (v : Word). v.form) (find (is_spelled s) ws) ≡ form_in s ws
form-find s [] = refl
form-find s (w ∷ ws) = form_at s w ws (is_spelled s w) (form-find s ws)

-- the form of the word that is found, as a call at it gives it
pub form_found : (s : Bytes) (ws : List Word) (o : Option (Bor Word)) (r : Option Form) (P : Bor Word → Form → Type 0) → option_map (λ w. w.now) o ≡ find (is_spelled s) ws
    → MatchOption o (r ≡ None) (λ x. IsSomeAnd r (P x)) → ((x : Bor Word) (f : Form) → P x f → f ≡ x.now.form) → r ≡ form_in s ws
form_found s ws None r P e h g = h ∙ (ap (option_map (λ (v : Word). v.form)) e ∙ form-find s ws)
form_found s ws (Some x) None P e h g = absurd h
form_found s ws (Some x) (Some f) P e h g = ap Some (g x f h) ∙ (ap (option_map (λ (v : Word). v.form)) e ∙ form-find s ws)
