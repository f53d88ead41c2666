-- The look-up of a word and of an entry.
use Rattle.std.proofs.Common.{◌≡◌, Bool, true, false, cond, ◌&&◌, List, [], ◌∷◌, map, Some, None, Option, refl, ap, ◌∙◌}
use Rattle.std.specs.List.{find as first}
use Rattle.std.specs.Option.{option_map}
use Rattle.std.specs.Str.{bytes_eq}
use Rattle.names.specs.Names.{Bytes}
use Rattle.names.specs.Spelled.{spelled}
use Rattle.script.specs.Pages.{content}
use Rattle.script.specs.Tree.{entered, same_kind}
use Rattle.script.specs.Made.{seen}
use Rattle.script.specs.declared.entry.Entry.{Entry}
use Rattle.script.specs.declared.entry.Kind.{Kind}
use Rattle.script.specs.declared.word.Row.{Row}
use Rattle.script.specs.declared.word.Spelled.{Spelled}
use Rattle.script.specs.declared.word.Spelled.TheVariants.{Unknown, Known}

abbrev pub as_word : Option Row → Spelled
as_word None = Unknown
as_word (Some r) = Known r.word r.rest

pub one_word : (t : Bool) (r : Row) (o : Option Row) → as_word (cond t (Some r) o) ≡ cond t (Known r.word r.rest) (as_word o)
one_word true r o = refl
one_word false r o = refl

one_entry : (t : Bool) (e : Entry) (o : Option Entry) → cond t (Some (content e.bytes)) (option_map (λ e. content e.bytes) o) ≡ option_map (λ e. content e.bytes) (cond t (Some e) o)
one_entry true e o = refl
one_entry false e o = refl

module _ (k : Kind) (n : Bytes) where
  pub found_entry : (es : List Entry) → entered k n (map seen es) ≡ option_map (λ e. content e.bytes) (first (λ e. same_kind e.kind k && bytes_eq (spelled e.name) n) es)
  found_entry [] = refl
  found_entry (e ∷ es) =
      let t = same_kind e.kind k && bytes_eq (spelled e.name) n in
      ap (λ o. cond t (Some (content e.bytes)) o) (found_entry es) ∙ one_entry t e (first (λ e. same_kind e.kind k && bytes_eq (spelled e.name) n) es)
