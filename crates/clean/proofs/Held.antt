-- A map in memory as laid files.
use Rattle.std.proofs.Common.{◌≡◌, Bool, true, false, cond, List, [], ◌∷◌, length, is_some, Some, None, Option, sym, refl, ap, ◌∙◌, subst, true≢false, arith}
use Rattle.std.specs.BTreeMap as tree
use Rattle.std.specs.Map.{lookup, keys_of, values_of}
use Rattle.std.specs.Ordering.{eq_by_cmp}
use Rattle.std.specs.Cmp.Lexicographic.{texts_ties, nat_list_eq_equiv}
use Rattle.std.specs.Option.{option_map}
use Rattle.std.specs.Str.{bytes_eq}
use Rattle.std.specs.BTreeMap.{BTreeMap}
use Rattle.std.proofs.lemmas.Slice.Eq.{bytes_eq-Decides}
use Rattle.std.proofs.lemmas.List.{take_all}
use Rattle.names.specs.Names.{Bytes, is_name}
use Rattle.names.specs.Spelled.{spelled}
use Rattle.names.specs.Order.{name_order}
use Rattle.names.specs.declared.name.Name.{Name}
use Rattle.names.proofs.Scan.{lawful-short}
use Rattle.script.specs.Pages.{content}
use Rattle.script.specs.declared.page.Page.{Page}
use Rattle.clean.specs.Files.{Files, held, with_file}

tied_same : (a b : Name) → eq_by_cmp name_order a b ≡ bytes_eq (spelled a) (spelled b)
tied_same a b = sym (texts_ties (spelled a) (spelled b))

mapped_cond : (b : Bool) (w L : Option Page) (R : Option Bytes) → R ≡ option_map content L → cond b (option_map content w) R ≡ option_map content (cond b w L)
mapped_cond true w L R h = refl
mapped_cond false w L R h = h

held_at : (es : List (Name × Page)) (k : Name) → held (keys_of es) (values_of es) (spelled k) ≡ option_map content (lookup (eq_by_cmp name_order k) es)
held_at [] k = refl
held_at (e ∷ es) k =
    let L = lookup (eq_by_cmp name_order k) es in
    mapped_cond (bytes_eq (spelled k) (spelled e.0)) (Some e.1) L (held (keys_of es) (values_of es) (spelled k)) (held_at es k)
    ∙ ap (λ b. option_map content (cond b (Some e.1) L)) (sym (tied_same k e.0))

-- the name that lawful bytes spell
abbrev name_of : (n : Bytes) → is_name n ≡ true → Name
name_of n h =
    record { bytes = n; len = length n; short = lawful-short n h; lawful = ap is_name (take_all (length n) n (omega arith)) ∙ h }

name_of_spelled : (n : Bytes) (h : is_name n ≡ true) → spelled (name_of n h) ≡ n
name_of_spelled n h = take_all (length n) n (omega arith)

false_unless : (b : Bool) → (b ≡ true → ⊥) → b ≡ false
false_unless true f = absurd (f refl)
false_unless false f = refl

-- bytes that are no name are under no key
not_key : (n : Bytes) (k : Name) → is_name n ≡ false → bytes_eq n (spelled k) ≡ false
not_key n k h =
    false_unless (bytes_eq n (spelled k)) (λ e. true≢false (sym (ap is_name ((bytes_eq-Decides n (spelled k)).0 e) ∙ k.lawful) ∙ h))

held_none : (ks : List Name) (ps : List Page) (n : Bytes) → is_name n ≡ false → held ks ps n ≡ None
held_none [] ps n h = refl
held_none (x ∷ ks) [] n h = refl
held_none (x ∷ ks) (p ∷ ps) n h = rw (not_key n x h) (held_none ks ps n h)

abbrev Map : Type 0
Map = BTreeMap Name Page

abbrev holds : Map → Files
holds m = held (tree.keys m) (tree.values m)

pub held_get : (m : Map) (k : Name) → holds m (spelled k) ≡ option_map content (tree.get name_order m k)
held_get m k = held_at m.entries k

by_bool : (b : Bool) (P : Type 0) → (b ≡ true → P) → (b ≡ false → P) → P
by_bool true P y n = y refl
by_bool false P y n = n refl

module _ (m n : Map) (k : Name) (w : Option Page)
    (put : (q : Name) → tree.get name_order n q ≡ cond (eq_by_cmp name_order k q) w (tree.get name_order m q)) where
  at_name : (q : Name) → holds n (spelled q) ≡ with_file (holds m) (spelled k) (option_map content w) (spelled q)
  at_name q =
      held_get n q
      ∙ (ap (option_map content) (put q)
      ∙ (sym (mapped_cond (eq_by_cmp name_order k q) w (tree.get name_order m q) (holds m (spelled q)) (held_get m q))
      ∙ ap (λ b. cond b (option_map content w) (holds m (spelled q))) (tied_same k q ∙ nat_list_eq_equiv.symm (spelled k) (spelled q))))

  pub held-put : (s : Bytes) → holds n s ≡ with_file (holds m) (spelled k) (option_map content w) s
  held-put s =
      by_bool (is_name s) _
      (λ h. subst (λ (x : Bytes). holds n x ≡ with_file (holds m) (spelled k) (option_map content w) x) (name_of_spelled s h) (at_name (name_of s h)))
      (λ h. let e = not_key s k h in held_none (tree.keys n) (tree.values n) s h ∙ sym (rw e (held_none (tree.keys m) (tree.values m) s h)))

pub none_there : (o : Option Page) → is_some o ≡ false → option_map content o ≡ None
none_there None h = refl
none_there (Some p) h = absurd (true≢false h)

pub some_there : (o : Option Page) → is_some (option_map content o) ≡ is_some o
some_there None = refl
some_there (Some p) = refl
