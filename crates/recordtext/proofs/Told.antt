-- A record told entry by entry.
use Rattle.std.proofs.Common.{◌≡◌, ℕ, zero, suc, ◌+◌, List, [], ◌∷◌, ◌++◌, take, Some, None, sym, refl, ap, ◌∙◌, add-one, arith}
use Rattle.std.specs.List.{flat_map, slice_get}
use Rattle.std.proofs.lemmas.List.{append-nil, flat_map_more}
use Rattle.names.specs.Names.{Bytes}
use Rattle.record.specs.Entries.{EntryValue}
use Rattle.record.specs.Read.{entries_in}
use Rattle.record.specs.Views.{Shows, entry_at}
use Rattle.record.specs.declared.view.RecordView.{RecordView}
use Rattle.record.proofs.Handed.{shows-entry}
use Rattle.recordtext.specs.Words.{entry_words}

take_one_more : {X : Type 0} (xs : List X) (i : ℕ) (x : X) → slice_get xs i ≡ Some x → take (suc i) xs ≡ take i xs ++ x ∷ []
take_one_more [] i x h = absurd (let z : ◌≡◌ {A = ℕ} 0 1 = cc in omega arith)
take_one_more (y ∷ ys) zero x h = let e : y ≡ x = cc in ap (λ z. z ∷ []) e
take_one_more (y ∷ ys) (suc i) x h = ap (λ z. y ∷ z) (take_one_more ys i x h)

take_every : {X : Type 0} (xs : List X) (i : ℕ) → slice_get xs i ≡ None → take i xs ≡ xs
take_every [] zero h = refl
take_every [] (suc i) h = refl
take_every (y ∷ ys) zero h = absurd (let z : ◌≡◌ {A = ℕ} 0 1 = cc in omega arith)
take_every (y ∷ ys) (suc i) h = ap (λ z. y ∷ z) (take_every ys i h)

pub none_told : (front text : Bytes) (n : ℕ) (es : List EntryValue) → text ≡ front → n ≡ 0 → text ≡ front ++ flat_map entry_words (take n es)
none_told front text n es e z = e ∙ sym (append-nil front) ∙ ap (λ k. front ++ flat_map entry_words (take k es)) (sym z)

module _ (bs : Bytes) (v : RecordView) (i : ℕ) (s : Shows bs v) where
  pub one_told : (front text words : Bytes) (x : EntryValue) (n : ℕ) → text ≡ (front ++ flat_map entry_words (take i (entries_in bs))) ++ words → words ≡ entry_words x → Some x ≡ entry_at v i → n ≡ i + 1 → text ≡ front ++ flat_map entry_words (take n (entries_in bs))
  one_told front text words x n p w e k =
      let es = entries_in bs in
      let m : take n es ≡ take i es ++ x ∷ [] = ap (λ n. take n es) (k ∙ add-one i) ∙ take_one_more es i x (sym (e ∙ shows-entry bs v i s)) in
      p ∙ ap (λ z. (front ++ flat_map entry_words (take i es)) ++ z) w ∙ flat_map_more entry_words front (take i es) x ∙ ap (λ l. front ++ flat_map entry_words l) (sym m)

  pub all_told : (front text : Bytes) → text ≡ front ++ flat_map entry_words (take i (entries_in bs)) → None ≡ entry_at v i → text ≡ front ++ flat_map entry_words (entries_in bs)
  all_told front text p e = p ∙ ap (λ l. front ++ flat_map entry_words l) (take_every (entries_in bs) i (sym (e ∙ shows-entry bs v i s)))
