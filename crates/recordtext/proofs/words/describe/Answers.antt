use Rattle.std.proofs.Common.{◌≡◌, ◌++◌, Some, None, string_bytes, codes, decimal, sym, refl, ap, ◌∙◌, subst}
use Rattle.std.specs.List.{flat_map}
use Rattle.record.specs.Read.{entries_in}
use Rattle.record.specs.Values.{value_of}
use Rattle.record.specs.Views.{Shows, entry_at}
use Rattle.record.specs.declared.view.RecordView.{RecordView}
use Rattle.recordtext.specs.Words.{entry_words, record_words}
use Rattle.recordtext.proofs.Told.{none_told, one_told, all_told}
use Rattle.recordtext.proofs.words.describe.Goals as goal

pub loop-entry-init : goal.loop-entry-init
loop-entry-init c =
    let front = codes "stamp " ++ decimal c.stamp-stamp.result in
    let z = ap (λ x. x.next) c.into_iter-entry-iterator.ensures.into_iter_gives ∙ c.entries-entry-items.ensures.1 in
    (refl, λ bs s. none_told front (string_bytes c.in_ok-text.text) c.into_iter-entry-iterator.result.next (entries_in bs) c.in_ok-text.ensures.ok z)

pub loop-entry-preserved : goal.loop-entry-preserved
loop-entry-preserved c =
    let t = c.in-Some.ensures.steps in
    let front = codes "stamp " ++ decimal c.stamp-stamp.result in
    let v = c.into_iter-entry-iterator.result.view in
    let i = c.loop-entry.entry-iterator.next in
    let said = entry_words (value_of c.in-Some.entry) in
    let e : Some (value_of c.in-Some.entry) ≡ entry_at v i = t.0 ∙ ap (λ (x : RecordView). entry_at x i) c.loop-entry.invariant.0 in (
      t.1 ∙ c.loop-entry.invariant.0,
      λ bs s.
          let p = c.in_ok-write.ensures.bytes ∙ ap (λ x. x ++ said) (c.loop-entry.invariant.1 bs s) in
          one_told bs v i s front (string_bytes c.write.new.self) said (value_of c.in-Some.entry) c.next.new.self.next p refl e t.2,
    )

pub returns : goal.returns
unfolding record_words
returns c = λ bs s.
    let t = c.in-None.ensures.steps in
    let v = c.into_iter-entry-iterator.result.view in
    let i = c.loop-entry.entry-iterator.next in
    let same : v ≡ c.args.view = ap (λ x. x.view) c.into_iter-entry-iterator.ensures.into_iter_gives ∙ c.entries-entry-items.ensures.0 in
    let S : RecordView → Type 0 = λ x. Shows bs x in
    let u : Shows bs v = subst S (sym same) s in
    let e : None ≡ entry_at v i = t.0 ∙ ap (λ (x : RecordView). entry_at x i) c.loop-entry.invariant.0 in
    let front = codes "stamp " ++ decimal c.stamp-stamp.result in
    all_told bs v i u front (string_bytes c.loop-entry.text) (c.loop-entry.invariant.1 bs u) e
    ∙ ap (λ n. (codes "stamp " ++ decimal n) ++ flat_map entry_words (entries_in bs)) c.stamp-stamp.ensures
