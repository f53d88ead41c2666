use Rattle.std.proofs.Common.{◌≡◌, ℕ, true, Some, None, Option, IsSome, MatchOption, sym, ◌∙◌, arith, rules}
use Rattle.names.specs.Names.{Bytes}
use Rattle.record.specs.Read.{is_record, read}
use Rattle.record.specs.Views.{Shows}
use Rattle.record.specs.declared.view.RecordView.{RecordView}
use Rattle.record.proofs.Handed.{read_when}
use Rattle.recordtext.proofs.answer.record_told.Goals as goal

-- a record is read
is_read : (r : Option RecordView) (bs : Bytes) → is_record bs ≡ true → MatchOption r (read bs ≡ None) (λ v. Shows bs v) → IsSome r
is_read None bs h e = absurd (let f = sym e ∙ read_when bs h in let z : ◌≡◌ {A = ℕ} 0 1 = cc in omega arith)
is_read (Some v) bs h e = search rules

pub unwrap-view-requires : goal.unwrap-view-requires
unwrap-view-requires c = is_read c.read.result _ c.as_bytes.ensures.whole c.read.ensures.cases
