use Rattle.std.proofs.Common.{◌≤◌, length, sym, ap, ◌∙◌, rules}
use Rattle.std.proofs.lemmas.List.{take_at}
use Rattle.names.specs.Names.{is_name}
use Rattle.names.proofs.Scan.{lawful-short}
use Rattle.names.proofs.name.Name.new.Goals as goal

pub slice_bounds-front-end : goal.slice_bounds-front-end
slice_bounds-front-end c =
    let k : length c.args.bytes.now ≤ 24 = lawful-short _ (sym c.if-not-is_name.ensures) in search rules

pub overflow_cast-result : goal.overflow_cast-result
overflow_cast-result c =
    let k : length c.args.bytes.now ≤ 24 = lawful-short _ (sym c.if-not-is_name.ensures) in search rules

pub invariant_of-result : goal.invariant_of-result
invariant_of-result c =
    let l = sym c.if-not-is_name.ensures in record {
      short = lawful-short c.args.bytes.now l;
      lawful = ap is_name (take_at c.copy_from_slice.new.self _ _ (ap length c.copy_from_slice.ensures.after) ∙ c.copy_from_slice.ensures.after) ∙ l;
    }

pub returns : goal.returns
returns c = take_at c.copy_from_slice.new.self _ _ (ap length c.copy_from_slice.ensures.after) ∙ c.copy_from_slice.ensures.after
