use Rattle.std.proofs.Common.{◌≡◌, ap, ◌∙◌, rules}
use Rattle.std.specs.Option.{option_copied}
use Rattle.script.proofs.Lookups.{as_word, one_word}
use Rattle.script.proofs.word.find_word.Goals as goal

pub returns : goal.returns
returns c =
    let r : c.map_or.result ≡ as_word (option_copied c.row_of.result) = search rules in
    r ∙ (ap as_word c.row_of.ensures ∙ simp one_word)
