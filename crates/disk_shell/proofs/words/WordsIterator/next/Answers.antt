use Rattle.std.proofs.Common.{ap, arith}
use Rattle.std.proofs.lemmas.Str.Pattern.{split_parts}
use Rattle.disk_shell.specs.Words.{bytes_in, left}
use Rattle.disk_shell.proofs.Cuts.{next_word, last_word}
use Rattle.disk_shell.proofs.words.WordsIterator.next.Goals as goal

pub returns-in-Some-clause-steps : goal.returns-in-Some-clause-steps
returns-in-Some-clause-steps c =
    let line = c.in_ok-line.line.now in
    let p = rw c.in-Some.is at (split_parts 32 line c.split_once.result c.split_once.ensures.cases (omega arith)) in
    next_word (left c.args.self.now) line (ap bytes_in c.in_ok-line.was) c.in-Some.word.now c.in-Some.rest.now p.0 p.1

pub returns-in-None-clause-steps : goal.returns-in-None-clause-steps
returns-in-None-clause-steps c =
    let line = c.in_ok-line.line.now in
    let p = rw c.in-None.is at (split_parts 32 line c.split_once.result c.split_once.ensures.cases (omega arith)) in
    last_word (left c.args.self.now) line (ap bytes_in c.in_ok-line.was) p
