use Rattle.std.proofs.Common.{false, vec_items, ap, ◌∙◌}
use Rattle.two_copy.specs.Places.{Copies, copies}
use Rattle.two_copy.proofs.Refreshes.{copies-refresh}
use Rattle.two_copy.proofs.Calls.{settle-done}
use Rattle.two_copy.proofs.two_copy.calls.TwoCopyDisk.settle.Goals as goal

pub returns : goal.returns
returns c =
    let s = c.args.self.now in
    let ps = vec_items s.places in record {
      value = λ m h. let r = settle-done ps s.charge m h c.if-self-eq0.false s.apart s.tidy in (r.0, rw (c.refresh.ensures.0, c.refresh.ensures.1) r.1);
      k_after = λ k. ap (λ qs. (copies qs k).settled) c.refresh.ensures.0 ∙ ap (λ (l : Copies). l.settled) (copies-refresh false ps k s.apart s.tidy);
    }
