use Rattle.std.proofs.Common.{◌≡◌, ◌%◌, Bool, eqb, map, vec_items, ap, ◌∙◌}
use Rattle.two_copy.specs.Places.{copies, Copies, refresh}
use Rattle.two_copy.proofs.Modelled.{restart_models, restarted}
use Rattle.two_copy.proofs.Refreshes.{copies-refresh}
use Rattle.two_copy.proofs.two_copy.calls.TwoCopyDisk.restart.Goals as goal

pub returns : goal.returns
returns c =
    let s = c.args.self.now in
    let ps = vec_items s.places in
    let old = eqb (c.args.pick % 2) 0 in
    let e : vec_items c.refresh.new.self.places ≡ map (refresh old) ps = c.refresh.ensures.0 ∙ ap (λ (b : Bool). map (refresh b) ps) c.takes_settled.ensures in record {
      restarted = λ m h.
          let r = restart_models ps s.charge m h old c.args.charge s.apart s.tidy in
          (restarted ps m old c.args.charge, (r.0, rw (e, c.refresh.ensures.1) r.1));
      k_after = λ k. ap (λ qs. (copies qs k).present) e ∙ ap (λ (l : Copies). l.present) (copies-refresh old ps k s.apart s.tidy);
    }
