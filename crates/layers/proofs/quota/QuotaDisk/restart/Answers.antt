use Rattle.std.proofs.Common.{ℕ, min, sym, refl, ap, subst}
use Rattle.disk.specs.DiskState.{DiskState}
use Rattle.disk.specs.Restart.{Restarted}
use Rattle.layers.specs.Capped.{capped}
use Rattle.layers.proofs.quota.QuotaDisk.restart.Goals as goal

pub returns : goal.returns
returns g c = λ m h.
    let cap = c.args.self.now.cap in
    let e = c.restart.ensures h.0 h.1.0 in
    let n = e.0 in
    let r = e.1.0 in (
      capped cap n,
      (
        subst (λ (z : DiskState). Restarted z c.args.charge (capped cap n)) (sym h.1.1)
            (record { same_limit = ap (λ (x : ℕ). min x cap) r.same_limit; given = r.given; allowed = r.allowed; all_firm = r.all_firm; left = r.left }),
        (n, (e.1.1, refl)),
      ),
    )
