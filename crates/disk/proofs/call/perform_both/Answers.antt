use Rattle.std.proofs.Common.{sym, ap, ◌∙◌}
use Rattle.names.specs.Names.{Bytes}
use Rattle.disk.specs.Perform.{after, filled}
use Rattle.disk.proofs.Steady.{call_steady}
use Rattle.disk.proofs.Alike.{reply_alike, filled_alike, replies_alike}
use Rattle.disk.proofs.call.perform_both.Goals as goal

pub returns : goal.returns
returns g c = record {
  alike = λ m n h k a.
      let l = g.met.A.Disk.lawful c.args.first.now m h in
      let r = g.met.B.Disk.lawful c.args.second.now n k in
      let f = c.perform-reply.ensures.step m h in
      let s = c.perform.ensures.step n k in
      let call = c.args.call.now in (
        f.0 ∙ ((reply_alike m n a l r call c.args.bytes.now).0 ∙ sym s.0),
        λ e. f.1.0 ∙ (filled_alike m n a l r call c.args.into.now ∙ (ap (λ (x : Bytes). filled n call x) e ∙ sym s.1.0)),
      );
  later = λ m n h k a.
      let l = g.met.A.Disk.lawful c.args.first.now m h in
      let r = g.met.B.Disk.lawful c.args.second.now n k in
      let call = c.args.call.now in
      let bs = c.args.bytes.now in
      let e = (reply_alike m n a l r call bs).1 in (
        after m call bs,
        after n call bs,
        (
          (c.perform-reply.ensures.step m h).1.1,
          (
            (c.perform.ensures.step n k).1.1,
            (e, λ buf cs. replies_alike cs (after m call bs) (after n call bs) buf e (call_steady m call bs l).lawful (call_steady n call bs r).lawful),
          ),
        ),
      );
}
