use Rattle.std.proofs.Common.{◌≡◌, ℕ, ◌+◌, ◌<◌, List, ◌∷◌, ◌++◌, length, get_or, take, drop, set, Some, Ok, Option, Result, sym, refl, ap, ◌∙◌, subst, arith, rules}
use Rattle.std.proofs.lemmas.List.{length-take, take_at}
use Rattle.std.specs.Option.{unwrap_or}
use Rattle.std.proofs.lemmas.Bool.{both_ways}
use Rattle.names.specs.Names.{Bytes}
use Rattle.disk.specs.declared.refusal.Refusal.{Refusal}
use Rattle.disk.specs.Keys.{key_of}
use Rattle.disk.specs.DiskState.{shown}
use Rattle.disk.specs.Blocks.{bytes_of}
use Rattle.disk.proofs.Shown.{read_is, read_gave}
use Rattle.layers.specs.declared.hold.Hold.{Hold}
use Rattle.layers.specs.Holds.{holds_max, Agree}
use Rattle.layers.proofs.Sought.{seek_hold, sought, sought_or_last}
use Rattle.layers.specs.Recent.{keys_held, to_front}
use Rattle.layers.proofs.Agreed.{agree_hit, agree_front, agree_others}
use Rattle.layers.proofs.Latest.{front_latest, latest}
use Rattle.layers.proofs.cache.ReadCacheDisk.read.Goals as goal

-- answered from a hold
pub returns-in-Some : goal.returns-in-Some
returns-in-Some g c =
    let k = key_of c.args.key.now in
    let hs = c.args.self.now.holds in
    let i = c.in-Some.i in
    let four : length hs ≡ holds_max = search rules in
    let f = sought hs k i c.in-Some.ensures.0 in
    let d = c.index-self-0.result in
    let front = c.bring_front.new.holds in
    let e : front ≡ to_front hs i d = c.bring_front.ensures d in
    let b = (get_or front 0 d).block in
    let at : get_or hs (seek_hold hs k) d ≡ get_or front 0 d = ap (λ (j : ℕ). get_or hs j d) (sym f.0) ∙ sym (ap (λ (xs : List Hold). get_or xs 0 d) e) in
    record {
      bound = omega (arith, c.copy_into.ensures.many, length-take b.len b.bytes, b.short);
      step = λ m h.
          let l : seek_hold hs k < length hs = omega (arith, f.0, f.1) in
          let hit : shown m k ≡ Some (bytes_of b) = agree_hit m k hs d h.1 l ∙ ap (λ (x : Hold). Some (bytes_of x.block)) at in
          let r = read_is m k c.args.into.now (bytes_of b) c.copy_into.new.into c.copy_into.result (c.in-Some.ensures.1 m h.0) hit c.copy_into.ensures.many c.copy_into.ensures.after in
          (r.0, (r.1, (h.0, subst (Agree m) (sym e) (agree_front m hs i d f.1 h.1))));
      spared = λ m h n e. refl;
      recent = ap keys_held e ∙ front_latest hs k four i d f.0 (omega (arith, four, f.1));
    }

-- read below, and held from now on
pub returns : goal.returns
returns g c =
    let k = key_of c.args.key.now in
    let hs = c.args.self.now.holds in
    let n = c.in-Some-2.n in
    let b = c.unwrap-block.result in
    let w = rw c.unwrap-block.ensures at c.new.ensures in
    let j = c.unwrap_or-i.result in
    let four : length hs ≡ holds_max = search rules in
    let d = c.index-self-0-2.result in
    let x : Hold = record { key = Some c.args.key.now; block = b } in
    let e : set c.bring_front-2.new.holds 0 c.refill.new.self ≡ x ∷ (take j hs ++ drop (j + 1) hs) =
    ap (λ (xs : List Hold). set xs 0 c.refill.new.self) (c.bring_front-2.ensures d)
    ∙ ap (λ (y : Hold). y ∷ (take j hs ++ drop (j + 1) hs)) c.refill.ensures in
    record {
      bound = rw c.in-Some-2.is at c.in_ok-n.ensures.bound;
      step = λ m h.
          let f = c.in_ok-n.ensures.step m h.0 in
          let a = ap {B = Result (Option ℕ) Refusal} (λ (z : Option ℕ). Ok z) (sym c.in-Some-2.is) ∙ f.0 in
          let q = read_gave m k c.args.into.now n a in
          let bs = q.0 in
          let into' : c.read.new.into ≡ bs ++ drop (length bs) c.args.into.now = f.1.0 ∙ q.1.1.1 in
          let part : take n c.read.new.into ≡ bs = ap (λ (z : Bytes). take n z) into' ∙ take_at bs _ n (omega (arith, q.1.1.0)) in
          let says : shown m k ≡ Some (bytes_of b) = q.1.0 ∙ ap (λ (z : Bytes). Some z) (sym (w ∙ part)) in
          (a, (f.1.0, (f.1.1, subst (Agree m) (sym e) (says, agree_others m hs j h.1))));
      spared = λ m h l t. absurd (both_ways _ (c.in_default.ensures m h l) t);
      recent = ap keys_held e ∙ latest hs k four j (c.unwrap_or-i.ensures ∙ (ap (λ o. unwrap_or o 3) c.seek.ensures ∙ sought_or_last hs k four));
    }
