-- To draw a stamp is to commit the next number to the stamp key.
use Rattle.std.specs.Prelude.{ℕ, ◌+◌, cond, Some, None, Ok, Err, Option, Result, nat_le}
use Rattle.names.specs.Limits.{stamp_max}
use Rattle.record.specs.Written.{four}
use Rattle.faults.specs.declared.cause.Cause.{Cause}
use Rattle.faults.specs.declared.cause.Cause.TheVariants.{Disk, Spent, Spoiled}
use Rattle.disk.specs.declared.refusal.Refusal.TheVariants.{Dark}
use Rattle.disk.specs.Keys.{stamp_key}
use Rattle.disk.specs.DiskState.{DiskState, shown}
use Rattle.disk.specs.Calls.{dark}
use Rattle.commit.specs.Commits.{commit}
use Rattle.commit.specs.Replies.{Reply, refuse, bind, pass}
use Rattle.commit.specs.Stamps.{last_of}

-- the last stamp, as the disk tells it: 5, 8
abbrev pub told_stamp : Option ℕ → Result ℕ Cause
told_stamp None = Err Spoiled
told_stamp (Some s) = Ok s

abbrev pub last_stamp : DiskState → Result ℕ Cause
last_stamp m = cond (dark m) (Err (Disk Dark)) (told_stamp (last_of (shown m stamp_key)))

-- the stamp behind s: 7
abbrev pub draw_behind : ℕ → DiskState → Reply ℕ
draw_behind s m = refuse (nat_le stamp_max s) Spent m (bind (pass (commit m stamp_key (four (s + 1)))) (λ _ n. (Ok (s + 1), n)))

abbrev pub draw : DiskState → Reply ℕ
draw m = bind (last_stamp m, m) draw_behind
