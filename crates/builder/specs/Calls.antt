-- What the builder's calls answer, and the state of the disk after them.
use Rattle.std.specs.Prelude.{ℕ, cond, not, ◌++◌, length, drop, is_some, Some, None, Ok, Err, Result, nat_le, nat_lt}
use Rattle.names.specs.Limits.{page_max}
use Rattle.names.specs.Names.{Bytes, is_name}
use Rattle.faults.specs.declared.cause.Cause.{Cause}
use Rattle.faults.specs.declared.cause.Cause.TheVariants.{Misnamed, Oversize, Unknown, Disk, Spoiled, Narrow}
use Rattle.disk.specs.declared.refusal.Refusal.TheVariants.{Dark}
use Rattle.disk.specs.Keys.{KeyId, laid_key, made_key}
use Rattle.disk.specs.DiskState.{Content, DiskState, shown}
use Rattle.disk.specs.Calls.{dark, remove, settle}
use Rattle.commit.specs.Commits.{after, commit}
use Rattle.commit.specs.Replies.{Reply, refuse, bind, pass}
use Rattle.commit.specs.Stamps.{with_stamp}
use Rattle.commit.specs.Draws.{draw}
use Rattle.commit.specs.declared.stamped.ReadError.{ReadError}
use Rattle.commit.specs.declared.stamped.ReadError.TheVariants.{Disk as Refused, Short}
use Rattle.builder.specs.declared.shelf.Shelf.{Shelf}
use Rattle.builder.specs.declared.shelf.Shelf.TheVariants.{Laid, Made}

-- lay: 1, 2, and of the draw 5, 8, 7; then the file is committed
abbrev pub lay : DiskState → Bytes → Bytes → Reply (Unit {0})
lay m n bs =
    refuse (not (is_name n)) Misnamed m
    (refuse (nat_lt page_max (length bs)) Oversize m
    (bind (draw m) (λ s x. pass (commit x (laid_key n) (with_stamp s bs)))))

-- take: 1, 5, 3; then the file is removed, and that is settled
abbrev pub take : DiskState → Bytes → Reply (Unit {0})
take m n =
    refuse (not (is_name n)) Misnamed m
    (refuse (dark m) (Disk Dark) m
    (refuse (not (is_some (shown m (laid_key n)))) Unknown m
    (pass (after (remove m (laid_key n)) settle))))

abbrev pub on_shelf : Shelf → Bytes → KeyId
on_shelf Laid n = laid_key n
on_shelf Made n = made_key n

-- a laid file without a stamp is spoiled; a made page without one counts as none
abbrev pub too_short : Shelf → Cause
too_short Laid = Spoiled
too_short Made = Unknown

-- what a read that failed is answered
abbrev pub unread : Shelf → ReadError → Cause
unread shelf (Refused why) = Disk why
unread shelf Short = too_short shelf

-- what a shelf's key shows, without its stamp
abbrev pub found : Shelf → Content → Result Bytes Cause
found shelf None = Err Unknown
found shelf (Some bs) = cond (nat_le 4 (length bs)) (Ok (drop 4 bs)) (Err (too_short shelf))

-- show, into so many bytes: 1, 9, 5, 3, 8; else the bytes that it gives
abbrev pub page : DiskState → Shelf → Bytes → ℕ → Result Bytes Cause
page m shelf n room =
    cond (not (is_name n)) (Err Misnamed)
    (cond (nat_lt room page_max) (Err Narrow)
    (cond (dark m) (Err (Disk Dark))
    (found shelf (shown m (on_shelf shelf n)))))

-- it answers their number, and puts them at the buffer's front; a refusal leaves the buffer
abbrev pub told : Result Bytes Cause → Result ℕ Cause
told (Ok bs) = Ok (length bs)
told (Err why) = Err why

abbrev pub written : Result Bytes Cause → Bytes → Bytes
written (Ok bs) buf = bs ++ drop (length bs) buf
written (Err why) buf = buf
