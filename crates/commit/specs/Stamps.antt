-- A stamp stands in four bytes, the lowest first: in front of a laid file or a made page, and by itself under the stamp key.
use Rattle.std.specs.Prelude.{ℕ, cond, ◌++◌, length, drop, Some, None, Option, ◌==◌, nat_le}
use Rattle.names.specs.Names.{Bytes}
use Rattle.record.specs.Written.{four}
use Rattle.record.specs.Read.{number_of_four}
use Rattle.disk.specs.DiskState.{Content}

-- a stamp and the bytes behind it
pub record Held : Type 0 where
  pub stamp : ℕ
  pub bytes : Bytes

-- as a key shows them
abbrev pub with_stamp : ℕ → Bytes → Bytes
with_stamp s bs = four s ++ bs

abbrev pub unstamped : Bytes → Held
unstamped bs = record { stamp = number_of_four bs; bytes = drop 4 bs }

-- what a key holds; where it shows nothing, or too few bytes for a stamp, that is nothing
abbrev pub held : Content → Option Held
held None = None
held (Some bs) = cond (nat_le 4 (length bs)) (Some (unstamped bs)) None

-- the last stamp drawn; none where the key shows other than four bytes
abbrev pub last_of : Content → Option ℕ
last_of None = Some 0
last_of (Some bs) = cond (length bs == 4) (Some (number_of_four bs)) None
