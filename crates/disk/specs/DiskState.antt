-- The state of a disk: what it means, and nothing of how it keeps it.
use Rattle.std.specs.Prelude.{ℕ, Bool, true, false, not, ◌||◌, List, [], length, is_some, None, Option}
use Rattle.names.specs.Names.{Bytes}
use Rattle.disk.specs.Keys.{KeyId}

-- what a key shows: nothing, or bytes
abbrev pub Content : Type 0
Content = Option Bytes

-- what a power cut may leave of a key: what it shows; one of two contents; nothing or any bytes that fit
pub data Mark : Type 0 where
  firm : Mark
  either : Content → Content → Mark
  loose : Mark

abbrev pub is_firm : Mark → Bool
is_firm firm = true
is_firm (either a b) = false
is_firm loose = false

pub record Cell : Type 0 where
  pub shows : Content
  pub mark : Mark

-- a key is used if it shows something or is not firm
abbrev pub used : Cell → Bool
used c = is_some c.shows || not (is_firm c.mark)

-- how many keys may be used, the charge left, the used keys, and the cell of every key
pub record DiskState : Type 0 where
  pub limit : ℕ
  pub charge : ℕ
  pub keys : List KeyId
  pub cells : KeyId → Cell

abbrev pub shown : DiskState → KeyId → Content
shown m k = (m.cells k).shows

abbrev pub used_at : DiskState → KeyId → Bool
used_at m k = used (m.cells k)

abbrev pub count : DiskState → ℕ
count m = length m.keys

-- a disk on which no key is used
abbrev pub blank : ℕ → ℕ → DiskState
blank limit charge = record { limit = limit; charge = charge; keys = []; cells = λ k. record { shows = None; mark = firm } }
