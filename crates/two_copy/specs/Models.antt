-- The states that describe places.
use Rattle.std.specs.Prelude.{◌≡◌, ℕ, List, length}
use Rattle.disk.specs.Keys.{KeyId}
use Rattle.disk.specs.DiskState.{is_firm, Cell, DiskState}
use Rattle.disk.specs.Restart.{Allows}
use Rattle.disk.specs.Lawful.{Lawful}
use Rattle.two_copy.specs.declared.place.Place.{Place}
use Rattle.two_copy.specs.Places.{Copies, copies}

-- the cell shows the present content, and its mark allows both contents
pub record Holds (l : Copies) (c : Cell) : Type 0 where
  pub shows_present : c.shows ≡ l.present
  pub as_firm : is_firm c.mark ≡ l.firm
  pub old : Allows c l.settled
  pub new : Allows c l.present

-- the state m describes the places, at a charge
pub record Models (ps : List Place) (charge : ℕ) (m : DiskState) : Type 0 where
  pub limit_is : m.limit ≡ length ps
  pub charge_is : m.charge ≡ charge
  pub each : (k : KeyId) → Holds (copies ps k) (m.cells k)
  pub lawful : Lawful m
