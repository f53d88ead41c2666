-- A change of one key that a power cut leaves undone or done.
use Rattle.std.specs.Prelude.{◌≡◌, ℕ, ◌+◌, ◌≤◌, true, false, ◌⊎◌, length, Some, None, Ok, Err}
use Rattle.names.specs.Limits.{block_max}
use Rattle.names.specs.Names.{Bytes}
use Rattle.disk.specs.declared.refusal.Refusal.TheVariants.{Dark, Full}
use Rattle.disk.specs.Keys.{KeyId, same_key, draft_key}
use Rattle.disk.specs.DiskState.{Content, Mark, firm, either, Cell, DiskState, shown}
use Rattle.disk.specs.Calls.{Answer, dark, remove, settle}
use Rattle.commit.specs.Commits.{after, commit}

abbrev pub AllFirm : DiskState → Type 0
AllFirm m = (k : KeyId) → (m.cells k).mark ≡ firm

-- above charge 0 every key is firm
abbrev pub Calm : DiskState → Type 0
Calm m = dark m ≡ false → AllFirm m

abbrev pub cell : Content → Mark → Cell
cell s mark = record { shows = s; mark = mark }

-- What became of the key k of m, which was to show s for so many charges. Done: it does, and all is firm. Refused, as dark
-- or full: it is as it was; or the power was cut, and it shows s and is either what it showed or s.
abbrev pub Fate : DiskState → KeyId → Content → ℕ → Answer → DiskState → Type 0
Fate m k s cost (Ok x) n = (n.cells k ≡ cell s firm) × (AllFirm n × (m.charge ≡ n.charge + cost))
Fate m k s cost (Err why) n =
    ((why ≡ Dark) ⊎ (why ≡ Full)) × ((n.cells k ≡ m.cells k) ⊎ ((why ≡ Dark) × (n.cells k ≡ cell s (either (shown m k) s))))

-- the answer p .0 and the state p .1 are those of one such change; no other key but the draft has changed
pub record Update (m : DiskState) (k : KeyId) (s : Content) (cost : ℕ) (p : Answer × DiskState) : Type 0 where
  pub fate : Fate m k s cost p.0 p.1
  pub rest : (j : KeyId) → same_key k j ≡ false → same_key draft_key j ≡ false → p.1.cells j ≡ m.cells j
  pub calm : Calm p.1
  pub falls : p.1.charge ≤ m.charge
  pub lit : p.0 ≡ Err Dark → dark p.1 ≡ true

-- where above charge 0 all is firm, a commit of bytes that fit, to any key but the draft, is one change for 4 charges
abbrev pub CommitsAreUpdates : Type 0
CommitsAreUpdates =
    (m : DiskState) (k : KeyId) (bs : Bytes) → same_key draft_key k ≡ false → length bs ≤ block_max → Calm m → Update m k (Some bs) 4 (commit m k bs)

-- and the removal of a key that shows something, settled, is one for 2
abbrev pub RemovalsAreUpdates : Type 0
RemovalsAreUpdates =
    (m : DiskState) (k : KeyId) (bs : Bytes) → same_key draft_key k ≡ false → shown m k ≡ Some bs → Calm m → Update m k None 2 (after (remove m k) settle)
