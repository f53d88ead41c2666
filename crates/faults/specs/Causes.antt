-- The number of each cause, and the trail that it carries.
use Rattle.std.specs.Prelude.{ℕ, [], ◌∷◌, ◌++◌, take}
use Rattle.names.specs.Limits.{depth_max}
use Rattle.names.specs.Names.{Bytes}
use Rattle.disk.specs.declared.refusal.Refusal.TheVariants.{Dark, Long, Full, Same, Missing}
use Rattle.faults.specs.Numbers as script
use Rattle.faults.specs.Trails.{Steps}
use Rattle.faults.specs.declared.cause.Cause.{Cause}
use Rattle.faults.specs.declared.cause.Cause.TheVariants.{Misnamed, Oversize, Unknown, Plain, Disk, Spent, Spoiled, Narrow, Garbled, Script}

-- the three words of a disk that no call passes on have 0
abbrev pub number : Cause → ℕ
number Misnamed = 1
number Oversize = 2
number Unknown = 3
number Plain = 4
number (Disk Dark) = 5
number (Disk Full) = 6
number (Disk Long) = 0
number (Disk Same) = 0
number (Disk Missing) = 0
number Spent = 7
number Spoiled = 8
number Narrow = 9
number Garbled = 10
number (Script f) = script.number f

-- the trail behind line l of the target t: only a script's fault has one
abbrev pub extended : Cause → Steps → Bytes → ℕ → Steps
extended Misnamed trail t l = trail
extended Oversize trail t l = trail
extended Unknown trail t l = trail
extended Plain trail t l = trail
extended (Disk why) trail t l = trail
extended Spent trail t l = trail
extended Spoiled trail t l = trail
extended Narrow trail t l = trail
extended Garbled trail t l = trail
extended (Script f) trail t l = take depth_max (trail ++ ((t, l) ∷ []))
