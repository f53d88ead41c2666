-- How a refusal and a count are written.
use Rattle.std.specs.Prelude.{◌++◌, codes}
use Rattle.std.specs.Fmt.{decimal}
use Rattle.names.specs.Names.{Bytes}
use Rattle.disk.specs.declared.refusal.Refusal.{Refusal}
use Rattle.disk.specs.declared.refusal.Refusal.TheVariants.{Dark, Long, Full, Same, Missing}
use Rattle.disk.specs.declared.refusal.Count.{Count}

abbrev pub refusal_word : Refusal → Bytes
refusal_word Dark = codes "dark"
refusal_word Long = codes "long"
refusal_word Full = codes "full"
refusal_word Same = codes "same"
refusal_word Missing = codes "none"

-- `3 of 64 used, charge 100`
abbrev pub count_text : Count → Bytes
count_text c = decimal c.used ++ (codes " of " ++ (decimal c.limit ++ (codes " used, charge " ++ decimal c.charge)))
