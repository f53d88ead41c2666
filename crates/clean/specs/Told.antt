-- A status in memory, by what it means.
use Rattle.script.specs.Pages.{content}
use Rattle.clean.specs.Status as spec
use Rattle.clean.specs.declared.status.Status.{Status}
use Rattle.clean.specs.declared.status.Status.TheVariants.{Absent, Source, Target}

abbrev pub told : Status → spec.Status
told Absent = spec.absent
told (Source p) = spec.source (content p)
told Target = spec.target
