-- Laid files: for each name its bytes, or nothing.
use Rattle.std.specs.Prelude.{cond, List, [], ◌∷◌, Some, None, Option}
use Rattle.std.specs.BTreeMap.{keys, values}
use Rattle.std.specs.Str.{bytes_eq}
use Rattle.names.specs.Names.{Bytes}
use Rattle.names.specs.Spelled.{spelled}
use Rattle.names.specs.declared.name.Name.{Name}
use Rattle.script.specs.Pages.{content}
use Rattle.script.specs.declared.page.Page.{Page}
use Rattle.clean.specs.declared.files.Files as memory

abbrev pub Files : Type 0
Files = Bytes → Option Bytes

-- the same with another file, or none, under one name
abbrev pub with_file : Files → Bytes → Option Bytes → Files
with_file laid name file n = cond (bytes_eq n name) file (laid n)

-- the page beside the key that spells n
abbrev pub held : List Name → List Page → Bytes → Option Bytes
held [] ps n = None
held (k ∷ ks) [] n = None
held (k ∷ ks) (p ∷ ps) n = cond (bytes_eq n (spelled k)) (Some (content p)) (held ks ps n)

-- the files of a map in memory
unfoldable pub laid : memory.Files → Files
laid f = held (keys f.map) (values f.map)
