-- What a two-copy disk means.
use Rattle.std.specs.Prelude.{vec_items}
use Rattle.disk.specs.Keys.{KeyId}
use Rattle.disk.specs.DiskState.{Content, DiskState}
use Rattle.two_copy.specs.declared.two_copy.TwoCopy.{TwoCopy}
use Rattle.two_copy.specs.Places.{copies}
use Rattle.two_copy.specs.Models.{Models}

-- m is a state of the disk
abbrev pub Describes : TwoCopy → DiskState → Type 0
Describes d m = Models (vec_items d.places) d.charge m

-- the content of a key at the last settle or restart
abbrev pub settled_copy : TwoCopy → KeyId → Content
settled_copy d k = (copies (vec_items d.places) k).settled

abbrev pub present_copy : TwoCopy → KeyId → Content
present_copy d k = (copies (vec_items d.places) k).present
