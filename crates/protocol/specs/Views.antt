-- Values that refer to a line's bytes, as what they say.
use Rattle.std.specs.Borrow.{Bor}
use Rattle.std.specs.Prelude.{Some, None, Option}
use Rattle.names.specs.Names.{Bytes}
use Rattle.protocol.specs.Commands.{Request, lay, take, show, build, page, restart}
use Rattle.protocol.specs.Forms.{Gives}
use Rattle.protocol.specs.declared.command.Command.{Command}
use Rattle.protocol.specs.declared.command.Command.TheVariants.{Lay, Take, Show, Build, Page, Restart}

abbrev pub parts : Bor Bytes × Bor Bytes → Bytes × Bytes
parts p = (p.0.now, p.1.now)

abbrev pub request : Command → Request
request (Lay n t) = lay n.now t.now
request (Take n) = take n.now
request (Show n) = show n.now
request (Build n) = build n.now
request (Page n) = page n.now
request (Restart c p) = restart c p

-- a command is had from a line of its form, and none where the line has no command's form
abbrev pub Reads : Option Command → Bytes → Type 0
Reads None line = (q : Request) → Gives line q → ⊥
Reads (Some c) line = Gives line (request c)
