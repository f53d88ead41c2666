-- A text in which each `%` stands for a stem, by what it means.
use Rattle.names.specs.Names.{Bytes}
use Rattle.script.specs.Lines.{filled}
use Rattle.script.specs.declared.template.Template.{Template}

abbrev pub meant : Template → Bytes
meant t = filled t.stem.now t.text.now
