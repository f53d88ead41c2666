-- The bytes of a page.
use Rattle.names.specs.Names.{Bytes}
use Rattle.script.specs.declared.page.Page.{Page}

abbrev pub content : Page → Bytes
content p = p.bytes.items
