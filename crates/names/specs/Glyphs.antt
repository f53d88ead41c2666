-- What a byte is to a name.
use Rattle.std.specs.Prelude.{◌≡◌, ℕ, true, false}
use Rattle.names.specs.Names.{plain, dot}
use Rattle.names.specs.declared.judge.Glyph.{Glyph}
use Rattle.names.specs.declared.judge.Glyph.TheVariants.{Plain, Dot, Other}

-- g is what the byte b is to a name
abbrev pub Stands : Glyph → ℕ → Type 0
Stands Plain b = (plain b ≡ true) × (dot b ≡ false)
Stands Dot b = dot b ≡ true
Stands Other b = (plain b ≡ false) × (dot b ≡ false)
