-- The worked cases of names and clean pages.
use Rattle.std.specs.Prelude.{◌≡◌, true, false, cond, List, [], ◌∷◌, ◌++◌, replicate, Some, None, codes}
use Rattle.std.specs.Str.{bytes_eq}
use Rattle.names.specs.Names.{Bytes, is_name}
use Rattle.faults.specs.declared.script_fault.ScriptFault.TheVariants.{Cycle, TooDeep}
use Rattle.clean.specs.Files.{Files}
use Rattle.clean.specs.Evaluate.{made, failed, clean}
use Rattle.faults.specs.declared.cause.Cause.TheVariants.{Script}

-- the files of a list, the first of a name counting
abbrev pub laying : List (Bytes × Bytes) → Files
laying [] n = None
laying (f ∷ fs) n = cond (bytes_eq f.0 n) (Some f.1) (laying fs n)

-- one line behind another
infixr 20 ◌↵◌
abbrev pub ◌↵◌ : Bytes → Bytes → Bytes
a ↵ b = a ++ (10 ∷ b)

abbrev pub p1_to_p9 : Files
p1_to_p9 =
    laying (
    (codes "p1.do", codes "need p2") ∷ (codes "p2.do", codes "need p3") ∷ (codes "p3.do", codes "need p4")
    ∷ (codes "p4.do", codes "need p5") ∷ (codes "p5.do", codes "need p6") ∷ (codes "p6.do", codes "need p7")
    ∷ (codes "p7.do", codes "need p8") ∷ (codes "p8.do", codes "need p9") ∷ (codes "p9.do", codes "need p10") ∷ [])

abbrev pub crux : Files
crux =
    laying (
    (codes "crux.star", codes "4 bright" ↵ [])
    ∷ (codes "crux.do", codes "need crux.star" ↵ (codes "copy crux.star" ↵ (codes "ifhas crux.note" ↵ (codes "copy crux.note" ↵ codes "say %")))) ∷ [])

abbrev pub WorkedPages : Type 0
WorkedPages =
    (is_name (replicate 24 97) ≡ true)
    × (is_name (replicate 25 97) ≡ false)
    × (is_name [] ≡ false)
    × (is_name (codes ".crux") ≡ false)
    × (is_name (codes "crux.") ≡ false)
    × (is_name (codes "a..b") ≡ false)
    × (clean (laying ((codes "t.do", codes "ifhas b" ↵ (codes "say u" ↵ codes "say v")) ∷ [])) (codes "t") ≡ made (codes "v" ↵ []))
    × (clean (laying ((codes "a.do", codes "need b") ∷ (codes "b.do", codes "need a") ∷ [])) (codes "a")
    ≡ failed (Script Cycle) ((codes "b", 1) ∷ (codes "a", 1) ∷ []))
    × (clean p1_to_p9 (codes "p1")
    ≡ failed (Script TooDeep)
    ((codes "p8", 1) ∷ (codes "p7", 1) ∷ (codes "p6", 1) ∷ (codes "p5", 1) ∷ (codes "p4", 1) ∷ (codes "p3", 1) ∷ (codes "p2", 1) ∷ (codes "p1", 1) ∷ []))
    × (clean crux (codes "crux") ≡ made (codes "4 bright" ↵ (codes "crux" ↵ [])))
