-- The run of a script as a tree of what it asks, with no file and no disk in sight.
use Rattle.std.specs.Prelude.{ℕ, ◌+◌, Bool, true, false, cond, ◌&&◌, List, [], ◌∷◌, ◌++◌, length, is_some, Some, None, Option, nat_le}
use Rattle.std.specs.Str.{bytes_eq}
use Rattle.names.specs.Limits.{page_max, entries_max}
use Rattle.names.specs.Names.{Bytes, is_name}
use Rattle.faults.specs.declared.script_fault.ScriptFault.{ScriptFault}
use Rattle.faults.specs.declared.script_fault.ScriptFault.TheVariants.{UnknownWord, NotAName, Absent as NotThere, Present, NotNeeded, PageTooLong, TooManyEntries}
use Rattle.script.specs.Words.{spelled_by, rest_of}
use Rattle.script.specs.declared.word.Word.{Word}
use Rattle.script.specs.declared.word.Word.TheVariants.{Need, IfCreate, IfHas, Say, Copy}
use Rattle.script.specs.declared.word.Rest.{Rest}
use Rattle.script.specs.declared.word.Rest.TheVariants.{Name, Text}
use Rattle.script.specs.declared.word.Spelled.{Spelled}
use Rattle.script.specs.declared.word.Spelled.TheVariants.{Nothing, Unknown, Known}
use Rattle.script.specs.declared.word.Mode.{Mode}
use Rattle.script.specs.declared.word.Mode.TheVariants.{Running, Skipping}
use Rattle.script.specs.declared.entry.Kind.{Kind}
use Rattle.script.specs.declared.entry.Kind.TheVariants.{Script, Needed, Absent}

-- what becomes of a name that is there: it is fetched, or the run ends with a fault
pub data Offer : Type 0 where
  wanted : Offer
  refused : ScriptFault → Offer

-- A run ends with a page, ends with a fault at a line, or asks at a line what a name is. Then it has one way to go on
-- where the name is absent, and one for each content where it is there and wanted; there it is entered with the kind
-- given, as the script or as a needed name.
pub data Tree : Type 0 where
  done : Bytes → Tree
  stop : ScriptFault → ℕ → Tree
  ask : Kind → Bytes → ℕ → Tree → Offer → (Bytes → Tree) → Tree

-- an entry that the run has made; `bytes` are those of a needed name
pub record Entered : Type 0 where
  pub kind : Kind
  pub name : Bytes
  pub bytes : Bytes

abbrev pub Entries : Type 0
Entries = List Entered

abbrev pub same_kind : Kind → Kind → Bool
same_kind Script Script = true
same_kind Script Needed = false
same_kind Script Absent = false
same_kind Needed Script = false
same_kind Needed Needed = true
same_kind Needed Absent = false
same_kind Absent Script = false
same_kind Absent Needed = false
same_kind Absent Absent = true

-- the bytes of the entry of a kind and a name, if it has been made
abbrev pub entered : Kind → Bytes → Entries → Option Bytes
entered k n [] = None
entered k n (e ∷ es) = cond (same_kind e.kind k && bytes_eq e.name n) (Some e.bytes) (entered k n es)

abbrev pub with_entry : Entries → Kind → Bytes → Bytes → Entries
with_entry es k n b = es ++ (record { kind = k; name = n; bytes = b } ∷ [])

abbrev pub full : Entries → Bool
full es = nat_le entries_max (length es)

-- the tree t, which goes on behind one more entry, if there is room for it
abbrev pub unless_full : Bool → ℕ → Tree → Tree
unless_full true l t = stop TooManyEntries l
unless_full false l t = t

abbrev pub wanted_unless : Bool → Offer
wanted_unless true = refused TooManyEntries
wanted_unless false = wanted

-- What a line does: nothing, skip the next line, add to the page, end the run with a fault, or ask what a name is.
pub data Does : Type 0 where
  pass : Does
  skip : Does
  add : Bytes → Does
  fail : ScriptFault → Does
  query : Word → Bytes → Does

-- text for the page, if it fits
abbrev pub adding : Bytes → Bytes → Does
adding page text = cond (nat_le (length page + length text) page_max) (add text) (fail PageTooLong)

abbrev pub copying : Bytes → Option Bytes → Does
copying page None = fail NotNeeded
copying page (Some b) = adding page b

-- a name that has been entered before as needed, or as absent, is not asked again
abbrev pub known : Word → Bytes → Bool → Bool → Does
known w n false false = query w n
known Need n true a = pass
known Need n false true = fail NotThere
known IfCreate n true a = fail Present
known IfCreate n false true = pass
known IfHas n true a = pass
known IfHas n false true = skip
known Say n true a = pass
known Say n false true = pass
known Copy n true a = pass
known Copy n false true = pass

abbrev pub asking : Word → Bytes → Entries → Does
asking w n es = known w n (is_some (entered Needed n es)) (is_some (entered Absent n es))

-- a word with a name behind it
abbrev pub named : Word → Entries → Bytes → Bytes → Does
named Copy es page n = copying page (entered Needed n es)
named Need es page n = asking Need n es
named IfCreate es page n = asking IfCreate n es
named IfHas es page n = asking IfHas n es
named Say es page n = asking Say n es

-- a word by the form of its rest
abbrev pub formed : Word → Rest → Entries → Bytes → Bytes → Does
formed w Name es page rest = cond (is_name rest) (named w es page rest) (fail NotAName)
formed w Text es page rest = adding page (rest ++ (10 ∷ []))

abbrev pub worded : Spelled → Entries → Bytes → Bytes → Does
worded Nothing es page rest = pass
worded Unknown es page rest = fail UnknownWord
worded (Known w form) es page rest = formed w form es page rest

abbrev pub does : Bytes → Entries → Bytes → Bytes → Does
does stem es page line = worded (spelled_by line) es page (rest_of stem line)

-- how a run that asks goes on where the name is absent, t being the rest of it behind that entry
abbrev pub lacking : Word → Bool → ℕ → Tree → Tree
lacking Need f l t = stop NotThere l
lacking IfCreate f l t = unless_full f l t
lacking IfHas f l t = unless_full f l t
lacking Say f l t = unless_full f l t
lacking Copy f l t = unless_full f l t

-- and whether the name is wanted where it is there
abbrev pub offer : Word → Bool → Offer
offer IfCreate f = refused Present
offer Need f = wanted_unless f
offer IfHas f = wanted_unless f
offer Say f = wanted_unless f
offer Copy f = wanted_unless f

-- after an absent name, `ifhas` skips the next line
abbrev pub mode_after : Word → Mode
mode_after IfHas = Skipping
mode_after Need = Running
mode_after IfCreate = Running
mode_after Say = Running
mode_after Copy = Running

-- how a run goes on after line l, where `next` is the run of the lines behind it
abbrev pub goes : ℕ → Entries → Bytes → (Mode → Entries → Bytes → Tree) → Does → Tree
goes l es page next pass = next Running es page
goes l es page next skip = next Skipping es page
goes l es page next (add t) = next Running es (page ++ t)
goes l es page next (fail f) = stop f l
goes l es page next (query w n) =
    ask Needed n l (lacking w (full es) l (next (mode_after w) (with_entry es Absent n []) page)) (offer w (full es))
    (λ b. next Running (with_entry es Needed n b) page)

-- the run of the lines, the first of which has number l; a skipped line is not looked at
abbrev pub run : Bytes → Mode → ℕ → Entries → Bytes → List Bytes → Tree
run stem m l es page [] = done page
run stem Skipping l es page (x ∷ xs) = run stem Running (l + 1) es page xs
run stem Running l es page (x ∷ xs) = goes l es page (λ m fs p. run stem m (l + 1) fs p xs) (does stem es page x)
