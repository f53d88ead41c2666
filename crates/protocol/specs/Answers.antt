-- What an answer prints: one line.
use Rattle.std.specs.Prelude.{ℕ, [], ◌∷◌, ◌++◌, map, codes, decimal}
use Rattle.std.specs.List.{flat_map}
use Rattle.names.specs.Names.{Bytes}
use Rattle.faults.specs.Trails.{Steps, steps, frame_text}
use Rattle.protocol.specs.Substitutes.{newline, bar, replaced}
use Rattle.protocol.specs.declared.answer.Answer.{Answer}
use Rattle.protocol.specs.declared.answer.Answer.TheVariants.{Done, Counts, Page, No}

-- a page in one line: `|` for each byte 10
abbrev pub page_text : Bytes → Bytes
page_text page = map (replaced newline bar) page

-- a trail, innermost first: each open target and its line, behind a blank
abbrev pub trail_text : Steps → Bytes
trail_text trail = flat_map (λ f. 32 ∷ frame_text f) trail

-- a refusal: its number, and the trail behind it
abbrev pub refusal_text : ℕ → Steps → Bytes
refusal_text number trail = codes "no " ++ (decimal number ++ trail_text trail)

-- the answer without the byte 10 that ends its line
abbrev pub answer_text : Answer → Bytes
answer_text Done = codes "ok"
answer_text (Counts changed same) = codes "ok " ++ (decimal changed ++ (32 ∷ decimal same))
answer_text (Page page) = codes "page " ++ page_text page.now
answer_text (No number trail) = refusal_text number (steps trail.now)

abbrev pub answer_line : Answer → Bytes
answer_line a = answer_text a ++ (newline ∷ [])
