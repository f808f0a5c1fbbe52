-- The lines of a slice, byte for byte.
use Rattle.std.specs.Prelude.{ℕ, Bool, ◌+◌, nat_eq, List, [], ◌∷◌, ◌++◌, if◌then◌else◌}
use Rattle.std.specs.List.{list_any, flat_map}
use Rattle.fed_script.specs.declared.event.Numbered.{Numbered}
use Rattle.fed_script.specs.Script.{Script, lines_of}
use Rattle.fed_slice.specs.Slice.{slice_of}

-- the line of this number is that of one of these events
abbrev pub has_line : List Numbered → ℕ → Bool
has_line events number = list_any (λ n. nat_eq number n.line) events

-- of lines, the first of which has the number n, those whose number is kept
abbrev pub lines_kept : (ℕ → Bool) → ℕ → List (List ℕ) → List (List ℕ)
lines_kept kept n [] = []
lines_kept kept n (line ∷ lines) = if kept n then line ∷ lines_kept kept (n + 1) lines else lines_kept kept (n + 1) lines

-- line 1, and of the others those whose number is kept
abbrev pub with_header : (ℕ → Bool) → List (List ℕ) → List (List ℕ)
with_header kept [] = []
with_header kept (line ∷ lines) = line ∷ lines_kept kept 2 lines

-- each line is followed by LF
abbrev pub text_of : List (List ℕ) → List ℕ
text_of lines = flat_map (λ line. line ++ 10 ∷ []) lines

-- the text of the slice of the script of these bytes by these parties: the header's line, and those of the events of the slice
abbrev pub slice_text : Script → List (List ℕ) → List ℕ → List ℕ
slice_text s parties bytes = text_of (with_header (has_line (slice_of s parties)) (lines_of bytes))
