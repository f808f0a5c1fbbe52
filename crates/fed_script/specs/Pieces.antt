-- Bytes that come in pieces: the lines that end in them, and what is left after those.
use Rattle.std.specs.Prelude.{ℕ, ◌==◌, List, [], ◌∷◌, if◌then◌else◌}

-- a byte in front of the first of some lines
abbrev pub onto_whole : ℕ → List (List ℕ) → List (List ℕ)
onto_whole b [] = []
onto_whole b (line ∷ lines) = (b ∷ line) ∷ lines

-- the lines of bytes that end there with LF
abbrev pub whole_lines : List ℕ → List (List ℕ)
whole_lines [] = []
whole_lines (b ∷ bytes) = if b == 10 then [] ∷ whole_lines bytes else onto_whole b (whole_lines bytes)

-- a byte in front of what is left, unless a line ends between them
abbrev pub onto_rest : ℕ → List (List ℕ) → List ℕ → List ℕ
onto_rest b [] rest = b ∷ rest
onto_rest b (line ∷ lines) rest = rest

-- the bytes after the last LF
abbrev pub rest_of : List ℕ → List ℕ
rest_of [] = []
rest_of (b ∷ bytes) = if b == 10 then rest_of bytes else onto_rest b (whole_lines bytes) (rest_of bytes)
