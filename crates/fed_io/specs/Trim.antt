-- Bytes without the spaces and tabs at their ends.
use Rattle.std.specs.Prelude.{ℕ, ◌-◌, Bool, ◌||◌, ◌==◌, List, length, take, drop}
use Rattle.std.specs.List.{prefix_len, suffix_len}

-- a space or a tab
abbrev pub is_blank : ℕ → Bool
is_blank b = b == 32 || b == 9

-- without spaces and tabs in front
abbrev pub trimmed_front : List ℕ → List ℕ
trimmed_front bytes = drop (prefix_len is_blank bytes) bytes

-- without spaces and tabs at the end
abbrev pub trimmed_end : List ℕ → List ℕ
trimmed_end bytes = take (length bytes - suffix_len is_blank bytes) bytes

-- without spaces and tabs at both ends
unfoldable pub trimmed : List ℕ → List ℕ
trimmed bytes = trimmed_end (trimmed_front bytes)
