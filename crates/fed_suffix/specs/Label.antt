-- The labels of names and of rules.
use Rattle.std.specs.Prelude.{◌≡◌, ℕ, Bool, true, false, not, ◌&&◌, ◌==◌, List, [], ◌∷◌, ◌++◌, length, reverse, nat_lt}
use Rattle.std.specs.Prelude.{Option, Some, None, option_map, option_and_then, if◌then◌else◌}
use Rattle.std.specs.List.{list_any, slice_split, join_with_byte}
use Rattle.idna.specs.declared.deny_list.TheConstants.AsciiDenyList.{URL}
use Rattle.idna.specs.Uts46.{domain_to_ascii}

abbrev pub is_dot : ℕ → Bool
is_dot b = b == 46

-- the labels of a name, from the right
abbrev pub labels_of : List ℕ → List (List ℕ)
labels_of name = reverse (slice_split is_dot name)

-- the labels of what may stand before a dot
abbrev pub labels_before : Option (List ℕ) → List (List ℕ)
labels_before None = []
labels_before (Some name) = labels_of name

-- a label, after what may stand before it and a dot
abbrev pub joined : Option (List ℕ) → List ℕ → List ℕ
joined None label = label
joined (Some before) label = before ++ (46 ∷ label)

-- the labels of a rule, by its text: they stand in it from the right, with dots between them
abbrev pub labels_in : List ℕ → List (List ℕ)
labels_in text = slice_split is_dot text

-- the labels of what may stand behind a dot
abbrev pub labels_after : Option (List ℕ) → List (List ℕ)
labels_after None = []
labels_after (Some text) = labels_in text

-- the name of these labels, which are given from the right
abbrev pub name_of : List (List ℕ) → List ℕ
name_of labels = join_with_byte 46 (reverse labels)

abbrev pub is_empty : List ℕ → Bool
is_empty text = length text == 0

-- there are bytes, and none is a dot
abbrev pub is_label : List ℕ → Bool
is_label text = nat_lt 0 (length text) && not (list_any is_dot text)

-- a label of a rule in ASCII form (UTS 46 with the deny list of URLs), if it has one; that of `*` is `*`
abbrev pub ascii_label : List ℕ → Option (List ℕ)
ascii_label label = option_and_then (λ ascii. if is_label ascii then Some ascii else None) (domain_to_ascii URL label)

-- all labels in ASCII form, if each has one
abbrev pub ascii_labels : List (List ℕ) → Option (List (List ℕ))
ascii_labels [] = Some []
ascii_labels (label ∷ labels) =
    option_and_then (λ ascii. option_map (λ more. ascii ∷ more) (ascii_labels labels)) (ascii_label label)

-- for private clauses: the label in ASCII form was added to a text, or it has none
abbrev pub AddsLabel : List ℕ → List ℕ → List ℕ → Bool → Type 0
AddsLabel label old new true = (ascii : List ℕ) × (ascii_label label ≡ Some ascii) × (new ≡ old ++ ascii)
AddsLabel label old new false = ascii_label label ≡ None
