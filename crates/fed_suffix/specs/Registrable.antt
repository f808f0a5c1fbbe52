-- Registrable domains and parties, over the set of all rules that match a name.
use Rattle.std.specs.Prelude.{ℕ, zero, suc, ◌+◌, Bool, true, false, not, ◌&&◌, ◌||◌, List, [], ◌∷◌, length, take, filter, max, codes}
use Rattle.std.specs.Prelude.{bytes_eq, nat_lt, Option, Some, None, option_map, unwrap_or, if◌then◌else◌}
use Rattle.std.specs.List.{list_any}
use Rattle.std.specs.FinSet as set
use Rattle.fed_origin.specs.declared.host.HostKind.{HostKind}
use Rattle.fed_origin.specs.declared.host.HostKind.TheVariants.{Name, V4, V6}
use Rattle.fed_origin.specs.Host.{host_kind}
use Rattle.fed_suffix.specs.Label.{labels_of, name_of, is_empty}
use Rattle.fed_suffix.specs.Rule.{Rule, RuleSet}

-- a rule's label stands for a label of a name: it is the same, or `*`
abbrev pub stands_for : List ℕ → List ℕ → Bool
stands_for label part = bytes_eq label (codes "*") || bytes_eq label part

-- the labels of a rule stand for those of a name, from the right
abbrev pub stand_for : List (List ℕ) → List (List ℕ) → Bool
stand_for [] name = true
stand_for (label ∷ labels) [] = false
stand_for (label ∷ labels) (part ∷ name) = stands_for label part && stand_for labels name

-- the rule matches the name with these labels
abbrev pub matches : List (List ℕ) → Rule → Bool
matches name rule = stand_for rule.0 name

-- the rule `*`, which always stands
abbrev pub default_rule : Rule
default_rule = (codes "*" ∷ [], false)

-- all rules that match the name with these labels
abbrev pub matching : RuleSet → List (List ℕ) → List Rule
matching rules name = filter (matches name) (default_rule ∷ set.items rules)

abbrev pub exceptions : List Rule → List Rule
exceptions rules = filter (λ rule. rule.1) rules

-- how many labels the longest of the rules has
abbrev pub most_labels : List Rule → ℕ
most_labels [] = 0
most_labels (rule ∷ rules) = max (length rule.0) (most_labels rules)

-- how many labels the suffix has, by how many the longest exception (0: there is none) and the longest rule have
abbrev pub suffix_len_of : ℕ → ℕ → ℕ
suffix_len_of zero rule = rule
suffix_len_of (suc exception) rule = exception

-- an exception prevails over the other rules, and has one label more than the suffix
abbrev pub suffix_len : List Rule → ℕ
suffix_len rules = suffix_len_of (most_labels (exceptions rules)) (most_labels rules)

-- one label more than the suffix, if the name has one and none is empty
abbrev pub registrable_labels : RuleSet → List (List ℕ) → Option (List (List ℕ))
registrable_labels rules name =
    let len = suffix_len (matching rules name) in
    if nat_lt len (length name) && not (list_any is_empty name) then Some (take (len + 1) name) else None

-- by the kind of host: an address has no registrable domain
abbrev pub registrable_of : HostKind → RuleSet → List ℕ → Option (List ℕ)
registrable_of Name rules host = option_map name_of (registrable_labels rules (labels_of host))
registrable_of V4 rules host = None
registrable_of V6 rules host = None

-- the registrable domain of the host with this text, if it has one
unfoldable pub registrable : RuleSet → List ℕ → Option (List ℕ)
registrable rules host = registrable_of (host_kind host) rules host

-- the party of the host with this text: its registrable domain, or else the text itself
unfoldable pub party : RuleSet → List ℕ → List ℕ
party rules host = unwrap_or (registrable rules host) host
