-- A registrable domain is ASCII where its host is.
use Rattle.std.proofs.Common.{◌≡◌, ℕ, ◌+◌, Bool, true, false, not, ◌&&◌, List, [], ◌∷◌, ◌++◌, length, take, drop}
use Rattle.std.proofs.Common.{reverse, Some, None}
use Rattle.std.proofs.Common.{option_map, refl, sym, ap, subst, ◌∙◌, rules, if◌then◌else◌}
use Rattle.std.specs.Prelude.{IsAscii, nat_lt}
use Rattle.std.specs.List.{list_all, list_any, slice_split, join_with_byte}
use Rattle.std.proofs.lemmas.List.{reverse-reverse, reverse-append, take-append-drop}
use Rattle.std.proofs.lemmas.List.Folds.{list_all-append}
use Rattle.std.proofs.lemmas.List.Sums.{list_all-from_AllPass, AllPass-from_list_all}
use Rattle.std.proofs.lemmas.List.Splits.{join_with_byte-slice_split}
use Rattle.std.proofs.lemmas.Str.Ascii.{IsAscii-from_all, All-from_ascii}
use Rattle.fed_origin.specs.declared.host.HostKind.{HostKind}
use Rattle.fed_origin.specs.declared.host.HostKind.TheVariants.{Name, V4, V6}
use Rattle.fed_origin.specs.Host.{host_kind}
use Rattle.fed_suffix.specs.Label.{is_dot, labels_of, name_of, is_empty}
use Rattle.fed_suffix.specs.Rule.{RuleSet}
use Rattle.fed_suffix.specs.Registrable.{registrable, registrable_of, suffix_len, matching}

and_right : (a b : Bool) → (a && b) ≡ true → b ≡ true
and_right true b e = e
and_right false b e = absurd (grind rules)

abbrev is_low : ℕ → Bool
is_low b = nat_lt b 128

-- the last labels of a name whose bytes are all low
last_labels : (xs ys : List (List ℕ)) → list_all is_low (join_with_byte 46 (xs ++ ys)) ≡ true
    → list_all is_low (join_with_byte 46 ys) ≡ true
last_labels [] ys e = e
last_labels (x ∷ []) [] e = refl
last_labels (x ∷ []) (y ∷ ys) e =
    and_right (is_low 46) _ (and_right (list_all is_low x) _ (sym (list_all-append is_low x (46 ∷ join_with_byte 46 (y ∷ ys))) ∙ e))
last_labels (x ∷ z ∷ xs) ys e =
    last_labels (z ∷ xs) ys (and_right (is_low 46) _
    (and_right (list_all is_low x) _ (sym (list_all-append is_low x (46 ∷ join_with_byte 46 ((z ∷ xs) ++ ys))) ∙ e)))

divided : (n : ℕ) (host : List ℕ) → slice_split is_dot host ≡ reverse (drop n (labels_of host)) ++ reverse (take n (labels_of host))
divided n host =
    sym (reverse-reverse (slice_split is_dot host))
    ∙ (ap reverse (sym (take-append-drop n (labels_of host))) ∙ reverse-append (take n (labels_of host)) (drop n (labels_of host)))

low_labels : (n : ℕ) (host : List ℕ) → list_all is_low host ≡ true → list_all is_low (name_of (take n (labels_of host))) ≡ true
low_labels n host low =
    last_labels (reverse (drop n (labels_of host))) (reverse (take n (labels_of host)))
    (ap (λ ls. list_all is_low (join_with_byte 46 ls)) (sym (divided n host))
    ∙ (ap (list_all is_low) (join_with_byte-slice_split 46 host) ∙ low))

ascii_by : (bytes : List ℕ) → list_all is_low bytes ≡ true → IsAscii bytes
ascii_by bytes low = IsAscii-from_all bytes (λ k d inside. let t = AllPass-from_list_all is_low bytes low k d inside in search (rules, t))

low_by : (bytes : List ℕ) → IsAscii bytes → list_all is_low bytes ≡ true
low_by bytes ascii = list_all-from_AllPass is_low bytes (λ k d inside. let t = All-from_ascii bytes ascii k d inside in search (rules, t))

-- what is chosen by a test
chosen : (t : Bool) (labels : List (List ℕ)) (site : List ℕ) → Some site ≡ option_map name_of (if t then Some labels else None)
    → site ≡ name_of labels
chosen true labels site e = grind rules
chosen false labels site e = absurd (grind rules)

ascii_of : (kind : HostKind) (rules : RuleSet) (host site : List ℕ) → IsAscii host → Some site ≡ registrable_of kind rules host
    → IsAscii site
ascii_of Name suffixes host site ascii e =
    let n = suffix_len (matching suffixes (labels_of host)) + 1 in
    let k : site ≡ name_of (take n (labels_of host)) =
    chosen (nat_lt (suffix_len (matching suffixes (labels_of host))) (length (labels_of host))
    && not (list_any is_empty (labels_of host))) (take n (labels_of host)) site e in
    subst IsAscii (sym k) (ascii_by _ (low_labels n host (low_by host ascii)))
ascii_of V4 suffixes host site ascii e = absurd (grind rules)
ascii_of V6 suffixes host site ascii e = absurd (grind rules)

pub site_is_ascii : (suffixes : RuleSet) (host site : List ℕ) → IsAscii host → Some site ≡ registrable suffixes host → IsAscii site
unfolding registrable
site_is_ascii suffixes host site ascii e = ascii_of (host_kind host) suffixes host site ascii e
