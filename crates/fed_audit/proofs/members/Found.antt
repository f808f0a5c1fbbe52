-- What is found under names, member by member.
use Rattle.std.proofs.Common.{◌≡◌, ℕ, zero, suc, ◌<◌, Bool, true, false, List, [], ◌∷◌, length, map, get_or}
use Rattle.std.proofs.Common.{refl, sym, ap, subst, ◌∙◌, arith, true≢false, if◌then◌else◌}
use Rattle.std.specs.Prelude.{bytes_eq}
use Rattle.std.proofs.lemmas.Slice.Eq.{bytes_eq-Decides}
use Rattle.serde_json.specs.Data.{Data, Members, no_members, put}
use Rattle.serde_json.specs.Find.{get_member}
use Rattle.serde_json.proofs.Views.{get_member-put, get_member-put_other}
use Rattle.fed_json.specs.declared.reading.Begun.{Begun}
use Rattle.fed_json.specs.Values.{IsBegun}
use Rattle.fed_script.specs.Said.{MayBegin}
use Rattle.fed_audit.specs.declared.said.Asked.{Asked}
use Rattle.fed_audit.specs.Said.{FindNothing, HaveMembers, with_named}

-- under the name of a member that is put there is how it begins
pub found_put : (name k : List ℕ) (first : Begun) (d : Data) (ms : Members) → name ≡ k → IsBegun first d
    → MayBegin first (get_member name (put k d ms))
found_put name k first d ms same begins =
    subst (MayBegin first) (sym (ap (λ n. get_member n (put k d ms)) same ∙ get_member-put k d ms)) begins

-- under another name stands what stood there
pub found_other : (name k : List ℕ) (first : Begun) (d : Data) (ms : Members) → (name ≡ k → ⊥) → MayBegin first (get_member name ms)
    → MayBegin first (get_member name (put k d ms))
found_other name k first d ms other before = subst (MayBegin first) (sym (get_member-put_other name k d ms other)) before

-- one name, by whether it is that of the member
one_more : (name k : List ℕ) (first : Begun) (d : Data) (ms : Members) (a : Asked) (b : Bool) → bytes_eq a.name.now k ≡ b
    → a.name.now ≡ name → IsBegun first d → MayBegin a.found (get_member name ms)
    → MayBegin (if b then record a { found = first } else a).found (get_member name (put k d ms))
one_more name k first d ms a true is same begins before =
    found_put name k first d ms (sym same ∙ (bytes_eq-Decides a.name.now k).0 is) begins
one_more name k first d ms a false is same begins before =
    found_other name k a.found d ms (λ e. true≢false (sym ((bytes_eq-Decides a.name.now k).1 (same ∙ e)) ∙ is)) before

one_name : (first : Begun) (a : Asked) (b : Bool) → (if b then record a { found = first } else a).name ≡ a.name
one_name first a true = refl
one_name first a false = refl

-- one member more
pub found_more : (k : List ℕ) (first : Begun) (d : Data) (ms : Members) (before asked : List Asked) → IsBegun first d
    → HaveMembers before asked ms → HaveMembers before (map (with_named k first) asked) (put k d ms)
found_more k first d ms [] [] begins h = tt
found_more k first d ms (b ∷ before) (a ∷ asked) begins h = (
  one_more b.name.now k first d ms a (bytes_eq a.name.now k) refl (ap (λ n. n.now) h.1) begins h.0,
  one_name first a (bytes_eq a.name.now k) ∙ h.1,
  found_more k first d ms before asked begins h.2,
)
found_more k first d ms [] (a ∷ asked) begins h = absurd h
found_more k first d ms (b ∷ before) [] begins h = absurd h

-- before the first member
pub found_none : (asked : List Asked) → FindNothing asked → HaveMembers asked asked no_members
found_none [] h = tt
found_none (a ∷ asked) h = (h.0, refl, found_none asked h.1)

-- what is found at a place
pub found_at : (k : ℕ) (name : List ℕ) (ms : Members) (before after : List Asked) (b a : Asked) → k < length before
    → HaveMembers before after ms → (get_or before k b).name.now ≡ name → MayBegin (get_or after k a).found (get_member name ms)
found_at k name ms [] after b a inside h is = absurd (omega (arith, inside))
found_at zero name ms (x ∷ before) (y ∷ after) b a inside h is =
    subst (λ (n : List ℕ). MayBegin y.found (get_member n ms)) is h.0
found_at (suc k) name ms (x ∷ before) (y ∷ after) b a inside h is =
    found_at k name ms before after b a (omega (arith, inside)) h.2 is
found_at k name ms (x ∷ before) [] b a inside h is = absurd h
