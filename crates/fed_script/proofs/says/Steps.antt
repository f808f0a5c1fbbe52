-- What is said of members, one after another.
use Rattle.std.proofs.Common.{◌≡◌, ◌≢◌, ℕ, List, Option, Some, None, get_or, ◌⊎◌, inl, inr, refl, sym, ap, ◌∙◌, arith}
use Rattle.serde_json.specs.Data.{Data, object, Members, no_members, put}
use Rattle.std.proofs.lemmas.Bool.Decides.{eqb_tells}
use Rattle.serde_json.specs.Find.{get_member}
use Rattle.serde_json.proofs.Views.{get_member-put, get_member-put_other}
use Rattle.fed_json.specs.declared.reading.Begun.{Begun}
use Rattle.fed_json.specs.declared.reading.Begun.TheVariants.{Null}
use Rattle.fed_json.specs.Values.{IsBegun}
use Rattle.fed_script.specs.declared.cause.MemberName.{MemberName}
use Rattle.fed_script.specs.declared.cause.MemberName.TheVariants as names
use Rattle.fed_script.specs.declared.said.Said.{Said}
use Rattle.fed_script.specs.Cause.{name_text}
use Rattle.fed_script.specs.Said.{named, place, under, MayBegin, Says}
use Rattle.fed_script.proofs.says.Names.{by_place, at_place, named-text, name-named, name-apart}

-- the value of a name may begin so, where both are these
begins_as : (a b : Begun) (o p : Option Data) → a ≡ b → o ≡ p → MayBegin b p → MayBegin a o
begins_as a b o p same found h = rw (same, found) h

-- one name is another or is not
one_or_other : (other name : MemberName) → (other ≡ name) ⊎ (other ≢ name)
one_or_other other name =
    elim (eqb_tells (place other) (place name)) [
      | inl is ↦ inl (sym (at_place other) ∙ ap (λ n. get_or by_place n names.Do) is.1 ∙ at_place name)
      | inr apart ↦ inr (λ same. apart.1 (ap place same))
    ]

noted_under : (old new : Said) (name other : MemberName) (first : Begun) (found : Members) (k : List ℕ) (d : Data)
    → k ≡ name_text name → under name new ≡ first → ((x : MemberName) → x ≢ name → under x new ≡ under x old) → IsBegun first d
    → MayBegin (under other old) (get_member (name_text other) found)
    → (other ≡ name) ⊎ (other ≢ name)
    → MayBegin (under other new) (get_member (name_text other) (put k d found))
noted_under old new name other first found k d is one others begun before (inl same) =
    begins_as (under other new) first (get_member (name_text other) (put k d found)) (Some d) (ap (λ x. under x new) same ∙ one)
    (ap (λ x. get_member x (put k d found)) (ap name_text same ∙ sym is) ∙ get_member-put k d found) begun
noted_under old new name other first found k d is one others begun before (inr apart) =
    begins_as (under other new) (under other old) (get_member (name_text other) (put k d found)) (get_member (name_text other) found)
    (others other apart)
    (get_member-put_other (name_text other) k d found (λ same. name-apart other name apart (same ∙ is))) before

-- what was said is said with a member of a name
pub says-noted : (old new : Said) (name : MemberName) (first : Begun) (k : List ℕ) → named k ≡ Some name → under name new ≡ first
    → ((x : MemberName) → x ≢ name → under x new ≡ under x old)
    → (found : Members) (d : Data) → IsBegun first d → Says old (object found) → Says new (object (put k d found))
says-noted old new name first k is one others found d begun before other =
    noted_under old new name other first found k d (named-text name k is) one others begun (before other) (one_or_other other name)

-- a member of another name says nothing
pub says-passed : (s : Said) (k : List ℕ) → named k ≡ None → (found : Members) (d : Data) → Says s (object found)
    → Says s (object (put k d found))
says-passed s k none found d before other =
    begins_as (under other s) (under other s) (get_member (name_text other) (put k d found)) (get_member (name_text other) found) refl
    (get_member-put_other (name_text other) k d found
    (λ same. let e = sym (name-named other) ∙ ap named same ∙ none in grind (arith, e))) (before other)

-- where no value was noted, no member was read
pub says-nothing : (s : Said) → ((name : MemberName) → under name s ≡ Null) → Says s (object no_members)
says-nothing s none name = none name
