-- Objects hold no float.
use Rattle.std.proofs.Common.{◌≡◌, ℕ, List, [], ◌∷◌, ◌++◌, Bool, true, false, ◌||◌, Ordering, Less, Equal, Greater, nat_cmp, refl, ap, ◌∙◌}
use Rattle.std.specs.Cmp.Lexicographic.{slice_cmp}
use Rattle.std.specs.Ordering.{match_ordering}
use Rattle.serde_json.specs.Data.{Data, Members, no_members, member, put}
use Rattle.serde_json.specs.View.{view, items_view}
use Rattle.serde_json.specs.Written.{has_float, items_have_float, members_have_float}
use Rattle.serde_json.specs.declared.value.Value.{Value}

both_false : (a b : Bool) → a ≡ false → b ≡ false → (a || b) ≡ false
both_false a b h k = ap (λ x. x || b) h ∙ k

each_false : (a b : Bool) → (a || b) ≡ false → (a ≡ false) × (b ≡ false)
each_false false b h = (refl, h)
each_false true b h = absurd (cc)

one_of_three : (o : Ordering) (a b c : Members) → members_have_float a ≡ false → members_have_float b ≡ false
    → members_have_float c ≡ false
    → members_have_float (match_ordering o a b c) ≡ false
one_of_three Less a b c ha hb hc = ha
one_of_three Equal a b c ha hb hc = hb
one_of_three Greater a b c ha hb hc = hc

-- a value that is put at a name
pub put_has_no_float : (name : List ℕ) (value : Data) (members : Members) → has_float value ≡ false
    → members_have_float members ≡ false
    → members_have_float (put name value members) ≡ false
put_has_no_float name value no_members h hs = both_false (has_float value) false h refl
put_has_no_float name value (member other d members) h hs =
    let each = each_false (has_float d) (members_have_float members) hs in
    one_of_three (slice_cmp nat_cmp name other) _ _ _
    (both_false (has_float value) _ h hs)
    (both_false (has_float value) _ h each.1)
    (both_false (has_float d) _ each.0 (put_has_no_float name value members h each.1))

-- a value that is added to others
pub push_has_no_float : (values : List Value) (value : Value) → items_have_float (items_view values) ≡ false
    → has_float (view value) ≡ false → items_have_float (items_view (values ++ value ∷ [])) ≡ false
push_has_no_float [] value hs h = both_false (has_float (view value)) false h refl
push_has_no_float (first ∷ values) value hs h =
    let each = each_false (has_float (view first)) (items_have_float (items_view values)) hs in
    both_false (has_float (view first)) _ each.0 (push_has_no_float values value each.1 h)
