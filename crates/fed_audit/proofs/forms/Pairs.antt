-- The values of a name among the pairs of a form, pair after pair.
use Rattle.std.proofs.Common.{◌≡◌, ℕ, true, false, List, [], ◌∷◌, Option, Some, None, sym, ap, subst, ◌∙◌, cond}
use Rattle.std.specs.Prelude.{bytes_eq, MatchOption}
use Rattle.fed_audit.specs.Consent.{form_text, values_among}

pub none_among : (name : List ℕ) (left : List (List ℕ × List ℕ)) → left ≡ [] → values_among name left ≡ []
unfolding values_among
none_among name left is = ap (values_among name) is

pub first_among : (name n v key value : List ℕ) (left rest : List (List ℕ × List ℕ)) → left ≡ (n, v) ∷ rest
    → key ≡ form_text n → value ≡ form_text v → bytes_eq key name ≡ true
    → values_among name left ≡ value ∷ values_among name rest
unfolding values_among
first_among name n v key value left rest is key_is value_is named =
    ap (values_among name) is
    ∙ ap (λ b. cond b (form_text v ∷ values_among name rest) (values_among name rest)) (ap (λ k. bytes_eq k name) (sym key_is) ∙ named)
    ∙ ap (λ x. x ∷ values_among name rest) (sym value_is)

pub other_among : (name n v key : List ℕ) (left rest : List (List ℕ × List ℕ)) → left ≡ (n, v) ∷ rest
    → key ≡ form_text n → bytes_eq key name ≡ false
    → values_among name left ≡ values_among name rest
unfolding values_among
other_among name n v key left rest is key_is named =
    ap (values_among name) is
    ∙ ap (λ b. cond b (form_text v ∷ values_among name rest) (values_among name rest)) (ap (λ k. bytes_eq k name) (sym key_is) ∙ named)

-- ---- cases

pub some_case : {X : Type 0} (P : Type 0) (Q : X → Type 0) (o : Option X) (x : X) → MatchOption o P Q → o ≡ Some x → Q x
some_case P Q o x h is = subst (λ o. MatchOption o P Q) is h

pub none_case : {X : Type 0} (P : Type 0) (Q : X → Type 0) (o : Option X) → MatchOption o P Q → o ≡ None → P
none_case P Q o h is = subst (λ o. MatchOption o P Q) is h
