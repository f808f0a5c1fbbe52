-- The first that differs, one after the other.
use Rattle.std.proofs.Common.{◌≡◌, ℕ, ◌+◌, ◌<◌, Bool, true, false, List, length, drop, get_or, Option, Some, None, refl, sym, ap, ◌∙◌}
use Rattle.std.proofs.Common.{true≢false}
use Rattle.std.specs.Prelude.{is_some}
use Rattle.std.specs.Option.{option_or}
use Rattle.std.proofs.lemmas.List.{at_drop_more}
use Rattle.fed_audit.specs.declared.aspect.Aspect.{Aspect}
use Rattle.fed_audit.specs.declared.differ.Finding.{Finding}
use Rattle.fed_audit.specs.Differ.{first_found}

some_or : (found rest : Option Finding) (b : Bool) → b ≡ is_some found → b ≡ true → found ≡ option_or found rest
some_or (Some f) rest b is on = refl
some_or None rest b is on = absurd (true≢false (sym on ∙ is))

none_or : (found rest : Option Finding) (b : Bool) → b ≡ is_some found → b ≡ false → rest ≡ option_or found rest
none_or (Some f) rest b is off = absurd (true≢false (sym is ∙ off))
none_or None rest b is off = refl

-- what the aspects from this one on come to
from_here : (f : Aspect → Option Finding) (aspects : List Aspect) (i : ℕ) (d : Aspect) (found : Option Finding) → i < length aspects
    → first_found f (drop i aspects) ≡ first_found f aspects → found ≡ f (get_or aspects i d)
    → option_or found (first_found f (drop (i + 1) aspects)) ≡ first_found f aspects
from_here f aspects i d found low same is =
    ap (λ o. option_or o (first_found f (drop (i + 1) aspects))) is ∙ (sym (at_drop_more (first_found f) aspects i d low) ∙ same)

pub first_stops : (f : Aspect → Option Finding) (aspects : List Aspect) (i : ℕ) (d : Aspect) (found : Option Finding) (b : Bool)
    → i < length aspects → first_found f (drop i aspects) ≡ first_found f aspects → found ≡ f (get_or aspects i d)
    → b ≡ is_some found → b ≡ true → found ≡ first_found f aspects
first_stops f aspects i d found b low same is some on =
    some_or found (first_found f (drop (i + 1) aspects)) b some on ∙ from_here f aspects i d found low same is

pub first_goes : (f : Aspect → Option Finding) (aspects : List Aspect) (i : ℕ) (d : Aspect) (found : Option Finding) (b : Bool)
    → i < length aspects → first_found f (drop i aspects) ≡ first_found f aspects → found ≡ f (get_or aspects i d)
    → b ≡ is_some found → b ≡ false → first_found f (drop (i + 1) aspects) ≡ first_found f aspects
first_goes f aspects i d found b low same is some off =
    none_or found (first_found f (drop (i + 1) aspects)) b some off ∙ from_here f aspects i d found low same is
