use Rattle.std.proofs.Common.{◌≡◌, ◌∙◌, List, [], ◌∷◌, Bool, ◌||◌, refl, ap, bytes_eq, map, rules, tests}
use Rattle.std.specs.List.{list_any}
use Rattle.std.proofs.lemmas.Iterator.{YieldsList-from_slice}
use Rattle.std.proofs.lemmas.Iterator.Search.{any_from_yields_List}
use Rattle.url.specs.Parts.{serialize}
use Rattle.fed_call.proofs.several.is_among.Goals as goal

any_of_map : {A B : Type 0} (f : A → B) (test : B → Bool) (xs : List A) → list_any (λ x. test (f x)) xs ≡ list_any test (map f xs)
any_of_map f test [] = refl
any_of_map f test (x ∷ xs) = ap (λ t. test (f x) || t) (any_of_map f test xs)

pub returns : goal.returns
returns c =
    any_from_yields_List (λ p. bytes_eq c.args.url.now (serialize p.config)) _ _ c.any.result c.any.ensures.ran
    (YieldsList-from_slice c.args.providers.now cc)
    (λ x b q k. search (rules, tests))
    ∙ any_of_map (λ p. serialize p.config) (bytes_eq c.args.url.now) c.args.providers.now
