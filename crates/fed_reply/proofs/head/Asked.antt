-- The fields that are asked for, looked up at their places.
use Rattle.std.proofs.Common.{◌≡◌, ℕ, ◌&&◌, List, [], ◌∷◌, refl, sym, ap, ◌∙◌}
use Rattle.std.specs.Borrow.{Bor}
use Rattle.std.specs.List.{list_all}
use Rattle.http_header.specs.Token.{lowercase}
use Rattle.fed_head.specs.Section.{FieldPair}
use Rattle.fed_reply.specs.Fields.{fields_of, is_only, values, values_in}
use Rattle.fed_reply.specs.Json.{asked, has_each}
use Rattle.fed_reply.proofs.head.Values.{values_found}

pub each_asked : (only : List (Bor (List ℕ) × Bor (List ℕ))) (pairs : List FieldPair)
    → list_all (λ f. is_only f.1.now (values_in (lowercase f.0.now) pairs)) only ≡ has_each (asked only) (fields_of pairs)
each_asked [] pairs = refl
each_asked (f ∷ fs) pairs =
    ap (λ vs. is_only f.1.now vs && list_all (λ g. is_only g.1.now (values_in (lowercase g.0.now) pairs)) fs)
    (sym (values_found (lowercase f.0.now) pairs))
    ∙ ap (λ b. is_only f.1.now (values (lowercase f.0.now) (fields_of pairs)) && b) (each_asked fs pairs)
