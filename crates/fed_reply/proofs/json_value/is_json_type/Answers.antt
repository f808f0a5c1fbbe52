use Rattle.std.proofs.Common.{◌≡◌, true, refl, sym, ap, ◌∙◌, rules}
use Rattle.std.specs.Prelude.{codes}
use Rattle.std.specs.Option.{option_copied}
use Rattle.httparse.specs.Grammar.{trim_ows, is_token_byte}
use Rattle.fed_reply.specs.Json.{is_json_media, is_json_type, essence}
use Rattle.fed_reply.proofs.json_value.is_json_type.Goals as goal

-- the media type that most replies write names JSON
plain : is_json_media (essence (codes "application/json")) ≡ true
unfolding is_json_media trim_ows is_token_byte
plain = refl

pub returns-then-eq : goal.returns-then-eq
returns-then-eq c =
    let same : c.in-Some.value.now ≡ codes "application/json" = search rules in
    c.if-eq.true ∙ (sym plain ∙ (ap (λ v. is_json_media (essence v)) (sym same)
    ∙ ap (λ o. is_json_type (option_copied o)) (sym c.in-Some.is)))
