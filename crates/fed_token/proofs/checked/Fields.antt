-- The check of a reply, by the fields that are asked for.
use Rattle.std.proofs.Common.{◌≡◌, ℕ, Bool, true, false, ◌&&◌, List, [], ◌∷◌, Option, Some, None, Result, Ok, Err, refl, sym, ap, ◌∙◌}
use Rattle.std.proofs.Common.{if◌then◌else◌}
use Rattle.std.specs.Prelude.{codes}
use Rattle.serde_json.specs.Data.{Data}
use Rattle.fed_reply.specs.declared.step.ReplyStep.{ReplyStep}
use Rattle.fed_reply.specs.Parts.{ReplyParts}
use Rattle.fed_reply.specs.Fields.{is_only, values}
use Rattle.fed_reply.specs.Reply.{ReplyOf}
use Rattle.fed_reply.specs.Json.{JsonOf, ReplyJsonWith, json_with}
use Rattle.fed_reply.specs.Steps.{◌>>=◌, and_then, with_ok, with_step}
use Rattle.fed_token.specs.declared.step.TokenStep.{TokenStep}
use Rattle.fed_token.specs.declared.step.TokenStep.TheVariants.{Reply, Cors}
use Rattle.fed_token.specs.Cors.{CorsPasses}
use Rattle.fed_token.specs.Read.{CheckedJsonOf, readable}

-- the fields that are asked for, with their values
abbrev pub allowed : List ℕ → List ℕ → List (List ℕ × List ℕ)
allowed origin word = (codes "access-control-allow-origin", origin) ∷ (codes "access-control-allow-credentials", word) ∷ []

-- the step of a reply that has not all of them
abbrev pub by_fields : Result (Option Data) ReplyStep → Result Data TokenStep
by_fields (Ok (Some value)) = Ok value
by_fields (Ok None) = Err Cors
by_fields (Err step) = Err (Reply step)

found : (r : Result Data ReplyStep) → with_step Reply r ≡ by_fields (with_ok Some r)
found (Ok value) = refl
found (Err step) = refl

by_tests : (a b : Bool) (reply : ReplyParts)
    → ((if a && b then Ok reply else Err Cors) >>= (λ checked. with_step Reply (JsonOf checked)))
    ≡ by_fields (if a && (b && true) then with_ok Some (JsonOf reply) else Ok None)
by_tests true true reply = found (JsonOf reply)
by_tests true false reply = refl
by_tests false b reply = refl

by_reply : (origin : List ℕ) (r : Result ReplyParts ReplyStep)
    → (with_step Reply r >>= (λ reply. readable origin reply >>= (λ checked. with_step Reply (JsonOf checked))))
    ≡ by_fields (and_then (json_with (allowed origin (codes "true"))) r)
unfolding CorsPasses
by_reply origin (Err step) = refl
by_reply origin (Ok reply) =
    by_tests (is_only origin (values (codes "access-control-allow-origin") reply.fields))
    (is_only (codes "true") (values (codes "access-control-allow-credentials") reply.fields)) reply

by_bytes : (raw origin : List ℕ) → CheckedJsonOf raw origin ≡ by_fields (ReplyJsonWith (allowed origin (codes "true")) raw)
unfolding CheckedJsonOf
by_bytes raw origin = by_reply origin (ReplyOf raw)

-- what was read where these fields were asked for
pub checked_is : (raw origin asked word : List ℕ) (r : Result (Option Data) ReplyStep) → asked ≡ origin → word ≡ codes "true"
    → ReplyJsonWith (allowed asked word) raw ≡ r → CheckedJsonOf raw origin ≡ by_fields r
checked_is raw origin asked word r same is read =
    by_bytes raw origin ∙ ap by_fields (ap (λ o. ReplyJsonWith (allowed o (codes "true")) raw) (sym same)
    ∙ (ap (λ t. ReplyJsonWith (allowed asked t) raw) (sym is) ∙ read))
