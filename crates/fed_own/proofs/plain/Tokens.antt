-- A token, and an error in its place, are UTF-8.
use Rattle.std.proofs.Common.{ℕ, List, [], Option, Some, None}
use Rattle.std.specs.Prelude.{⊤, codes, unwrap_or, Result, Ok, Err}
use Rattle.std.specs.Str.{IsUtf8}
use Rattle.std.proofs.lemmas.Bool.{cond_both}
use Rattle.std.proofs.lemmas.Str.{IsUtf8-nil}
use Rattle.serde_json.specs.Data.{Data}
use Rattle.fed_reply.specs.declared.member.Member.{Member}
use Rattle.fed_reply.specs.declared.member.Member.TheVariants.{Absent, Is, Wrong}
use Rattle.fed_reply.specs.declared.step.ReplyStep.{ReplyStep}
use Rattle.fed_reply.specs.Json.{JsonOf}
use Rattle.fed_reply.specs.Members.{object_under, text_under}
use Rattle.fed_reply.specs.Parts.{ReplyParts}
use Rattle.fed_reply.specs.Reply.{ReplyOf}
use Rattle.fed_reply.specs.Shape.{present, required}
use Rattle.fed_reply.specs.Steps.{◌>>=◌, with_step}
use Rattle.fed_token.specs.declared.step.TokenStep.{TokenStep}
use Rattle.fed_token.specs.declared.step.TokenStep.TheVariants.{Reply}
use Rattle.fed_token.specs.Cors.{CorsPasses}
use Rattle.fed_token.specs.Read.{AssertionOf, CheckedJsonOf, error_step, readable, token_of}
use Rattle.fed_own.proofs.json.Values.{HasTexts, IfSo}
use Rattle.fed_own.proofs.plain.Good.{GoodStep}
use Rattle.fed_own.proofs.plain.Json.{json_texts, object_is, text_is}
use Rattle.fed_own.proofs.plain.Results.{IfIs, IfOk, present_is}

-- this holds of what is read, and its step is good
abbrev pub Both : {A : Type 0} → (A → Type 0) → Result A TokenStep → Type 0
Both P (Ok a) = P a
Both P (Err step) = GoodStep step

both_then : {A B : Type 0} (P : A → Type 0) (Q : B → Type 0) (r : Result A TokenStep) (f : A → Result B TokenStep) → Both P r
    → ((a : A) → P a → Both Q (f a)) → Both Q (r >>= f)
both_then P Q (Ok a) f h g = g a h
both_then P Q (Err e) f h g = h

replied : {A : Type 0} (P : A → Type 0) (r : Result A ReplyStep) → ((a : A) → P a) → Both P (with_step Reply r)
replied P (Ok a) h = h a
replied P (Err step) h = tt

readable_any : (origin : List ℕ) (reply : ReplyParts) → Both (λ r. ⊤) (readable origin reply)
readable_any origin reply = cond_both (CorsPasses origin reply) _ _ (Both (λ r. ⊤)) (λ t. tt) (λ f. tt)

checked : (reply : ReplyParts) → Both HasTexts (with_step Reply (JsonOf reply))
checked reply = go (JsonOf reply) (json_texts reply)
  where
    go : (r : Result Data ReplyStep) → IfOk HasTexts r → Both HasTexts (with_step Reply r)
    go (Ok d) h = h
    go (Err step) h = tt

checked_json : (raw origin : List ℕ) → Both HasTexts (CheckedJsonOf raw origin)
unfolding CheckedJsonOf
checked_json raw origin =
    both_then (λ r. ⊤) HasTexts (with_step Reply (ReplyOf raw)) _ (replied (λ r. ⊤) (ReplyOf raw) (λ a. tt))
    (λ reply x. both_then (λ r. ⊤) HasTexts (readable origin reply) _ (readable_any origin reply) (λ read y. checked read))

or_empty : (o : Option (List ℕ)) → IfSo IsUtf8 o → IsUtf8 (unwrap_or o [])
or_empty None h = IsUtf8-nil
or_empty (Some text) h = h

error_good : (m : Member Data) → IfIs HasTexts m → GoodStep (error_step m)
error_good Absent h = tt
error_good Wrong h = tt
error_good (Is error) h = (
  or_empty (present (text_under (codes "code") error))
      (present_is IsUtf8 (text_under (codes "code") error) (text_is (codes "code") error h)),
  present_is IsUtf8 (text_under (codes "url") error) (text_is (codes "url") error h),
)

required_both : (step : TokenStep) (m : Member (List ℕ)) → GoodStep step → IfIs IsUtf8 m → Both IsUtf8 (required step m)
required_both step Absent s h = s
required_both step Wrong s h = s
required_both step (Is text) s h = h

token_good : (value : Data) → HasTexts value → Both IsUtf8 (token_of value)
token_good value h =
    required_both (error_step (object_under (codes "error") value)) (text_under (codes "token") value)
    (error_good (object_under (codes "error") value) (object_is (codes "error") value h)) (text_is (codes "token") value h)

pub assertion_good : (raw origin : List ℕ) → Both IsUtf8 (AssertionOf raw origin)
unfolding AssertionOf
assertion_good raw origin = both_then HasTexts IsUtf8 (CheckedJsonOf raw origin) _ (checked_json raw origin) (λ value h. token_good value h)
