-- Replies of the assertion and the disconnect endpoints (FedCM).
use Rattle.std.specs.Prelude.{ℕ, List, [], codes, unwrap_or, Result, Ok, Err, ⊤, if◌then◌else◌}
use Rattle.serde_json.specs.Data.{Data}
use Rattle.fed_io.specs.declared.error.Fault.{Fault}
use Rattle.fed_io.specs.declared.error.Fault.TheVariants.{Step, NoRoom}
use Rattle.fed_reply.specs.declared.member.Member.{Member}
use Rattle.fed_reply.specs.declared.member.Member.TheVariants.{Absent, Wrong, Is}
use Rattle.fed_reply.specs.Steps.{◌>>=◌, with_step}
use Rattle.fed_reply.specs.Parts.{ReplyParts}
use Rattle.fed_reply.specs.Reply.{ReplyOf}
use Rattle.fed_reply.specs.Json.{JsonOf}
use Rattle.fed_reply.specs.Members.{text_under, object_under}
use Rattle.fed_reply.specs.Shape.{required, present}
use Rattle.fed_token.specs.declared.step.TokenStep.{TokenStep}
use Rattle.fed_token.specs.declared.step.TokenStep.TheVariants.{Reply, Cors, Shape, ProviderError}
use Rattle.fed_token.specs.Cors.{CorsPasses}

-- a reply that the page of the origin may read
abbrev pub readable : List ℕ → ReplyParts → Result ReplyParts TokenStep
readable origin reply = if CorsPasses origin reply then Ok reply else Err Cors

-- The JSON value of the reply `raw` to a page of the serialized origin, or the first step. The check
-- stands after the reply's framing, and before its status.
unfoldable pub CheckedJsonOf : List ℕ → List ℕ → Result Data TokenStep
CheckedJsonOf raw origin = do
  reply ← with_step Reply (ReplyOf raw)
  checked ← readable origin reply
  with_step Reply (JsonOf checked)

-- the step of a value without a token, by its error
abbrev pub error_step : Member Data → TokenStep
error_step Absent = Shape
error_step Wrong = Shape
error_step (Is error) =
    ProviderError (unwrap_or (present (text_under (codes "code") error)) []) (present (text_under (codes "url") error))

-- the token of a value, and else the step by its error
abbrev pub token_of : Data → Result (List ℕ) TokenStep
token_of value = required (error_step (object_under (codes "error") value)) (text_under (codes "token") value)

-- the account id of a value
abbrev pub account_id_of : Data → Result (List ℕ) TokenStep
account_id_of value = required Shape (text_under (codes "account_id") value)

-- the token in the reply `raw` to a page of the serialized origin, or the first step
unfoldable pub AssertionOf : List ℕ → List ℕ → Result (List ℕ) TokenStep
AssertionOf raw origin = do
  value ← CheckedJsonOf raw origin
  token_of value

-- the account id in the reply `raw` to a page of the serialized origin, or the first step
unfoldable pub DisconnectOf : List ℕ → List ℕ → Result (List ℕ) TokenStep
DisconnectOf raw origin = do
  value ← CheckedJsonOf raw origin
  account_id_of value

-- a step of a disconnect reply: nothing that a provider says in it is an error of its own
abbrev pub IsDisconnectStep : TokenStep → Type 0
IsDisconnectStep (Reply step) = ⊤
IsDisconnectStep Cors = ⊤
IsDisconnectStep Shape = ⊤
IsDisconnectStep (ProviderError code url) = ⊥

-- the same, or there was no memory
abbrev pub IsDisconnectFault : Fault TokenStep → Type 0
IsDisconnectFault (Step step) = IsDisconnectStep step
IsDisconnectFault NoRoom = ⊤
