-- The words of failures and reasons, and what the page sees.
use Rattle.std.specs.Prelude.{ℕ, List, codes}
use Rattle.fed_origin.specs.declared.stage.Endpoint.{Endpoint}
use Rattle.fed_origin.specs.declared.stage.Endpoint.TheVariants as endpoints
use Rattle.fed_reply.specs.declared.step.ReplyStep.{ReplyStep}
use Rattle.fed_reply.specs.declared.step.ReplyStep.TheVariants.{Head, Coding, Length, Chunk, Short, Status, Mime, Json}
use Rattle.fed_consent.specs.declared.table.failure.FailStep.{FailStep}
use Rattle.fed_consent.specs.declared.table.failure.FailStep.TheVariants as steps
use Rattle.fed_consent.specs.declared.table.failure.Detail.{Detail}
use Rattle.fed_consent.specs.declared.table.failure.Detail.TheVariants.{Reply, Member}
use Rattle.fed_consent.specs.declared.table.finish.Finish.{Finish}
use Rattle.fed_consent.specs.declared.table.finish.Finish.TheVariants.{Token, Disconnected, Failed, ProviderError}
use Rattle.fed_consent.specs.declared.table.why.Why.{Why}
use Rattle.fed_consent.specs.declared.table.why.Why.TheVariants.{NoPage, PageInsecure, NoCall, CallEnded, NotWaited, NotOffered, NoAccount}
use Rattle.fed_consent.specs.declared.table.why.Why.TheVariants.{NobodyWaits}

abbrev pub step_text : FailStep → List ℕ
step_text steps.CallPending = codes "call-pending"
step_text steps.ConfigScheme = codes "config-scheme"
step_text steps.NoActivation = codes "no-activation"
step_text steps.NoSite = codes "no-site"
step_text steps.SilentPrevented = codes "silent-prevented"
step_text steps.LoggedOut = codes "logged-out"
step_text steps.WellKnownReply = codes "well-known-reply"
step_text steps.WellKnownShape = codes "well-known-shape"
step_text steps.WellKnownOther = codes "well-known-other"
step_text steps.ConfigReply = codes "config-reply"
step_text steps.ConfigShape = codes "config-shape"
step_text steps.EndpointOrigin = codes "endpoint-origin"
step_text steps.ConfigOther = codes "config-other"
step_text steps.AccountsReply = codes "accounts-reply"
step_text steps.AccountsShape = codes "accounts-shape"
step_text steps.AccountsEmpty = codes "accounts-empty"
step_text steps.AccountsHints = codes "accounts-hints"
step_text steps.SilentNoAccount = codes "silent-no-account"
step_text steps.UserCancelled = codes "user-cancelled"
step_text steps.WindowShut = codes "window-shut"
step_text steps.Aborted = codes "aborted"
step_text steps.ActiveMany = codes "active-many"
step_text steps.ProviderTwice = codes "provider-twice"
step_text steps.AssertionReply = codes "assertion-reply"
step_text steps.AssertionCors = codes "assertion-cors"
step_text steps.AssertionShape = codes "assertion-shape"
step_text steps.NotConnected = codes "not-connected"
step_text steps.NoDisconnect = codes "no-disconnect"
step_text steps.DisconnectReply = codes "disconnect-reply"
step_text steps.DisconnectCors = codes "disconnect-cors"
step_text steps.DisconnectShape = codes "disconnect-shape"

-- the name of the error that the page gets
abbrev pub error_name : FailStep → List ℕ
error_name steps.CallPending = codes "NotAllowedError"
error_name steps.Aborted = codes "AbortError"
error_name _ = codes "NetworkError"

-- what the page sees of the end of a call
abbrev pub seen_of : Finish → List ℕ
seen_of (Token auto provider token) = codes "token"
seen_of Disconnected = codes "disconnected"
seen_of (Failed failure) = error_name failure.step
seen_of (ProviderError code url) = codes "IdentityCredentialError"

abbrev pub reply_step_text : ReplyStep → List ℕ
reply_step_text Head = codes "head"
reply_step_text Coding = codes "coding"
reply_step_text Length = codes "length"
reply_step_text Chunk = codes "chunk"
reply_step_text Short = codes "short"
reply_step_text Status = codes "status"
reply_step_text Mime = codes "mime"
reply_step_text Json = codes "json"

-- the member of a configuration that names the endpoint
abbrev pub endpoint_member : Endpoint → List ℕ
endpoint_member endpoints.Accounts = codes "accounts_endpoint"
endpoint_member endpoints.Assertion = codes "id_assertion_endpoint"
endpoint_member endpoints.Login = codes "login_url"
endpoint_member endpoints.Metadata = codes "client_metadata_endpoint"
endpoint_member endpoints.Disconnect = codes "disconnect_endpoint"

abbrev pub detail_text : Detail → List ℕ
detail_text (Reply step) = reply_step_text step
detail_text (Member endpoint) = endpoint_member endpoint

abbrev pub why_text : Why → List ℕ
why_text NoPage = codes "no-page"
why_text PageInsecure = codes "page-insecure"
why_text NoCall = codes "no-call"
why_text CallEnded = codes "call-ended"
why_text NotWaited = codes "not-waited"
why_text NotOffered = codes "not-offered"
why_text NoAccount = codes "no-account"
why_text NobodyWaits = codes "nobody-waits"
