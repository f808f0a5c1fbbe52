-- The words of the profile are ASCII.
use Rattle.std.proofs.Common.{◌≡◌, false, true, refl, Some}
use Rattle.std.specs.Prelude.{bytes_eq, codes}
use Rattle.json.proofs.Printed.Utf8.{are_ascii}
use Rattle.fed_origin.specs.declared.options.Context.{Context}
use Rattle.fed_origin.specs.declared.options.Context.TheVariants as contexts
use Rattle.fed_origin.specs.declared.stage.Endpoint.{Endpoint}
use Rattle.fed_origin.specs.declared.stage.Endpoint.TheVariants as endpoints
use Rattle.fed_origin.specs.declared.stage.ReplyKind.{ReplyKind}
use Rattle.fed_origin.specs.declared.stage.ReplyKind.TheVariants as kinds
use Rattle.fed_origin.specs.Words.{context_text, kind_of_word, kind_text}
use Rattle.fed_reply.specs.declared.step.ReplyStep.{ReplyStep}
use Rattle.fed_reply.specs.declared.step.ReplyStep.TheVariants as replies
use Rattle.fed_consent.specs.declared.table.failure.Detail.{Detail}
use Rattle.fed_consent.specs.declared.table.failure.Detail.TheVariants.{Reply, Member}
use Rattle.fed_consent.specs.declared.table.failure.FailStep.{FailStep}
use Rattle.fed_consent.specs.declared.table.failure.FailStep.TheVariants as steps
use Rattle.fed_consent.specs.declared.table.why.Why.{Why}
use Rattle.fed_consent.specs.declared.table.why.Why.TheVariants as whys
use Rattle.fed_consent.specs.Words.{detail_text, endpoint_member, error_name, reply_step_text, step_text, why_text}

pub step_ascii : (x : FailStep) → are_ascii (step_text x) ≡ true
step_ascii steps.CallPending = refl
step_ascii steps.ConfigScheme = refl
step_ascii steps.NoActivation = refl
step_ascii steps.NoSite = refl
step_ascii steps.SilentPrevented = refl
step_ascii steps.LoggedOut = refl
step_ascii steps.WellKnownReply = refl
step_ascii steps.WellKnownShape = refl
step_ascii steps.WellKnownOther = refl
step_ascii steps.ConfigReply = refl
step_ascii steps.ConfigShape = refl
step_ascii steps.EndpointOrigin = refl
step_ascii steps.ConfigOther = refl
step_ascii steps.AccountsReply = refl
step_ascii steps.AccountsShape = refl
step_ascii steps.AccountsEmpty = refl
step_ascii steps.AccountsHints = refl
step_ascii steps.SilentNoAccount = refl
step_ascii steps.UserCancelled = refl
step_ascii steps.WindowShut = refl
step_ascii steps.Aborted = refl
step_ascii steps.ActiveMany = refl
step_ascii steps.ProviderTwice = refl
step_ascii steps.AssertionReply = refl
step_ascii steps.AssertionCors = refl
step_ascii steps.AssertionShape = refl
step_ascii steps.NotConnected = refl
step_ascii steps.NoDisconnect = refl
step_ascii steps.DisconnectReply = refl
step_ascii steps.DisconnectCors = refl
step_ascii steps.DisconnectShape = refl

pub error_ascii : (x : FailStep) → are_ascii (error_name x) ≡ true
error_ascii steps.CallPending = refl
error_ascii steps.ConfigScheme = refl
error_ascii steps.NoActivation = refl
error_ascii steps.NoSite = refl
error_ascii steps.SilentPrevented = refl
error_ascii steps.LoggedOut = refl
error_ascii steps.WellKnownReply = refl
error_ascii steps.WellKnownShape = refl
error_ascii steps.WellKnownOther = refl
error_ascii steps.ConfigReply = refl
error_ascii steps.ConfigShape = refl
error_ascii steps.EndpointOrigin = refl
error_ascii steps.ConfigOther = refl
error_ascii steps.AccountsReply = refl
error_ascii steps.AccountsShape = refl
error_ascii steps.AccountsEmpty = refl
error_ascii steps.AccountsHints = refl
error_ascii steps.SilentNoAccount = refl
error_ascii steps.UserCancelled = refl
error_ascii steps.WindowShut = refl
error_ascii steps.Aborted = refl
error_ascii steps.ActiveMany = refl
error_ascii steps.ProviderTwice = refl
error_ascii steps.AssertionReply = refl
error_ascii steps.AssertionCors = refl
error_ascii steps.AssertionShape = refl
error_ascii steps.NotConnected = refl
error_ascii steps.NoDisconnect = refl
error_ascii steps.DisconnectReply = refl
error_ascii steps.DisconnectCors = refl
error_ascii steps.DisconnectShape = refl

-- an error's name is not the word of a token
pub error_no_token : (x : FailStep) → bytes_eq (error_name x) (codes "token") ≡ false
error_no_token steps.CallPending = refl
error_no_token steps.ConfigScheme = refl
error_no_token steps.NoActivation = refl
error_no_token steps.NoSite = refl
error_no_token steps.SilentPrevented = refl
error_no_token steps.LoggedOut = refl
error_no_token steps.WellKnownReply = refl
error_no_token steps.WellKnownShape = refl
error_no_token steps.WellKnownOther = refl
error_no_token steps.ConfigReply = refl
error_no_token steps.ConfigShape = refl
error_no_token steps.EndpointOrigin = refl
error_no_token steps.ConfigOther = refl
error_no_token steps.AccountsReply = refl
error_no_token steps.AccountsShape = refl
error_no_token steps.AccountsEmpty = refl
error_no_token steps.AccountsHints = refl
error_no_token steps.SilentNoAccount = refl
error_no_token steps.UserCancelled = refl
error_no_token steps.WindowShut = refl
error_no_token steps.Aborted = refl
error_no_token steps.ActiveMany = refl
error_no_token steps.ProviderTwice = refl
error_no_token steps.AssertionReply = refl
error_no_token steps.AssertionCors = refl
error_no_token steps.AssertionShape = refl
error_no_token steps.NotConnected = refl
error_no_token steps.NoDisconnect = refl
error_no_token steps.DisconnectReply = refl
error_no_token steps.DisconnectCors = refl
error_no_token steps.DisconnectShape = refl

pub reply_ascii : (x : ReplyStep) → are_ascii (reply_step_text x) ≡ true
reply_ascii replies.Head = refl
reply_ascii replies.Coding = refl
reply_ascii replies.Length = refl
reply_ascii replies.Chunk = refl
reply_ascii replies.Short = refl
reply_ascii replies.Status = refl
reply_ascii replies.Mime = refl
reply_ascii replies.Json = refl

pub endpoint_ascii : (x : Endpoint) → are_ascii (endpoint_member x) ≡ true
endpoint_ascii endpoints.Accounts = refl
endpoint_ascii endpoints.Assertion = refl
endpoint_ascii endpoints.Login = refl
endpoint_ascii endpoints.Metadata = refl
endpoint_ascii endpoints.Disconnect = refl

pub detail_ascii : (x : Detail) → are_ascii (detail_text x) ≡ true
detail_ascii (Reply step) = reply_ascii step
detail_ascii (Member endpoint) = endpoint_ascii endpoint

pub why_ascii : (x : Why) → are_ascii (why_text x) ≡ true
why_ascii whys.NoPage = refl
why_ascii whys.PageInsecure = refl
why_ascii whys.NoCall = refl
why_ascii whys.CallEnded = refl
why_ascii whys.NotWaited = refl
why_ascii whys.NotOffered = refl
why_ascii whys.NoAccount = refl
why_ascii whys.NobodyWaits = refl

pub context_ascii : (x : Context) → are_ascii (context_text x) ≡ true
context_ascii contexts.SignIn = refl
context_ascii contexts.SignUp = refl
context_ascii contexts.UseHere = refl
context_ascii contexts.GoOn = refl

pub kind_ascii : (x : ReplyKind) → are_ascii (kind_text x) ≡ true
kind_ascii kinds.WellKnown = refl
kind_ascii kinds.Config = refl
kind_ascii kinds.Accounts = refl
kind_ascii kinds.Metadata = refl
kind_ascii kinds.Assertion = refl
kind_ascii kinds.Disconnect = refl

-- the word of a kind stands for it
pub kind_back : (x : ReplyKind) → kind_of_word (kind_text x) ≡ Some x
kind_back kinds.WellKnown = refl
kind_back kinds.Config = refl
kind_back kinds.Accounts = refl
kind_back kinds.Metadata = refl
kind_back kinds.Assertion = refl
kind_back kinds.Disconnect = refl
