-- What is read of the object of a record is what the record says.
use Rattle.std.proofs.Common.{◌≡◌, ℕ, zero, suc, ◌^◌, ◌<◌, Bool, true, false, nat_lt, cond, List, [], ◌∷◌, Option, Some, None, refl, ap}
use Rattle.std.proofs.Common.{◌∙◌, arith}
use Rattle.std.proofs.lemmas.Bool.Decides.{nat_tests}
use Rattle.std.specs.Prelude.{codes, option_and_then}
use Rattle.std.specs.List.{AllByRecursion, list_all}
use Rattle.std.specs.Result.{result_ok}
use Rattle.base64.specs.Engines.{standard}
use Rattle.base64.specs.GeneralPurpose.{IsBytes, encode_of}
use Rattle.base64.proofs.EngineFacts.{decode_of-encode_of}
use Rattle.serde_json.specs.Data.{Data, object}
use Rattle.fed_origin.specs.declared.options.Context.{Context}
use Rattle.fed_origin.specs.declared.stage.ReplyKind.{ReplyKind}
use Rattle.fed_origin.specs.Words.{kind_of_word, kind_text}
use Rattle.fed_consent.specs.declared.table.dialog.Dialog.{Dialog}
use Rattle.fed_consent.specs.declared.table.dialog.Dialog.TheVariants.{Choose, Prompt, Mismatch}
use Rattle.fed_consent.specs.declared.table.dialog.Shown.{Shown}
use Rattle.fed_consent.specs.declared.table.failure.Detail.{Detail}
use Rattle.fed_consent.specs.declared.table.failure.FailStep.{FailStep}
use Rattle.fed_consent.specs.declared.table.finish.Finish.{Finish}
use Rattle.fed_consent.specs.declared.table.finish.Finish.TheVariants.{Token, Disconnected, Failed, ProviderError}
use Rattle.fed_print.specs.Answers.{answer_members, failed_members, provider_error_members}
use Rattle.fed_print.specs.Dialogs.{dialog_members, mismatch_members, prompt_members}
use Rattle.fed_print.specs.Records.{bytes_member, dropped_members, record_members, request_members}
use Rattle.fed_script.specs.Member.{small}
use Rattle.fed_trace.specs.declared.out.Out.{Out}
use Rattle.fed_trace.specs.declared.out.Out.TheVariants as outs
use Rattle.fed_audit.specs.declared.record.Record.{Record}
use Rattle.fed_audit.specs.declared.record.Record.TheVariants as says
use Rattle.fed_audit.specs.Record.{answer_of, base64_bytes, named, only_of, text_at, token_of}
use Rattle.fed_own.specs.Line.{IsSaid, end_members}
use Rattle.fed_own.specs.Own.{said_of}
use Rattle.fed_own.proofs.lines.Words.{error_no_token, kind_back}

-- what is read of a value
abbrev pub record_in : Data → Option Record
record_in d = option_and_then (λ out. named out d) (text_at (codes "out") d)

small_is : (n : ℕ) → n < 2 ^ 32 → small n ≡ Some n
small_is n h = ap (λ b. cond b (Some n) None) (fits n h)
  where
    fits : (n : ℕ) → n < 2 ^ 32 → nat_lt n (2 ^ 32) ≡ true
    fits n h = grind (arith, nat_tests, h)

-- ---- requests

-- a request by its parts
abbrev request_from : Option ℕ → Option ℕ → Option ℕ → Option ReplyKind → Option (List ℕ) → Option Record
request_from line call provider kind bytes =
    option_and_then (λ l. option_and_then (λ c. option_and_then
    (λ p. option_and_then (λ k. option_and_then (λ b. Some (says.Request l c p k b))
    bytes) kind) provider) call) line

request_is : (line call provider : ℕ) (kind : ReplyKind) (bytes : List ℕ) (found : Option (List ℕ)) → line < 2 ^ 32 → call < 2 ^ 32
    → provider < 2 ^ 32 → found ≡ Some bytes
    → request_from (small line) (small call) (small provider) (kind_of_word (kind_text kind)) found
    ≡ Some (says.Request line call provider kind bytes)
request_is line call provider kind bytes found l c p is =
    ap (λ x. request_from x (small call) (small provider) (kind_of_word (kind_text kind)) found) (small_is line l)
    ∙ (ap (λ x. request_from (Some line) x (small provider) (kind_of_word (kind_text kind)) found) (small_is call c)
    ∙ (ap (λ x. request_from (Some line) (Some call) x (kind_of_word (kind_text kind)) found) (small_is provider p)
    ∙ (ap (λ x. request_from (Some line) (Some call) (Some provider) x found) (kind_back kind)
    ∙ ap (request_from (Some line) (Some call) (Some provider) (Some kind)) is)))

are_bytes : (bytes : List ℕ) → AllByRecursion (λ b. b < 2 ^ 8) bytes → IsBytes bytes
are_bytes [] h i = omega arith
are_bytes (b ∷ bytes) h zero = let low = h.0 in omega (arith, low)
are_bytes (b ∷ bytes) h (suc i) = are_bytes bytes h.1 i

decoded : (bytes : List ℕ) → AllByRecursion (λ b. b < 2 ^ 8) bytes → base64_bytes (encode_of standard bytes) ≡ Some bytes
unfolding base64_bytes
decoded bytes h = ap result_ok (decode_of-encode_of standard bytes refl (are_bytes bytes h))

request_read : (line call provider : ℕ) (kind : ReplyKind) (bytes : List ℕ) → line < 2 ^ 32 → call < 2 ^ 32 → provider < 2 ^ 32
    → AllByRecursion (λ b. b < 2 ^ 8) bytes → (ascii : Bool)
    → record_in (object (request_members line call provider kind (bytes_member (cond ascii (Some bytes) None) bytes)))
    ≡ Some (says.Request line call provider kind bytes)
request_read line call provider kind bytes l c p are true = request_is line call provider kind bytes (Some bytes) l c p refl
request_read line call provider kind bytes l c p are false =
    request_is line call provider kind bytes (only_of None (base64_bytes (encode_of standard bytes))) l c p
    (ap (only_of None) (decoded bytes are))

-- ---- results

abbrev token_from : Option ℕ → Option ℕ → Option ℕ → Option ℕ → List ℕ → Bool → Option Record
token_from line call provider page token auto =
    option_and_then (λ l. option_and_then (λ c. option_and_then (λ p. Some (says.Token l c p token page (Some auto))) provider) call) line

token_is : (line call page : ℕ) (auto : Bool) (provider : ℕ) (token : List ℕ) → line < 2 ^ 32 → call < 2 ^ 32 → page < 2 ^ 32
    → provider < 2 ^ 32
    → token_from (small line) (small call) (small provider) (small page) token auto
    ≡ Some (says.Token line call provider token (Some page) (Some auto))
token_is line call page auto provider token l c g p =
    ap (λ x. token_from x (small call) (small provider) (small page) token auto) (small_is line l)
    ∙ (ap (λ x. token_from (Some line) x (small provider) (small page) token auto) (small_is call c)
    ∙ (ap (λ x. token_from (Some line) (Some call) x (small page) token auto) (small_is provider p)
    ∙ ap (λ x. token_from (Some line) (Some call) (Some provider) x token auto) (small_is page g)))

abbrev answer_from : Option ℕ → Option ℕ → Option Record
answer_from line call = option_and_then (λ l. option_and_then (λ c. Some (says.Answer l c)) call) line

answer_is : (line call : ℕ) → line < 2 ^ 32 → call < 2 ^ 32 → answer_from (small line) (small call) ≡ Some (says.Answer line call)
answer_is line call l c =
    ap (λ x. answer_from x (small call)) (small_is line l) ∙ ap (answer_from (Some line)) (small_is call c)

failed_read : (line call page : ℕ) (step : FailStep) (detail : Option Detail) → line < 2 ^ 32 → call < 2 ^ 32
    → record_in (object (failed_members line call page (record { step = step; detail = detail }))) ≡ Some (says.Answer line call)
failed_read line call page step None l c =
    let d = object (failed_members line call page (record { step = step; detail = None })) in
    ap (λ b. cond b (token_of d) (answer_of d)) (error_no_token step) ∙ answer_is line call l c
failed_read line call page step (Some detail) l c =
    let d = object (failed_members line call page (record { step = step; detail = Some detail })) in
    ap (λ b. cond b (token_of d) (answer_of d)) (error_no_token step) ∙ answer_is line call l c

provider_error_read : (line call page : ℕ) (code : List ℕ) (url : Option (List ℕ)) → line < 2 ^ 32 → call < 2 ^ 32
    → record_in (object (provider_error_members line call page code url)) ≡ Some (says.Answer line call)
provider_error_read line call page code None l c = answer_is line call l c
provider_error_read line call page code (Some url) l c = answer_is line call l c

answer_read : (line call page : ℕ) (finish : Finish) → IsSaid (outs.Answer line call page finish)
    → record_in (object (answer_members line call page finish)) ≡ Some (said_of (outs.Answer line call page finish))
answer_read line call page (Token auto provider token) s =
    let n = s.numbers in token_is line call page auto provider token n.0 n.1.0 n.1.1.0 n.1.1.1.0
answer_read line call page Disconnected s = let n = s.numbers in answer_is line call n.0 n.1.0
answer_read line call page (Failed failure) s = let n = s.numbers in failed_read line call page failure.step failure.detail n.0 n.1.0
answer_read line call page (ProviderError code url) s = let n = s.numbers in provider_error_read line call page code url n.0 n.1.0

-- ---- other records

other_is : (line : ℕ) → line < 2 ^ 32 → option_and_then (λ l. Some (says.Other l)) (small line) ≡ Some (says.Other line)
other_is line l = ap (option_and_then (λ x. Some (says.Other x))) (small_is line l)

dropped_read : (line call provider : ℕ) (step : FailStep) (detail : Option Detail) → line < 2 ^ 32
    → record_in (object (dropped_members line call provider (record { step = step; detail = detail }))) ≡ Some (says.Other line)
dropped_read line call provider step None l = other_is line l
dropped_read line call provider step (Some detail) l = other_is line l

mismatch_read : (line call provider : ℕ) (site : List ℕ) (step : FailStep) (detail : Option Detail) → line < 2 ^ 32
    → record_in (object (mismatch_members line call provider site (record { step = step; detail = detail }))) ≡ Some (says.Other line)
mismatch_read line call provider site step None l = other_is line l
mismatch_read line call provider site step (Some detail) l = other_is line l

prompt_read : (line call : ℕ) (account : Shown) (context : Context) (site : List ℕ) (privacy terms : Option (List ℕ)) → line < 2 ^ 32
    → record_in (object (prompt_members line call account context site privacy terms)) ≡ Some (says.Other line)
prompt_read line call account context site None None l = other_is line l
prompt_read line call account context site None (Some terms) l = other_is line l
prompt_read line call account context site (Some privacy) None l = other_is line l
prompt_read line call account context site (Some privacy) (Some terms) l = other_is line l

dialog_read : (line call : ℕ) (dialog : Dialog) → line < 2 ^ 32
    → record_in (object (dialog_members line call dialog)) ≡ Some (says.Other line)
dialog_read line call (Choose accounts context site) l = other_is line l
dialog_read line call (Prompt account context site privacy terms) l = prompt_read line call account context site privacy terms l
dialog_read line call (Mismatch provider site failure) l = mismatch_read line call provider site failure.step failure.detail l

-- ---- together

pub object_read : (out : Out) → IsSaid out → record_in (object (record_members out)) ≡ Some (said_of out)
object_read (outs.Request line call provider kind bytes) s =
    let n = s.numbers in
    request_read line call provider kind bytes n.0 n.1.0 n.1.1.0 s.bytes (list_all (λ b. nat_lt b 128) bytes)
object_read (outs.Dropped line call provider failure) s = dropped_read line call provider failure.step failure.detail s.numbers.0
object_read (outs.Dialog line call dialog) s = dialog_read line call dialog s.numbers.0
object_read (outs.Window line call provider url) s = other_is line s.numbers.0
object_read (outs.Answer line call page finish) s = answer_read line call page finish s
object_read (outs.Ignored line why) s = other_is line s.numbers.0

pub end_read : (events : ℕ) → record_in (object (end_members events)) ≡ Some says.End
end_read events = refl
