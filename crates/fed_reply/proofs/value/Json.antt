-- The value that bytes carry, by the head and the body that were read.
use Rattle.std.proofs.Common.{◌≡◌, ℕ, Bool, true, false, List, map, drop, Some, None, Result, Ok, Err, refl, sym, ap, ◌∙◌}
use Rattle.std.proofs.Common.{if◌then◌else◌}
use Rattle.std.specs.Prelude.{not, codes}
use Rattle.std.proofs.Common.{arith, ◌-◌, length, take, length-drop}
use Rattle.std.proofs.lemmas.List.{take_all}
use Rattle.serde_json.specs.Data.{Data}
use Rattle.fed_io.specs.declared.error.Fault.{Fault}
use Rattle.fed_io.specs.declared.error.Fault.TheVariants.{Step, NoRoom}
use Rattle.fed_io.specs.Fault.{Refuses}
use Rattle.fed_head.specs.Head.{HeadParts}
use Rattle.fed_head.specs.Section.{FieldPair, name_and_trimmed}
use Rattle.fed_reply.specs.declared.json_head.JsonHead.{JsonHead}
use Rattle.fed_reply.specs.declared.step.ReplyStep.{ReplyStep}
use Rattle.fed_reply.specs.declared.step.ReplyStep.TheVariants.{Status, Mime}
use Rattle.fed_reply.specs.Parts.{ReplyParts}
use Rattle.fed_reply.specs.Fields.{fields_of, value_at}
use Rattle.fed_reply.specs.Body.{framed, body_of}
use Rattle.fed_reply.specs.Steps.{and_then, with_ok}
use Rattle.fed_reply.specs.Reply.{FrontOf, ReplyOf, reply_with}
use Rattle.fed_reply.specs.Json.{is_success, is_json_type, JsonOf, ReplyJsonOf, json_with, ReplyJsonWith, refusal, body_value}
use Rattle.fed_reply.specs.Json.{unless_refused, IsJsonHeadOf}

-- ---- of a reply

by_tests : (s t : Bool) (body : List ℕ)
    → (if not s then Err Status else (if t then body_value body else Err Mime))
    ≡ unless_refused (if s then (if t then None else Some Mime) else Some Status) body
by_tests true true body = refl
by_tests true false body = refl
by_tests false t body = refl

json_by : (reply : ReplyParts) (t : Bool) → t ≡ is_json_type (value_at (codes "content-type") 0 reply.fields)
    → JsonOf reply ≡ unless_refused (refusal reply.status t) reply.body
unfolding JsonOf
json_by reply t is =
    ap (λ b. if not (is_success reply.status) then Err Status else (if b then body_value reply.body else Err Mime)) (sym is)
    ∙ by_tests (is_success reply.status) t reply.body

-- ---- of bytes

-- what a slice from a place to the end has
pub whole : (n : ℕ) (raw : List ℕ) → take (length raw - n) (drop n raw) ≡ drop n raw
whole n raw = take_all (length raw - n) (drop n raw) (omega (arith, length-drop n raw))

front_step : {T : Type 0} (f : ReplyParts → Result T ReplyStep) (raw : List ℕ) (step : ReplyStep) → FrontOf raw ≡ Err step
    → and_then f (ReplyOf raw) ≡ Err step
unfolding ReplyOf
front_step f raw step e =
    ap (λ r. and_then f (and_then (λ h. with_ok (reply_with h) (body_of (fields_of (map name_and_trimmed h.fields)) h.rest)) r)) e

pub no_front : (raw : List ℕ) (step : ReplyStep) → FrontOf raw ≡ Err step → ReplyJsonOf raw ≡ Err step
no_front raw step e = front_step JsonOf raw step e

pub no_front_with : (only : List FieldPair) (raw : List ℕ) (step : ReplyStep) → FrontOf raw ≡ Err step
    → ReplyJsonWith only raw ≡ Err step
no_front_with only raw step e = front_step (json_with only) raw step e

reply_is : {only : List FieldPair} (raw rest : List ℕ) (h : HeadParts) (found : JsonHead) (r : Result (List ℕ) ReplyStep)
    → FrontOf raw ≡ Ok h → IsJsonHeadOf only raw h found → rest ≡ drop found.len raw → and_then (framed rest) found.framing ≡ r
    → ReplyOf raw ≡ with_ok (reply_with h) r
unfolding ReplyOf
reply_is raw rest h found r e at same body =
    ap (and_then (λ g. with_ok (reply_with g) (body_of (fields_of (map name_and_trimmed g.fields)) g.rest))) e
    ∙ (ap (λ f. with_ok (reply_with h) (and_then (framed h.rest) f)) (sym at.framing)
    ∙ (ap (λ bytes. with_ok (reply_with h) (and_then (framed bytes) found.framing)) (sym (same ∙ at.rest))
    ∙ ap (with_ok (reply_with h)) body))

body_fault : {T : Type 0} {only : List FieldPair} (f : ReplyParts → Result T ReplyStep) (raw rest : List ℕ) (h : HeadParts)
    (found : JsonHead) (fault : Fault ReplyStep) → FrontOf raw ≡ Ok h → IsJsonHeadOf only raw h found → rest ≡ drop found.len raw
    → Refuses fault (and_then (framed rest) found.framing) → Refuses fault (and_then f (ReplyOf raw))
body_fault f raw rest h found NoRoom e at same refuses = tt
body_fault f raw rest h found (Step step) e at same refuses = ap (and_then f) (reply_is raw rest h found (Err step) e at same refuses)

pub no_body : {only : List FieldPair} (raw rest : List ℕ) (h : HeadParts) (found : JsonHead) (fault : Fault ReplyStep)
    → FrontOf raw ≡ Ok h → IsJsonHeadOf only raw h found → rest ≡ drop found.len raw
    → Refuses fault (and_then (framed rest) found.framing) → Refuses fault (ReplyJsonOf raw)
no_body raw rest h found fault e at same refuses = body_fault JsonOf raw rest h found fault e at same refuses

pub no_body_with : (only : List FieldPair) (raw rest : List ℕ) (h : HeadParts) (found : JsonHead) (fault : Fault ReplyStep)
    → FrontOf raw ≡ Ok h → IsJsonHeadOf only raw h found → rest ≡ drop found.len raw
    → Refuses fault (and_then (framed rest) found.framing) → Refuses fault (ReplyJsonWith only raw)
no_body_with only raw rest h found fault e at same refuses = body_fault (json_with only) raw rest h found fault e at same refuses

json_at : {only : List FieldPair} (raw : List ℕ) (h : HeadParts) (found : JsonHead) (body : List ℕ) → IsJsonHeadOf only raw h found
    → JsonOf (reply_with h body) ≡ unless_refused (refusal found.status found.is_json) body
json_at raw h found body at =
    json_by (reply_with h body) found.is_json at.is_json
    ∙ ap (λ n. unless_refused (refusal n found.is_json) body) (sym at.status)

-- the value, by the head and the body that were read
pub json_is : {only : List FieldPair} (raw rest : List ℕ) (h : HeadParts) (found : JsonHead) (body : List ℕ)
    → FrontOf raw ≡ Ok h → IsJsonHeadOf only raw h found → rest ≡ drop found.len raw → and_then (framed rest) found.framing ≡ Ok body
    → ReplyJsonOf raw ≡ unless_refused (refusal found.status found.is_json) body
json_is raw rest h found body e at same read =
    ap (and_then JsonOf) (reply_is raw rest h found (Ok body) e at same read) ∙ json_at raw h found body at

-- the same, where fields are asked for
pub json_with_is : (only : List FieldPair) (raw rest : List ℕ) (h : HeadParts) (found : JsonHead) (body : List ℕ)
    → FrontOf raw ≡ Ok h → IsJsonHeadOf only raw h found → rest ≡ drop found.len raw → and_then (framed rest) found.framing ≡ Ok body
    → ReplyJsonWith only raw
    ≡ (if found.has_each then with_ok Some (unless_refused (refusal found.status found.is_json) body) else Ok None)
json_with_is only raw rest h found body e at same read =
    ap (and_then (json_with only)) (reply_is raw rest h found (Ok body) e at same read)
    ∙ (ap (λ t. if t then with_ok Some (JsonOf (reply_with h body)) else Ok None) (sym at.has_each)
    ∙ ap (λ r. if found.has_each then with_ok Some r else Ok None) (json_at raw h found body at))

-- a fault of the value is one of the answer
pub refused_some : (fault : Fault ReplyStep) (r : Result Data ReplyStep) → Refuses fault r → Refuses fault (with_ok Some r)
refused_some NoRoom r refuses = tt
refused_some (Step step) r refuses = ap (with_ok Some) refuses
