use Rattle.std.proofs.Common.{◌≡◌, ℕ, Bool, true, false, List, sym, ap, refl, ◌∙◌, subst, Ok, None, Some, if◌then◌else◌}
use Rattle.std.specs.Prelude.{not}
use Rattle.fed_io.specs.Fault.{Refuses}
use Rattle.fed_reply.specs.declared.json_head.JsonHead.{JsonHead}
use Rattle.fed_reply.specs.Json.{asked, unless_refused, refusal}
use Rattle.fed_reply.specs.Steps.{with_ok}
use Rattle.fed_reply.proofs.value.Json.{no_front_with, no_body_with, json_with_is, refused_some, whole}
use Rattle.fed_reply.proofs.json_value.open_json_with.Goals as goal

-- what is read, by whether the fields are there
lacks : (head : JsonHead) (body : List ℕ) (b : Bool) → not b ≡ true
    → (if b then with_ok Some (unless_refused (refusal head.status head.is_json) body) else Ok None) ≡ Ok None
lacks head body true e = absurd (cc)
lacks head body false e = refl

has : (head : JsonHead) (body : List ℕ) (b : Bool) → not b ≡ false
    → (if b then with_ok Some (unless_refused (refusal head.status head.is_json) body) else Ok None)
    ≡ with_ok Some (unless_refused (refusal head.status head.is_json) body)
has head body true e = refl
has head body false e = absurd (cc)

pub returns-in-Err : goal.returns-in-Err
returns-in-Err c = no_front_with (asked c.args.only.now) c.args.raw.now c.in-Err.step c.in-Err.ensures

pub returns-in-Err-find_body : goal.returns-in-Err-find_body
returns-in-Err-find_body c =
    no_body_with (asked c.args.only.now) c.args.raw.now _ c.in-Ok.ensures.0 c.in-Ok.head c.in-Err-find_body.fault c.in-Ok.ensures.1
    c.in-Ok.ensures.2 (whole c.in-Ok.head.len c.args.raw.now) c.in-Err-find_body.ensures

pub returns-then-not-head : goal.returns-then-not-head
returns-then-not-head c =
    json_with_is (asked c.args.only.now) c.args.raw.now _ c.in-Ok.ensures.0 c.in-Ok.head _ c.in-Ok.ensures.1 c.in-Ok.ensures.2
    (whole c.in-Ok.head.len c.args.raw.now) c.in-Ok-find_body.ensures
    ∙ lacks c.in-Ok.head c.in-Ok-find_body.body.now c.in-Ok.head.has_each c.if-not-head.true

pub returns-in-Some : goal.returns-in-Some
returns-in-Some c =
    json_with_is (asked c.args.only.now) c.args.raw.now _ c.in-Ok.ensures.0 c.in-Ok.head _ c.in-Ok.ensures.1 c.in-Ok.ensures.2
    (whole c.in-Ok.head.len c.args.raw.now) c.in-Ok-find_body.ensures
    ∙ (has c.in-Ok.head c.in-Ok-find_body.body.now c.in-Ok.head.has_each c.if-not-head.false
    ∙ ap (λ s. with_ok Some (unless_refused s c.in-Ok-find_body.body.now)) (sym c.in-Some.ensures))

pub returns-in-Ok-open_body : goal.returns-in-Ok-open_body
returns-in-Ok-open_body c =
    json_with_is (asked c.args.only.now) c.args.raw.now _ c.in-Ok.ensures.0 c.in-Ok.head _ c.in-Ok.ensures.1 c.in-Ok.ensures.2
    (whole c.in-Ok.head.len c.args.raw.now) c.in-Ok-find_body.ensures
    ∙ (has c.in-Ok.head c.in-Ok-find_body.body.now c.in-Ok.head.has_each c.if-not-head.false
    ∙ (ap (λ s. with_ok Some (unless_refused s c.in-Ok-find_body.body.now)) (sym c.in_default.ensures)
    ∙ ap (with_ok Some) c.in-Ok-open_body.ensures))

pub returns-in-Err-open_body : goal.returns-in-Err-open_body
returns-in-Err-open_body c =
    let e = json_with_is (asked c.args.only.now) c.args.raw.now _ c.in-Ok.ensures.0 c.in-Ok.head _ c.in-Ok.ensures.1 c.in-Ok.ensures.2
    (whole c.in-Ok.head.len c.args.raw.now) c.in-Ok-find_body.ensures
    ∙ (has c.in-Ok.head c.in-Ok-find_body.body.now c.in-Ok.head.has_each c.if-not-head.false
    ∙ ap (λ s. with_ok Some (unless_refused s c.in-Ok-find_body.body.now)) (sym c.in_default.ensures)) in
    subst (Refuses c.in-Err-open_body.fault) (sym e) (refused_some c.in-Err-open_body.fault _ c.in-Err-open_body.ensures)
