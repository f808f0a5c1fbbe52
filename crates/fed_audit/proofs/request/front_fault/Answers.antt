use Rattle.std.proofs.Common.{sym, subst, ◌∙◌}
use Rattle.fed_audit.specs.Clauses.{MayAsk}
use Rattle.fed_audit.specs.Consent.{HasConsent}
use Rattle.fed_audit.specs.Front.{fields_read}
use Rattle.fed_audit.specs.Scene.{trace_through}
use Rattle.fed_audit.proofs.verdicts.Requests.{Read, found_so, first_of_head, good_head, unasked, if_asked, fails_asked, may_ask, passes}
use Rattle.fed_audit.proofs.verdicts.Requests.{test_yes, test_no}
use Rattle.fed_audit.proofs.request.front_fault.Goals as goal

pub returns-then-is_some : goal.returns-then-is_some
returns-then-is_some c = λ s line begun h n began page_is has.
    let read = c.requires.1 in
    let r : Read s c.args.asking.now.call c.args.asking.now.provider c.args.asking.now.kind c.args.asking.now.bytes.now =
    record { begun = begun; began = began; has = has; front = c.requires.0 } in
    let found =
    found_so s c.args.asking.now.call c.args.asking.now.provider c.args.asking.now.kind c.args.asking.now.bytes.now r
    c.in_ok-fault.fault
    c.args.request.now.method.now c.args.request.now.target.now (fields_read c.args.request.now) c.args.page.now
    (c.in_ok-fault.ensures (trace_through s) h.stands) read.method read.target read.fields page_is in
    first_of_head s line c.args.asking.now.call c.args.asking.now.provider c.args.asking.now.kind c.args.asking.now.bytes.now r
    c.in_ok-fault.fault found
    (sym c.is_some.ensures ∙ c.if-is_some.true)

pub returns-then-not-asks_token : goal.returns-then-not-asks_token
returns-then-not-asks_token c = λ s line begun h n began page_is has.
    let read = c.requires.1 in
    let r : Read s c.args.asking.now.call c.args.asking.now.provider c.args.asking.now.kind c.args.asking.now.bytes.now =
    record { begun = begun; began = began; has = has; front = c.requires.0 } in
    let found =
    found_so s c.args.asking.now.call c.args.asking.now.provider c.args.asking.now.kind c.args.asking.now.bytes.now r
    c.in_ok-fault.fault
    c.args.request.now.method.now c.args.request.now.target.now (fields_read c.args.request.now) c.args.page.now
    (c.in_ok-fault.ensures (trace_through s) h.stands) read.method read.target read.fields page_is in
    let good =
    good_head s line c.args.asking.now.call c.args.asking.now.provider c.args.asking.now.kind c.args.asking.now.bytes.now r
    c.in_ok-fault.fault found
    (sym c.is_some.ensures ∙ c.if-is_some.false) in
    passes s line c.args.asking.now.call c.args.asking.now.provider c.args.asking.now.kind c.args.asking.now.bytes.now r good
    (unasked c.args.asking.now.kind (MayAsk s c.args.asking.now.call c.args.asking.now.provider c.args.asking.now.bytes.now)
    (sym c.asks_token.ensures ∙ c.if-not-asks_token.true))

pub returns-then-branch : goal.returns-then-branch
returns-then-branch c = λ s line begun h n began page_is has.
    let read = c.requires.1 in
    let r : Read s c.args.asking.now.call c.args.asking.now.provider c.args.asking.now.kind c.args.asking.now.bytes.now =
    record { begun = begun; began = began; has = has; front = c.requires.0 } in
    let found =
    found_so s c.args.asking.now.call c.args.asking.now.provider c.args.asking.now.kind c.args.asking.now.bytes.now r
    c.in_ok-fault.fault
    c.args.request.now.method.now c.args.request.now.target.now (fields_read c.args.request.now) c.args.page.now
    (c.in_ok-fault.ensures (trace_through s) h.stands) read.method read.target read.fields page_is in
    let good =
    good_head s line c.args.asking.now.call c.args.asking.now.provider c.args.asking.now.kind c.args.asking.now.bytes.now r
    c.in_ok-fault.fault found
    (sym c.is_some.ensures ∙ c.if-is_some.false) in
    let agreed = test_yes c.in_ok-may_ask.field-0 (c.in_ok-may_ask.ensures s h n) c.if-branch.true in
    passes s line c.args.asking.now.call c.args.asking.now.provider c.args.asking.now.kind c.args.asking.now.bytes.now r good
    (if_asked c.args.asking.now.kind (MayAsk s c.args.asking.now.call c.args.asking.now.provider c.args.asking.now.bytes.now)
    (may_ask s c.args.asking.now.call c.args.asking.now.provider c.args.asking.now.kind c.args.asking.now.bytes.now r
    (subst (HasConsent s c.args.asking.now.call c.args.asking.now.provider) read.body agreed)))

pub returns : goal.returns
returns c = λ s line begun h n began page_is has.
    let read = c.requires.1 in
    let r : Read s c.args.asking.now.call c.args.asking.now.provider c.args.asking.now.kind c.args.asking.now.bytes.now =
    record { begun = begun; began = began; has = has; front = c.requires.0 } in
    let found =
    found_so s c.args.asking.now.call c.args.asking.now.provider c.args.asking.now.kind c.args.asking.now.bytes.now r
    c.in_ok-fault.fault
    c.args.request.now.method.now c.args.request.now.target.now (fields_read c.args.request.now) c.args.page.now
    (c.in_ok-fault.ensures (trace_through s) h.stands) read.method read.target read.fields page_is in
    let good =
    good_head s line c.args.asking.now.call c.args.asking.now.provider c.args.asking.now.kind c.args.asking.now.bytes.now r
    c.in_ok-fault.fault found
    (sym c.is_some.ensures ∙ c.if-is_some.false) in
    fails_asked s line c.args.asking.now.call c.args.asking.now.provider c.args.asking.now.kind c.args.asking.now.bytes.now r good
    (sym c.asks_token.ensures ∙ c.if-not-asks_token.false)
    (λ agreed. test_no c.in_ok-may_ask.field-0 (c.in_ok-may_ask.ensures s h n) c.if-branch.false
    (subst (HasConsent s c.args.asking.now.call c.args.asking.now.provider) (sym read.body) agreed))
