use Rattle.std.proofs.Common.{◌≡◌, Some, None, arith}
use Rattle.json.specs.Json.{after_end_array}
use Rattle.fed_accounts.proofs.lists.Stops.{stops}
use Rattle.fed_accounts.proofs.lists.Texts.{texts_begin, texts_more, texts_end, texts_refused, texts_unread, texts_unread_more}
use Rattle.fed_accounts.proofs.members.read_texts.Goals as goal

pub loop-values-init : goal.loop-values-init
loop-values-init c = texts_begin c.args.depth c.args.values.now _ c.new-texts.ensures

pub returns-in_err-text : goal.returns-in_err-text
returns-in_err-text c =
    let l = c.loop-values in
    let going : (after_end_array l.values ≡ None) × (c.ends.new.self ≡ l.values) = grind arith in
    stops _ _ _ _ _ c.from_residual.ensures.1 (texts_unread l.invariant going.0 (rw (← going.1) c.in_err-text.ensures.value))

pub returns-in_err-skip_items : goal.returns-in_err-skip_items
returns-in_err-skip_items c =
    let l = c.loop-values in
    let going : (after_end_array l.values ≡ None) × (c.ends.new.self ≡ l.values) = grind arith in
    let took = rw going.1 at c.in_ok-text.ensures.value in
    stops _ _ _ _ _ c.from_residual-in_err-skip_items.ensures.1
    (texts_unread_more took.0 l.invariant going.0 took.1 c.in_err-skip_items.ensures.value)

pub returns-in_default : goal.returns-in_default
returns-in_default c =
    let l = c.loop-values in
    let going : (after_end_array l.values ≡ None) × (c.ends.new.self ≡ l.values) = grind arith in
    let took = rw going.1 at c.in_ok-text.ensures.value in
    let rest = c.in_ok-skip_items.ensures.value in
    texts_refused c.in_ok-text.field-0 took.0 rest.0 l.invariant going.0 took.1 took.2 c.in_default.not-Text rest.1

pub loop-values-preserved : goal.loop-values-preserved
loop-values-preserved c =
    let l = c.loop-values in
    let going : (after_end_array l.values ≡ None) × (c.ends.new.self ≡ l.values) = grind arith in
    let took = rw (going.1, c.in-Text.is) at c.in_ok-text.ensures.value in
    texts_more took.0 c.in-Text.text l.invariant going.0 took.1 took.2 c.in_ok-push.ensures.ok

pub returns : goal.returns
returns c =
    let l = c.loop-values in
    let over : after_end_array l.values ≡ Some c.ends.new.self = grind arith in
    texts_end l.invariant over
