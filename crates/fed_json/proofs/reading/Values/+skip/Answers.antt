use Rattle.std.proofs.Common.{◌≡◌, ◌<◌, ℕ, List, length, Some, None, Result, Ok, Err, refl, ap, ◌∙◌, arith}
use Rattle.std.specs.Prelude.{⊤, MatchResult}
use Rattle.json.specs.Token.{Token}
use Rattle.json.specs.Json.{after_end_array, read_key, parse_map}
use Rattle.json.proofs.Grammar.{read_key-shorter}
use Rattle.serde_json.specs.Data.{array, object, item, no_members, put}
use Rattle.fed_json.specs.declared.reading.Begun.{Begun}
use Rattle.fed_json.specs.declared.reading.Begun.TheVariants.{Array, Object}
use Rattle.fed_json.specs.declared.reading.Invalid.{Invalid}
use Rattle.fed_json.specs.Values.{items_in, members_in, begun_in, Took, IsBegun}
use Rattle.fed_json.proofs.values.Steps.{items_begin, items_next, items_last, items_none, members_end, members_more, members_stop}
use Rattle.fed_json.proofs.values.Steps.{members_unnamed, array_some, object_some, scalar_took}
use Rattle.fed_json.proofs.reading.Values.+skip.Goals as goal

array_took : (first : Begun) (depth : ℕ) (result : Result Unit Invalid) (ts r : List Token) → first ≡ Array depth
    → MatchResult result (λ x. Took (λ ds. ⊤) (items_in depth ts) r) (λ x. items_in depth ts ≡ None)
    → MatchResult result (λ x. Took (IsBegun first) (begun_in first ts) r) (λ x. begun_in first ts ≡ None)
array_took first depth (Ok x) ts r is h = rw is (array_some (items_in depth ts) r h)
array_took first depth (Err e) ts r is h = rw is (ap (parse_map array) h)

object_took : (first : Begun) (depth : ℕ) (result : Result Unit Invalid) (ts r : List Token) → first ≡ Object depth
    → MatchResult result (λ x. Took (λ ms. ⊤) (members_in depth no_members ts) r) (λ x. members_in depth no_members ts ≡ None)
    → MatchResult result (λ x. Took (IsBegun first) (begun_in first ts) r) (λ x. begun_in first ts ≡ None)
object_took first depth (Ok x) ts r is h = rw is (object_some (members_in depth no_members ts) r h)
object_took first depth (Err e) ts r is h = rw is (ap (parse_map object) h)

pub finish-returns-in-Array-clause-value : goal.finish-returns-in-Array-clause-value
finish-returns-in-Array-clause-value t c =
    array_took c.args.first.now c.in-Array.depth c.skip_items.result c.args.self.now c.skip_items.new.self c.in-Array.is
    c.skip_items.ensures.value

pub finish-returns-in-Object-clause-value : goal.finish-returns-in-Object-clause-value
finish-returns-in-Object-clause-value t c =
    object_took c.args.first.now c.in-Object.depth c.skip_members.result c.args.self.now c.skip_members.new.self c.in-Object.is
    c.skip_members.ensures.value

pub finish-returns-in-Null-clause-value : goal.finish-returns-in-Null-clause-value
finish-returns-in-Null-clause-value t c = scalar_took c.args.first.now c.args.self.now c.in-Null.is

pub finish-returns-in-Null-2-clause-value : goal.finish-returns-in-Null-2-clause-value
finish-returns-in-Null-2-clause-value t c = scalar_took c.args.first.now c.args.self.now c.in-Null.is

pub finish-returns-in-Null-3-clause-value : goal.finish-returns-in-Null-3-clause-value
finish-returns-in-Null-3-clause-value t c = scalar_took c.args.first.now c.args.self.now c.in-Null.is

pub finish-returns-in-Null-4-clause-value : goal.finish-returns-in-Null-4-clause-value
finish-returns-in-Null-4-clause-value t c = scalar_took c.args.first.now c.args.self.now c.in-Null.is

pub skip_items-loop-self-init : goal.skip_items-loop-self-init
skip_items-loop-self-init t c = ((λ ds. ds), items_begin c.args.depth c.args.self.now, omega arith)

pub skip_items-loop-self-preserved : goal.skip_items-loop-self-preserved
skip_items-loop-self-preserved t c =
    let l = c.loop-self in
    let going : (after_end_array l.self ≡ None) × (c.ends.new.self ≡ l.self) = grind arith in
    let less : length c.skip.new.self < length l.self = rw (← going.1) c.in_ok-skip.ensures.shorter in
    let took = rw going.1 at c.in_ok-skip.ensures.value in (
      (λ ds. l.invariant.0 (item took.0 ds)),
      items_next c.args.depth c.args.self.now l.self c.skip.new.self l.invariant.0 took.0 l.invariant.1 going.0 took.1,
      omega (arith, l.invariant.2),
    )

pub skip_items-returns-in_err-skip-clause-value : goal.skip_items-returns-in_err-skip-clause-value
skip_items-returns-in_err-skip-clause-value t c =
    let l = c.loop-self in
    let going : (after_end_array l.self ≡ None) × (c.ends.new.self ≡ l.self) = grind arith in
    let none = items_none c.args.depth c.args.self.now l.self l.invariant.0 l.invariant.1 going.0
    (rw (← going.1) c.in_err-skip.ensures.value) in
    grind (arith, none)

pub skip_items-returns-clause-value : goal.skip_items-returns-clause-value
skip_items-returns-clause-value t c =
    let l = c.loop-self in
    let over : after_end_array l.self ≡ Some c.ends.new.self = grind arith in
    (l.invariant.0 _, items_last c.args.depth c.args.self.now l.self c.ends.new.self l.invariant.0 l.invariant.1 over, tt)

pub skip_members-loop-self-init : goal.skip_members-loop-self-init
skip_members-loop-self-init t c = (no_members, refl, omega arith)

pub skip_members-returns-in_err-next_name-clause-value : goal.skip_members-returns-in_err-next_name-clause-value
skip_members-returns-in_err-next_name-clause-value t c =
    let l = c.loop-self in
    let none = l.invariant.1 ∙ members_unnamed c.args.depth l.invariant.0 l.self c.in_err-next_name.ensures.value in
    grind (arith, none)

pub skip_members-loop-self-preserved : goal.skip_members-loop-self-preserved
skip_members-loop-self-preserved t c =
    let l = c.loop-self in
    let k = c.in-Some.field-0.now in
    let s = c.next_name.new.self in
    let key : read_key l.self ≡ Some (Some k, s) = grind arith in
    let less = read_key-shorter l.self (Some k) s key in
    let lesser = c.in_ok-skip.ensures.shorter in
    let took = c.in_ok-skip.ensures.value in (
      put k took.0 l.invariant.0,
      l.invariant.1 ∙ members_more c.args.depth l.invariant.0 l.self s c.skip.new.self k took.0 key took.1,
      omega (arith, l.invariant.2),
    )

pub skip_members-returns-in_err-skip-clause-value : goal.skip_members-returns-in_err-skip-clause-value
skip_members-returns-in_err-skip-clause-value t c =
    let l = c.loop-self in
    let k = c.in-Some.field-0.now in
    let s = c.next_name.new.self in
    let key : read_key l.self ≡ Some (Some k, s) = grind arith in
    let none = l.invariant.1 ∙ members_stop c.args.depth l.invariant.0 l.self s k key c.in_err-skip.ensures.value in
    grind (arith, none)

pub skip_members-returns-clause-value : goal.skip_members-returns-clause-value
skip_members-returns-clause-value t c =
    let l = c.loop-self in
    let over : read_key l.self ≡ Some (None, c.next_name.new.self) = grind arith in
    (l.invariant.0, l.invariant.1 ∙ members_end c.args.depth l.invariant.0 l.self c.next_name.new.self over, tt)
