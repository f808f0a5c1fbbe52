use Rattle.std.proofs.Common.{◌≡◌, ℕ, List, Option, Some, None, option_and_then, refl, sym, ap, ◌∙◌, arith}
use Rattle.json.specs.Token.{Token}
use Rattle.json.specs.Json.{after_end_array, parse_map}
use Rattle.serde_json.specs.Data.{Data, Items, no_items, item}
use Rattle.serde_json.specs.Find.{as_str}
use Rattle.fed_json.specs.Values.{value_in, items_in}
use Rattle.fed_json.proofs.values.Steps.{items_end, items_more, items_stop}
use Rattle.fed_reply.proofs.asked.Found.{not_text}
use Rattle.fed_provider.specs.WellKnown.{only_item}
use Rattle.fed_provider.proofs.listed.take_only.Goals as goal

-- where the array goes on, there is a second item
another : (x y : Data) (o : Option (Items × List Token)) (ds : Items) (s : List Token) → parse_map (item y) o ≡ Some (ds, s)
    → only_item (item x ds) ≡ None
another x y None ds s e = absurd (cc)
another x y (Some p) ds s e =
    let k : ◌≡◌ {A = Items × List Token} (ds, s) (item y p.0, p.1) = cc in ap (λ q. only_item (item x q.0)) k

not_only : (depth : ℕ) (x : Data) (ts : List Token) (o : Option (Data × List Token)) (ds : Items) (s : List Token)
    → after_end_array ts ≡ None → value_in depth ts ≡ o → items_in depth ts ≡ Some (ds, s) → only_item (item x ds) ≡ None
not_only depth x ts None ds s going is e = let none = items_stop depth ts going is in absurd (cc)
not_only depth x ts (Some (y, r)) ds s going is e =
    another x y (items_in depth r) ds s (sym (items_more depth ts r y going is) ∙ e)

pub returns-then-ends-clause-value : goal.returns-then-ends-clause-value
returns-then-ends-clause-value c =
    let over : after_end_array c.args.values.now ≡ Some c.ends.new.self = grind arith in
    (no_items, items_end c.args.depth c.args.values.now c.ends.new.self over, refl)

pub returns-in_err-first-clause-value : goal.returns-in_err-first-clause-value
returns-in_err-first-clause-value c =
    let ts = c.args.values.now in
    let going : (after_end_array ts ≡ None) × (c.ends.new.self ≡ ts) = grind arith in
    let none = items_stop c.args.depth ts going.0 (rw (← going.1) c.in_err-first.ensures.value) in
    grind (arith, none)

pub returns-in_err-skip_items-clause-value : goal.returns-in_err-skip_items-clause-value
returns-in_err-skip_items-clause-value c =
    let ts = c.args.values.now in
    let r = c.pass.new.self in
    let going : (after_end_array ts ≡ None) × (c.ends.new.self ≡ ts) = grind arith in
    let on : (after_end_array r ≡ None) × (c.ends-2.new.self ≡ r) = grind arith in
    let took = rw going.1 at c.in_ok-first.ensures.value in
    let more = items_more c.args.depth ts r took.0 going.0 took.1 in
    let rest : items_in c.args.depth r ≡ None = rw (← on.1) c.in_err-skip_items.ensures.value in
    let none = more ∙ ap (parse_map (item took.0)) rest in
    grind (arith, none)

pub returns-then-not-ends-clause-value : goal.returns-then-not-ends-clause-value
returns-then-not-ends-clause-value c =
    let ts = c.args.values.now in
    let r = c.pass.new.self in
    let going : (after_end_array ts ≡ None) × (c.ends.new.self ≡ ts) = grind arith in
    let on : (after_end_array r ≡ None) × (c.ends-2.new.self ≡ r) = grind arith in
    let took = rw going.1 at c.in_ok-first.ensures.value in
    let more = items_more c.args.depth ts r took.0 going.0 took.1 in
    let rest = rw on.1 at c.in_ok-skip_items.ensures.value in (
      item took.0 rest.0,
      more ∙ ap (parse_map (item took.0)) rest.1,
      sym (ap (option_and_then as_str) (not_only c.args.depth took.0 r _ rest.0 c.skip_items.new.self on.0 refl rest.1)),
    )

pub returns-in_default-clause-value : goal.returns-in_default-clause-value
returns-in_default-clause-value c =
    let ts = c.args.values.now in
    let r = c.pass.new.self in
    let going : (after_end_array ts ≡ None) × (c.ends.new.self ≡ ts) = grind arith in
    let over : after_end_array r ≡ Some c.ends-2.new.self = grind arith in
    let took = rw going.1 at c.in_ok-first.ensures.value in
    let more = items_more c.args.depth ts r took.0 going.0 took.1 in (
      item took.0 no_items,
      more ∙ ap (parse_map (item took.0)) (items_end c.args.depth r c.ends-2.new.self over),
      sym (not_text c.in_ok-first.first took.0 took.2 c.in_default.not-Text),
    )

pub returns-clause-value : goal.returns-clause-value
returns-clause-value c =
    let ts = c.args.values.now in
    let r = c.pass.new.self in
    let going : (after_end_array ts ≡ None) × (c.ends.new.self ≡ ts) = grind arith in
    let over : after_end_array r ≡ Some c.ends-2.new.self = grind arith in
    let took = rw going.1 at c.in_ok-first.ensures.value in
    let more = items_more c.args.depth ts r took.0 going.0 took.1 in
    let text = rw c.in-Text.is at took.2 in (
      item took.0 no_items,
      more ∙ ap (parse_map (item took.0)) (items_end c.args.depth r c.ends-2.new.self over),
      sym (ap as_str text),
    )
