use Rattle.std.proofs.Common.{◌≡◌, Some, None, refl, sym, ap, ◌∙◌, arith}
use Rattle.json.specs.Json.{read_key}
use Rattle.json.proofs.Grammar.{read_key-shorter}
use Rattle.serde_json.specs.Data.{no_members, put}
use Rattle.fed_json.proofs.values.Steps.{members_end, members_more, members_stop, members_unnamed, value_shorter}
use Rattle.fed_accounts.specs.Found.{parts_with}
use Rattle.fed_accounts.proofs.lists.Stops.{stops, stops_as}
use Rattle.fed_accounts.proofs.names.Found.{parts_put}
use Rattle.fed_accounts.proofs.members.read_members.Goals as goal

pub loop-found-init : goal.loop-found-init
loop-found-init c = (no_members, refl, refl)

pub returns-in_err-name : goal.returns-in_err-name
returns-in_err-name c =
    let l = c.loop-found in
    stops _ _ _ _ _ c.from_residual.ensures.1
    (l.invariant.1 ∙ members_unnamed c.args.depth l.invariant.0 l.values c.in_err-name.ensures.value)

pub loop-found-smaller : goal.loop-found-smaller
loop-found-smaller c =
    let key : read_key c.loop-found.values ≡ Some (Some c.in-Some.name.now, c.next_name.new.self) = grind arith in
    let took = c.in_ok-read_member.ensures in
    let less = read_key-shorter c.loop-found.values (Some c.in-Some.name.now) c.next_name.new.self key in
    let lesser = value_shorter c.args.depth c.next_name.new.self c.read_member.new.values took.0 took.1 in
    omega (arith, less, lesser)

pub loop-found-preserved : goal.loop-found-preserved
loop-found-preserved c =
    let l = c.loop-found in
    let s = c.next_name.new.self in
    let key : read_key l.values ≡ Some (Some c.in-Some.name.now, s) = grind arith in
    let took = c.in_ok-read_member.ensures in (
      put c.in-Some.name.now took.0 l.invariant.0,
      l.invariant.1 ∙ members_more c.args.depth l.invariant.0 l.values s _ c.in-Some.name.now took.0 key took.1,
      took.2 ∙ ap (parts_with c.in-Some.name.now took.0) l.invariant.2
          ∙ sym (parts_put c.in-Some.name.now took.0 l.invariant.0),
    )

pub returns-in_err-read_member : goal.returns-in_err-read_member
returns-in_err-read_member c =
    let l = c.loop-found in
    let s = c.next_name.new.self in
    let key : read_key l.values ≡ Some (Some c.in-Some.name.now, s) = grind arith in
    stops_as _ _ _ c.in_err-read_member.field-0.0 _ c.from_residual-in_err-read_member.ensures.1 c.in_err-read_member.ensures
    (λ none. l.invariant.1 ∙ members_stop c.args.depth l.invariant.0 l.values s c.in-Some.name.now key none)

pub returns : goal.returns
returns c =
    let l = c.loop-found in
    let over : read_key l.values ≡ Some (None, c.next_name.new.self) = grind arith in
    (l.invariant.0, l.invariant.1 ∙ members_end c.args.depth l.invariant.0 l.values c.next_name.new.self over, l.invariant.2)
