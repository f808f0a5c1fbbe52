use Rattle.std.proofs.Common.{◌≡◌, Some, None, refl, ◌∙◌, arith}
use Rattle.json.specs.Json.{read_key}
use Rattle.serde_json.specs.Data.{no_members, put}
use Rattle.fed_json.proofs.values.Steps.{members_end, members_more, members_stop, members_unnamed}
use Rattle.fed_audit.proofs.members.Found.{found_more, found_none}
use Rattle.fed_audit.proofs.said.read_members.Goals as goal

pub loop-name-init : goal.loop-name-init
loop-name-init c = (no_members, refl, found_none _ c.requires)

pub loop-name-preserved : goal.loop-name-preserved
loop-name-preserved c =
    let l = c.loop-name in
    let k = c.in-Some.name.now in
    let s = c.next_name.new.self in
    let key : read_key l.values ≡ Some (Some k, s) = grind arith in
    let took = c.in_ok-first.ensures.value in (
      put k took.0 l.invariant.0,
      l.invariant.1 ∙ members_more c.args.depth l.invariant.0 l.values s c.pass.new.self k took.0 key took.1,
      rw c.find_under.ensures (found_more k _ took.0 l.invariant.0 c.args.asked.now l.asked took.2 l.invariant.2),
    )

pub returns-in_err-name : goal.returns-in_err-name
returns-in_err-name c =
    let l = c.loop-name in
    let none = l.invariant.1 ∙ members_unnamed c.args.depth l.invariant.0 l.values c.in_err-name.ensures.value in
    grind (arith, none)

pub returns-in_err-first : goal.returns-in_err-first
returns-in_err-first c =
    let l = c.loop-name in
    let k = c.in-Some.name.now in
    let s = c.next_name.new.self in
    let key : read_key l.values ≡ Some (Some k, s) = grind arith in
    let none = l.invariant.1 ∙ members_stop c.args.depth l.invariant.0 l.values s k key c.in_err-first.ensures.value in
    grind (arith, none)

pub returns : goal.returns
returns c =
    let l = c.loop-name in
    let over : read_key l.values ≡ Some (None, c.next_name.new.self) = grind arith in
    (l.invariant.0, l.invariant.1 ∙ members_end c.args.depth l.invariant.0 l.values c.next_name.new.self over, l.invariant.2)
