use Rattle.std.proofs.Common.{◌≡◌, Some, None, refl, ap, ◌∙◌, arith}
use Rattle.json.specs.Json.{read_key}
use Rattle.json.proofs.Grammar.{read_key-shorter}
use Rattle.serde_json.specs.Data.{no_members, put}
use Rattle.fed_json.proofs.values.Steps.{members_end, members_more, members_stop, members_unnamed}
use Rattle.fed_provider.specs.Listed.{parts_with}
use Rattle.fed_provider.proofs.files.Named.{parts_more}
use Rattle.fed_provider.proofs.listed.take_members.Goals as goal

pub loop-name-init : goal.loop-name-init
loop-name-init c = record { passed = no_members; all = refl; names = refl; left = omega arith }

pub returns-in_err-name : goal.returns-in_err-name
returns-in_err-name c =
    let l = c.loop-name in
    let none = l.invariant.all ∙ members_unnamed c.args.depth l.invariant.passed l.values c.in_err-name.ensures.value in
    grind (arith, none)

pub returns-in_err-named : goal.returns-in_err-named
returns-in_err-named c =
    let l = c.loop-name in
    let k = c.in-Some.name.now in
    let s = c.next_name.new.self in
    let key : read_key l.values ≡ Some (Some k, s) = grind arith in
    let none = l.invariant.all ∙ members_stop c.args.depth l.invariant.passed l.values s k key c.in_err-named.ensures.value in
    grind (arith, none)

pub loop-name-preserved : goal.loop-name-preserved
loop-name-preserved c =
    let l = c.loop-name in
    let k = c.in-Some.name.now in
    let s = c.next_name.new.self in
    let key : read_key l.values ≡ Some (Some k, s) = grind arith in
    let less = read_key-shorter l.values (Some k) s key in
    let lesser = c.in_ok-named.ensures.shorter in
    let took = c.in_ok-named.ensures.value in
    record {
      passed = put k took.0 l.invariant.passed;
      all = l.invariant.all ∙ members_more c.args.depth l.invariant.passed l.values s c.take_member.new.values k took.0 key took.1;
      names = took.2 ∙ (ap (parts_with k took.0) l.invariant.names ∙ parts_more k took.0 l.invariant.passed);
      left = omega (arith, l.invariant.left);
    }

pub returns : goal.returns
returns c =
    let l = c.loop-name in
    let over : read_key l.values ≡ Some (None, c.next_name.new.self) = grind arith in
    let ms = l.invariant.passed in
    (ms, l.invariant.all ∙ members_end c.args.depth ms l.values c.next_name.new.self over, l.invariant.names)
