use Rattle.std.proofs.Common.{◌≡◌, Some, None, refl, ◌∙◌, arith}
use Rattle.json.specs.Json.{read_key}
use Rattle.json.proofs.Grammar.{read_key-shorter}
use Rattle.serde_json.specs.Data.{no_members, put}
use Rattle.serde_json.specs.Find.{as_str, get_member}
use Rattle.fed_json.proofs.values.Steps.{members_end, members_more, members_stop, members_unnamed}
use Rattle.fed_reply.specs.Members.{member_found}
use Rattle.fed_reply.proofs.asked.Found.{found_more, same_names, of_names}
use Rattle.fed_reply.proofs.texts.take_members.Goals as goal

pub loop-name-init : goal.loop-name-init
loop-name-init c = record { passed = no_members; all = refl; found = c.requires; names = refl; left = omega arith }

pub returns-in_err-name-clause-value : goal.returns-in_err-name-clause-value
returns-in_err-name-clause-value c =
    let l = c.loop-name in
    let none = l.invariant.all ∙ members_unnamed c.args.depth l.invariant.passed l.values c.in_err-name.ensures.value in
    grind (arith, none)

pub returns-in_err-first-clause-value : goal.returns-in_err-first-clause-value
returns-in_err-first-clause-value c =
    let l = c.loop-name in
    let k = c.in-Some.name.now in
    let s = c.next_name.new.self in
    let key : read_key l.values ≡ Some (Some k, s) = grind arith in
    let none = l.invariant.all ∙ members_stop c.args.depth l.invariant.passed l.values s k key c.in_err-first.ensures.value in
    grind (arith, none)

pub loop-name-preserved : goal.loop-name-preserved
loop-name-preserved c =
    let l = c.loop-name in
    let k = c.in-Some.name.now in
    let s = c.next_name.new.self in
    let key : read_key l.values ≡ Some (Some k, s) = grind arith in
    let less = read_key-shorter l.values (Some k) s key in
    let lesser = c.in_ok-first.ensures.shorter in
    let took = c.in_ok-first.ensures.value in
    let text = c.text_of.ensures took.0 took.2 in
    let more = found_more k c.text_of.result took.0 l.invariant.passed l.asked text l.invariant.found in
    let names = same_names k c.text_of.result l.asked in
    record {
      passed = put k took.0 l.invariant.passed;
      all = l.invariant.all ∙ members_more c.args.depth l.invariant.passed l.values s c.pass.new.self k took.0 key took.1;
      found = rw c.find_under.ensures more;
      names = rw c.find_under.ensures (names ∙ l.invariant.names);
      left = omega (arith, l.invariant.left);
    }

pub returns-clause-value : goal.returns-clause-value
returns-clause-value c =
    let l = c.loop-name in
    let over : read_key l.values ≡ Some (None, c.next_name.new.self) = grind arith in
    let ms = l.invariant.passed in (
      ms,
      l.invariant.all ∙ members_end c.args.depth ms l.values c.next_name.new.self over,
      l.invariant.found ∙ of_names (λ n. member_found as_str (get_member n ms)) l.asked c.args.asked.now l.invariant.names,
    )
