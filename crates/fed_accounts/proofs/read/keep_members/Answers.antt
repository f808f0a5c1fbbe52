use Rattle.std.proofs.Common.{◌≡◌, bytes_eq, false, Some, None, refl, ◌∙◌, arith, rules}
use Rattle.std.specs.Prelude.{codes}
use Rattle.std.specs.Option.{option_copied}
use Rattle.json.specs.Json.{read_key}
use Rattle.json.proofs.Grammar.{read_key-shorter}
use Rattle.serde_json.specs.Data.{no_members, put}
use Rattle.fed_json.specs.Values.{members_in}
use Rattle.fed_json.proofs.values.Steps.{members_end, members_more, members_stop, members_unnamed, value_shorter}
use Rattle.fed_accounts.proofs.ids.Reading.{under_name, under_other}
use Rattle.fed_accounts.proofs.lists.Stops.{stops, part_stops}
use Rattle.fed_accounts.proofs.read.keep_members.Goals as goal

pub loop-kept-init : goal.loop-kept-init
loop-kept-init c = (no_members, refl, refl, tt)

pub returns-in_err-name-clause-answer : goal.returns-in_err-name-clause-answer
returns-in_err-name-clause-answer c =
    let l = c.loop-kept in
    stops _ _ _ _ _ c.from_residual.ensures.1
    (l.invariant.1 ∙ members_unnamed c.args.depth l.invariant.0 l.values c.in_err-name.ensures.value)

pub returns-in-Err-clause-answer : goal.returns-in-Err-clause-answer
returns-in-Err-clause-answer c =
    let l = c.loop-kept in
    let s = c.next_name.new.self in
    let key : read_key l.values ≡ Some (Some c.in-Some.name.now, s) = grind arith in
    part_stops (members_in c.args.depth no_members c.args.values.now) c.in-Err.fault c.in-Err.ensures.answer
    (λ none. l.invariant.1 ∙ members_stop c.args.depth l.invariant.0 l.values s c.in-Some.name.now key none)

pub loop-kept-smaller-then-eq : goal.loop-kept-smaller-then-eq
loop-kept-smaller-then-eq c =
    let l = c.loop-kept in
    let s = c.next_name.new.self in
    let key : read_key l.values ≡ Some (Some c.in-Some.name.now, s) = grind arith in
    let took = c.in-Ok.ensures.answer in
    let less = read_key-shorter l.values (Some c.in-Some.name.now) s key in
    let lesser = value_shorter c.args.depth s c.keep_list.new.values took.0 took.1 in
    omega (arith, less, lesser)

pub loop-kept-preserved-then-eq : goal.loop-kept-preserved-then-eq
loop-kept-preserved-then-eq c =
    let l = c.loop-kept in
    let s = c.next_name.new.self in
    let name = c.in-Some.name.now in
    let key : read_key l.values ≡ Some (Some name, s) = grind arith in
    let is : name ≡ codes "accounts" = search rules in
    let took = c.in-Ok.ensures.answer in (
      put name took.0 l.invariant.0,
      l.invariant.1 ∙ members_more c.args.depth l.invariant.0 l.values s c.keep_list.new.values name took.0 key took.1,
      took.2 ∙ under_name (option_copied c.args.login) (option_copied c.args.domain) name took.0 l.invariant.0 is,
      c.in-Ok.ensures.distinct,
    )

pub loop-kept-preserved : goal.loop-kept-preserved
loop-kept-preserved c =
    let l = c.loop-kept in
    let s = c.next_name.new.self in
    let name = c.in-Some.name.now in
    let key : read_key l.values ≡ Some (Some name, s) = grind arith in
    let differs : bytes_eq name (codes "accounts") ≡ false = search rules in
    let took = c.in_ok-skip.ensures.value in (
      put name took.0 l.invariant.0,
      l.invariant.1 ∙ members_more c.args.depth l.invariant.0 l.values s c.skip.new.self name took.0 key took.1,
      l.invariant.2 ∙ under_other (option_copied c.args.login) (option_copied c.args.domain) name took.0 l.invariant.0 differs,
      l.invariant.3,
    )

pub returns-in_err-skip-clause-answer : goal.returns-in_err-skip-clause-answer
returns-in_err-skip-clause-answer c =
    let l = c.loop-kept in
    let s = c.next_name.new.self in
    let key : read_key l.values ≡ Some (Some c.in-Some.name.now, s) = grind arith in
    stops _ _ _ _ _ c.from_residual-in_err-skip.ensures.1
    (l.invariant.1 ∙ members_stop c.args.depth l.invariant.0 l.values s c.in-Some.name.now key c.in_err-skip.ensures.value)

pub returns-clause-answer : goal.returns-clause-answer
returns-clause-answer c =
    let l = c.loop-kept in
    let over : read_key l.values ≡ Some (None, c.next_name.new.self) = grind arith in
    (l.invariant.0, l.invariant.1 ∙ members_end c.args.depth l.invariant.0 l.values c.next_name.new.self over, l.invariant.2)
