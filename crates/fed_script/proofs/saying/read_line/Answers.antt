use Rattle.std.proofs.Common.{◌≡◌, ◌<◌, Some, None, refl, ◌∙◌, length, arith}
use Rattle.json.specs.Json.{read_key}
use Rattle.serde_json.specs.Data.{no_members, put}
use Rattle.fed_json.proofs.values.Steps.{members_end, members_more, members_stop, members_unnamed, value_shorter}
use Rattle.fed_json.specs.Values.{members_in}
use Rattle.fed_script.specs.Entries.{all_said, entries_seen}
use Rattle.fed_script.proofs.says.Steps.{says-nothing}
use Rattle.fed_script.proofs.says.Stops.{stops, stops_as}
use Rattle.fed_script.proofs.says.Reading.{providers_put}
use Rattle.fed_script.proofs.saying.read_line.Goals as goal

pub loop-name-init : goal.loop-name-init
loop-name-init c = (no_members, refl, says-nothing _ c.requires.members, c.requires.providers)

pub returns-in_err-name : goal.returns-in_err-name
returns-in_err-name c =
    let l = c.loop-name in
    stops _ _ _ _ _ c.from_residual.ensures.1
    (l.invariant.1 ∙ members_unnamed c.args.depth l.invariant.0 l.values c.in_err-name.ensures.value)

pub returns-in_err-first : goal.returns-in_err-first
returns-in_err-first c =
    let l = c.loop-name in
    let k = c.in-Some.name.now in
    let s = c.next_name.new.self in
    let key : read_key l.values ≡ Some (Some k, s) = grind arith in
    stops _ _ _ _ _ c.from_residual-in_err-first.ensures.1
    (l.invariant.1 ∙ members_stop c.args.depth l.invariant.0 l.values s k key c.in_err-first.ensures.value)

pub returns-in_err-read_value : goal.returns-in_err-read_value
returns-in_err-read_value c =
    let l = c.loop-name in
    let k = c.in-Some.name.now in
    let s = c.next_name.new.self in
    let key : read_key l.values ≡ Some (Some k, s) = grind arith in
    stops_as _ (members_in c.args.depth no_members c.args.values.now) _ _ _ c.from_residual-in_err-read_value.ensures.1
    c.in_err-read_value.ensures
    (λ none. l.invariant.1 ∙ members_stop c.args.depth l.invariant.0 l.values s k key (c.in_ok-first.ensures.value ∙ none))

pub loop-name-smaller : goal.loop-name-smaller
loop-name-smaller c =
    let took = c.in_ok-read_value.ensures in
    let less = value_shorter c.args.depth c.next_name.new.self c.read_value.new.values took.0 (c.in_ok-first.ensures.value ∙ took.1) in
    let h : length c.read_value.new.values < length c.loop-name.values = omega (arith, less, c.in_ok-name.ensures.shorter) in
    h

pub loop-name-preserved : goal.loop-name-preserved
loop-name-preserved c =
    let l = c.loop-name in
    let k = c.in-Some.name.now in
    let s = c.next_name.new.self in
    let key : read_key l.values ≡ Some (Some k, s) = grind arith in
    let took = c.in_ok-read_value.ensures in (
      put k took.0 l.invariant.0,
      l.invariant.1 ∙ members_more c.args.depth l.invariant.0 l.values s c.read_value.new.values k took.0 key
          (c.in_ok-first.ensures.value ∙ took.1),
      c.note.ensures l.invariant.0 took.0 took.2.0 l.invariant.2,
      providers_put k took.0 l.invariant.0 (all_said (entries_seen l.said.providers)) (all_said (entries_seen c.read_value.new.providers))
          took.2.1 l.invariant.3,
    )

pub returns : goal.returns
returns c =
    let l = c.loop-name in
    let over : read_key l.values ≡ Some (None, c.next_name.new.self) = grind arith in (
      l.invariant.0,
      l.invariant.1 ∙ members_end c.args.depth l.invariant.0 l.values c.next_name.new.self over,
      record { members = l.invariant.2; providers = l.invariant.3 },
    )
