use Rattle.std.proofs.Common.{◌+◌, length, true, false, ap, ◌∙◌, arith}
use Rattle.std.specs.Option.{option_copied, option_map_or}
use Rattle.fed_suffix.specs.Label.{labels_before}
use Rattle.fed_suffix.proofs.nodes.Walk.{ending_at-le, walk_next, joined-shorter}
use Rattle.fed_suffix.proofs.walk.+walk.Goals as goal

pub find_longest-loop-name-init : goal.find_longest-loop-name-init
find_longest-loop-name-init t c =
    let labels = labels_before (option_copied c.args.name) in
    let exception = ending_at-le c.args.top.now true c.args.depth labels in
    let plain = ending_at-le c.args.top.now false c.args.depth labels in
    record {
      deep = c.requires;
      left = omega arith;
      exception_here = omega (arith, c.endings-longest.ensures.exception);
      plain_here = omega (arith, c.endings-longest.ensures.plain);
      exception = omega (arith, c.endings-longest.ensures.exception, exception);
      plain = omega (arith, c.endings-longest.ensures.plain, plain);
    }

pub find_longest-loop-name-preserved : goal.find_longest-loop-name-preserved
find_longest-loop-name-preserved t c =
    let node = c.loop-name.node.now in
    let next = c.in-Some-first.next.now in
    let last = c.last_label-last.result in
    let ways = c.ways_on-ways.result in
    let labels = ap (λ o. labels_before (option_copied o)) c.in-Some.is ∙ c.last_label-last.ensures.labels in
    let on = ap option_copied c.in-Some-first.is in
    let shorter = joined-shorter last.before last.label.now c.in-Some.text.now c.last_label-last.ensures.text in
    let measured = ap (λ o. option_map_or (λ name. length name.now + 1) o 0) c.in-Some.is in
    record {
      deep = omega (arith, shorter, measured, c.loop-name.invariant.deep);
      left = omega (arith, shorter, measured, c.loop-name.invariant.left);
      exception_here = omega (arith, c.endings.ensures.exception, c.or-longest-in-Some.ensures.exception);
      plain_here = omega (arith, c.endings.ensures.plain, c.or-longest-in-Some.ensures.plain);
      exception =
          walk_next node next true c.loop-name.depth last.label.now _ (labels_before (option_copied last.before))
          (option_copied ways.first) (option_copied ways.second) _ _ _ _ _ _ labels
          c.ways_on-ways.ensures.first c.ways_on-ways.ensures.second on c.loop-name.invariant.exception_here
          c.loop-name.invariant.exception
          c.find_longest_by.ensures.exception c.or-longest.ensures.exception c.endings.ensures.exception
          c.or-longest-in-Some.ensures.exception;
      plain =
          walk_next node next false c.loop-name.depth last.label.now _ (labels_before (option_copied last.before))
          (option_copied ways.first) (option_copied ways.second) _ _ _ _ _ _ labels
          c.ways_on-ways.ensures.first c.ways_on-ways.ensures.second on c.loop-name.invariant.plain_here
          c.loop-name.invariant.plain
          c.find_longest_by.ensures.plain c.or-longest.ensures.plain c.endings.ensures.plain c.or-longest-in-Some.ensures.plain;
    }

pub find_longest-find_longest_by-requires : goal.find_longest-find_longest_by-requires
find_longest-find_longest_by-requires t c =
    let last = c.last_label-last.result in
    let shorter = joined-shorter last.before last.label.now c.in-Some.text.now c.last_label-last.ensures.text in
    let measured = ap (λ o. option_map_or (λ name. length name.now + 1) o 0) c.in-Some.is in (
      omega (arith, shorter, measured, c.loop-name.invariant.left, c.decreases),
      omega (arith, shorter, measured, c.loop-name.invariant.deep),
    )

pub find_longest-overflow_add-depth : goal.find_longest-overflow_add-depth
find_longest-overflow_add-depth t c =
    let measured = ap (λ o. option_map_or (λ name. length name.now + 1) o 0) c.in-Some.is in
    omega (arith, measured, c.loop-name.invariant.deep)
