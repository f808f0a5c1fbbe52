use Rattle.std.proofs.Common.{◌∙◌, sym}
use Rattle.fed_script.proofs.lines.Walk.{walk_begins, walks_on}
use Rattle.fed_run.specs.Recorded.{is_divider}
use Rattle.fed_run.proofs.transcripts.Walk.{walk_divides, walk_counts, walk_undivided, walk_counts_all}
use Rattle.fed_run.proofs.recorded.divide.Goals as goal

pub loop-line-init : goal.loop-line-init
loop-line-init c = walk_begins is_divider c.args.bytes.now

pub loop-line-preserved : goal.loop-line-preserved
loop-line-preserved c =
    walks_on is_divider c.args.bytes.now c.loop-line.rest.now c.in-Some.line.now c.in-Some.after.now c.loop-line.before
    c.loop-line.invariant
    c.in-Some.ensures.line c.in-Some.ensures.lines c.in-Some.ensures.shorter (sym c.is_divider.ensures ∙ c.if-is_divider.false)

pub returns-then-is_divider-clause-halves : goal.returns-then-is_divider-clause-halves
returns-then-is_divider-clause-halves c =
    walk_divides c.args.bytes.now c.loop-line.rest.now c.in-Some.line.now c.in-Some.after.now _ c.loop-line.before c.loop-line.invariant
    c.in-Some.ensures.lines (sym c.is_divider.ensures ∙ c.if-is_divider.true) c.split_at.ensures.front

pub returns-then-is_divider-clause-before : goal.returns-then-is_divider-clause-before
returns-then-is_divider-clause-before c =
    walk_counts c.args.bytes.now c.loop-line.rest.now _ c.loop-line.before c.loop-line.invariant c.split_at.ensures.front

pub returns-clause-halves : goal.returns-clause-halves
returns-clause-halves c =
    walk_undivided c.args.bytes.now c.loop-line.rest.now c.loop-line.before c.loop-line.invariant (sym c.in_default.ensures.line)

pub returns-clause-before : goal.returns-clause-before
returns-clause-before c =
    walk_counts_all c.args.bytes.now c.loop-line.rest.now c.loop-line.before c.loop-line.invariant (sym c.in_default.ensures.line)
