use Rattle.std.proofs.Common.{refl, sym, ap, ◌∙◌, arith}
use lib.Count.{count_trailing_zeros}
use Rattle.json.specs.Run.{is_stop, is_plain}
use Rattle.fed_escape.proofs.runs.Runs.{run_through, run_stops, stops_within}
use Rattle.fed_escape.proofs.runs.Written.{front_put}
use Rattle.fed_escape.proofs.vectors.put_run_8.Goals as goal

pub returns-then-stops-eq0-clause-plain : goal.returns-then-stops-eq0-clause-plain
returns-then-stops-eq0-clause-plain c =
    let run = run_through is_stop is_plain (λ x. refl) c.args.left.now 0 8 (omega (arith, c.requires.0)) (omega (arith, c.stops_of_8-stops.ensures)) in
    omega (arith, run)

pub returns-then-stops-eq0-clause-written : goal.returns-then-stops-eq0-clause-written
returns-then-stops-eq0-clause-written c =
    front_put 8 c.args.at 8 c.args.room.now c.args.left.now c.requires.0 c.requires.1 (omega arith)

pub returns-clause-plain : goal.returns-clause-plain
returns-clause-plain c =
    let stops = c.stops_of_8-stops in
    let run = run_stops is_stop is_plain (λ x. refl) c.args.left.now 0 8 (omega (arith, c.requires.0)) (omega arith) (omega (arith, stops.ensures)) ∙ ap (count_trailing_zeros 64) (sym stops.ensures) in
    omega (arith, run)

pub returns-clause-some : goal.returns-clause-some
returns-clause-some c some =
    let stops = c.stops_of_8-stops in
    let run = run_stops is_stop is_plain (λ x. refl) c.args.left.now 0 8 (omega (arith, c.requires.0)) (omega arith) (omega (arith, stops.ensures)) ∙ ap (count_trailing_zeros 64) (sym stops.ensures) in
    omega (arith, run, some)

pub returns-clause-within : goal.returns-clause-within
returns-clause-within c =
    let stops = c.stops_of_8-stops in
    let run = stops_within is_stop is_plain (λ x. refl) c.args.left.now 0 8 (omega (arith, c.requires.0)) (omega arith) (omega (arith, stops.ensures)) in
    let is = ap (count_trailing_zeros 64) stops.ensures in
    omega (arith, run, is)

pub returns-clause-written : goal.returns-clause-written
returns-clause-written c =
    let stops = c.stops_of_8-stops in
    let run = stops_within is_stop is_plain (λ x. refl) c.args.left.now 0 8 (omega (arith, c.requires.0)) (omega arith) (omega (arith, stops.ensures)) in
    let is = ap (count_trailing_zeros 64) stops.ensures in
    front_put 8 c.args.at _ c.args.room.now c.args.left.now c.requires.0 c.requires.1 (omega (arith, run, is))
