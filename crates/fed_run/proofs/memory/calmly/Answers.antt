use Rattle.std.proofs.Common.{◌≡◌, ◌∙◌, ◌+◌, length, arith, ap, sym, subst}
use Rattle.fed_io.specs.Io.{Rose}
use Rattle.fed_run.proofs.forms.InMemory.{completes, never-rose, is-full}
use Rattle.fed_run.proofs.memory.calmly.Goals as goal

pub returns : goal.returns
returns g c =
    let e = c.fedcm-status.ensures in
    let source : c.source.inside.inner ≡ c.fedcm-status.new.source = c.source.view_is in
    let sink : c.sink.inside.inner ≡ c.fedcm-status.new.sink = c.sink.view_is in
    let calm = c.source.invariant in
    let kept = c.sink.invariant in
    let start = c.args.sink in
    record {
      complete = λ some fits.
          rw sink (completes _ _ _ _ _ _ _ some fits (λ is. e.usage.0 is) (λ is. (e.done is).1) (λ is. (e.not_twins is).1)
          (λ is. (e.faulty is).1) (λ is. (e.not_saved is).1) (λ is. (e.differs is).1)
          (λ is. (e.bad_script is).1) (λ is. (e.too_long is).1)
          (λ is. never-rose _ _ c.requires.calm_source.1 (ap (λ s. s.faults) (sym source) ∙ calm.1) (e.read_fault is).0)
          (λ is. (
            subst (λ s. length s.taken ≡ length start.taken + start.room) sink
                (let room = is-full _ _ _ c.requires.calm_sink.1
                (subst (λ s. Rose start.faults s.faults) (sym sink) (e.write_fault is).0) kept.2 in
                omega (arith, room, kept.1, c.requires.capacity)),
            (e.write_fault is).1,
          )));
    }
