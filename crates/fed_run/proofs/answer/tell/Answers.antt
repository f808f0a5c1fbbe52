-- What is written is what the form comes to for the bytes of the source.
use Rattle.std.proofs.Common.{◌≡◌, ◌⊎◌, ℕ, inl, inr, arith, rules, subst, sym}
use Rattle.fed_io.specs.Io.{Rose}
use Rattle.fed_run.specs.declared.status.Status.{Status}
use Rattle.fed_run.specs.Run.{NoneRose}
use Rattle.fed_run.specs.declared.status.Status.TheVariants.{Done, Usage, BadScript, ReadFault, WriteFault, NoRoom, TooLong, NotTwins}
use Rattle.fed_run.specs.declared.status.Status.TheVariants.{Faulty, NotSaved, Differs}
use Rattle.fed_run.specs.Ends.{HasEnded}
use Rattle.fed_run.proofs.wholes.Sources.{Within, at_end, has_ended, never, is_status, writes, writes_less, second_of, writes_nothing, ends_so, past}
use Rattle.fed_run.proofs.wholes.Sources.{of_twin, of_audit, of_compare, of_save}
use Rattle.fed_run.proofs.answer.tell.Goals as goal

not_risen : (before now : ℕ) → NoneRose before now → Rose before now → ⊥
not_risen before now none rose = search (rose, none.0, none.1, arith, rules)

-- where no count rose, the sink took the whole
not_stopped : {before now : ℕ} (result status : Status) → (result ≡ status) ⊎ (result ≡ WriteFault)
    → (result ≡ WriteFault → Rose before now) → NoneRose before now → status ≡ result
not_stopped result status (inl same) fault none = sym same
not_stopped result status (inr stopped) fault none = absurd (not_risen _ _ none (fault stopped))

pub returns-in-Ok-answer-clause-ends : goal.returns-in-Ok-answer-clause-ends
returns-in-Ok-answer-clause-ends g c =
    let has = has_ended c.args.form 67108864 _ c.in-Ok-answer.ran.status c.in-Ok-answer.ran.text c.in-Ok-answer.ensures in
    λ is. absurd (never _ _ Usage has c.write.ensures.ends (λ h. h) (λ e. cc) is)

pub returns-in-Ok-answer-clause-read_fault : goal.returns-in-Ok-answer-clause-read_fault
returns-in-Ok-answer-clause-read_fault g c =
    let has = has_ended c.args.form 67108864 _ c.in-Ok-answer.ran.status c.in-Ok-answer.ran.text c.in-Ok-answer.ensures in
    λ is. absurd (never _ _ ReadFault has c.write.ensures.ends (λ h. h) (λ e. cc) is)

pub returns-in-Ok-answer-clause-no_room : goal.returns-in-Ok-answer-clause-no_room
returns-in-Ok-answer-clause-no_room g c =
    let has = has_ended c.args.form 67108864 _ c.in-Ok-answer.ran.status c.in-Ok-answer.ran.text c.in-Ok-answer.ensures in
    λ is. absurd (never _ _ NoRoom has c.write.ensures.ends (λ h. h) (λ e. cc) is)

pub returns-in-Ok-answer-clause-done : goal.returns-in-Ok-answer-clause-done
returns-in-Ok-answer-clause-done g c = λ done.
    let ran = c.in-Ok-answer.ran in
    let comes = rw c.as_slice.ensures.value at c.in-Ok-answer.ensures in
    let is = is_status _ ran.status Done c.write.ensures.ends (λ e. cc) done in
    let took = c.write.ensures.took (λ long. cc) (λ fault. cc) in (
      at_end c.args.form 67108864 _ _ ran.status ran.text (subst Within (sym is) tt) comes c.in-Ok.ensures.end,
      second_of _ _ _
          (writes c.args.form 67108864 _ _ _ _ _ ran.status Done ran.text
          c.in-Ok.ensures.bytes c.in-Ok.ensures.end comes is took),
    )

pub returns-in-Ok-answer-clause-not_twins : goal.returns-in-Ok-answer-clause-not_twins
returns-in-Ok-answer-clause-not_twins g c = λ differ.
    let ran = c.in-Ok-answer.ran in
    let comes = rw c.as_slice.ensures.value at c.in-Ok-answer.ensures in
    let is = is_status _ ran.status NotTwins c.write.ensures.ends (λ e. cc) differ in
    let took = c.write.ensures.took (λ long. cc) (λ fault. cc) in (
      at_end c.args.form 67108864 _ _ ran.status ran.text (subst Within (sym is) tt) comes c.in-Ok.ensures.end,
      second_of _ _ _
          (writes c.args.form 67108864 _ _ _ _ _ ran.status NotTwins ran.text
          c.in-Ok.ensures.bytes c.in-Ok.ensures.end comes is took),
    )

pub returns-in-Ok-answer-clause-faulty : goal.returns-in-Ok-answer-clause-faulty
returns-in-Ok-answer-clause-faulty g c = λ differ.
    let ran = c.in-Ok-answer.ran in
    let comes = rw c.as_slice.ensures.value at c.in-Ok-answer.ensures in
    let is = is_status _ ran.status Faulty c.write.ensures.ends (λ e. cc) differ in
    let took = c.write.ensures.took (λ long. cc) (λ fault. cc) in (
      at_end c.args.form 67108864 _ _ ran.status ran.text (subst Within (sym is) tt) comes c.in-Ok.ensures.end,
      second_of _ _ _
          (writes c.args.form 67108864 _ _ _ _ _ ran.status Faulty ran.text
          c.in-Ok.ensures.bytes c.in-Ok.ensures.end comes is took),
    )

pub returns-in-Ok-answer-clause-differs : goal.returns-in-Ok-answer-clause-differs
returns-in-Ok-answer-clause-differs g c = λ differ.
    let ran = c.in-Ok-answer.ran in
    let comes = rw c.as_slice.ensures.value at c.in-Ok-answer.ensures in
    let is = is_status _ ran.status Differs c.write.ensures.ends (λ e. cc) differ in
    let took = c.write.ensures.took (λ long. cc) (λ fault. cc) in (
      at_end c.args.form 67108864 _ _ ran.status ran.text (subst Within (sym is) tt) comes c.in-Ok.ensures.end,
      second_of _ _ _
          (writes c.args.form 67108864 _ _ _ _ _ ran.status Differs ran.text
          c.in-Ok.ensures.bytes c.in-Ok.ensures.end comes is took),
    )

pub returns-in-Ok-answer-clause-not_saved : goal.returns-in-Ok-answer-clause-not_saved
returns-in-Ok-answer-clause-not_saved g c = λ differ.
    let ran = c.in-Ok-answer.ran in
    let comes = rw c.as_slice.ensures.value at c.in-Ok-answer.ensures in
    let is = is_status _ ran.status NotSaved c.write.ensures.ends (λ e. cc) differ in
    let took = c.write.ensures.took (λ long. cc) (λ fault. cc) in (
      at_end c.args.form 67108864 _ _ ran.status ran.text (subst Within (sym is) tt) comes c.in-Ok.ensures.end,
      second_of _ _ _
          (writes c.args.form 67108864 _ _ _ _ _ ran.status NotSaved ran.text
          c.in-Ok.ensures.bytes c.in-Ok.ensures.end comes is took),
    )

pub returns-in-Ok-answer-clause-twin_alone : goal.returns-in-Ok-answer-clause-twin_alone
returns-in-Ok-answer-clause-twin_alone g c =
    λ differ. of_twin c.args.form 67108864 _ c.in-Ok-answer.ran.status c.in-Ok-answer.ran.text c.in-Ok-answer.ensures
    (is_status _ c.in-Ok-answer.ran.status NotTwins c.write.ensures.ends (λ e. cc) differ)

pub returns-in-Ok-answer-clause-audit_alone : goal.returns-in-Ok-answer-clause-audit_alone
returns-in-Ok-answer-clause-audit_alone g c =
    λ differ. of_audit c.args.form 67108864 _ c.in-Ok-answer.ran.status c.in-Ok-answer.ran.text c.in-Ok-answer.ensures
    (is_status _ c.in-Ok-answer.ran.status Faulty c.write.ensures.ends (λ e. cc) differ)

pub returns-in-Ok-answer-clause-compare_alone : goal.returns-in-Ok-answer-clause-compare_alone
returns-in-Ok-answer-clause-compare_alone g c =
    λ differ. of_compare c.args.form 67108864 _ c.in-Ok-answer.ran.status c.in-Ok-answer.ran.text c.in-Ok-answer.ensures
    (is_status _ c.in-Ok-answer.ran.status Differs c.write.ensures.ends (λ e. cc) differ)

pub returns-in-Ok-answer-clause-save_alone : goal.returns-in-Ok-answer-clause-save_alone
returns-in-Ok-answer-clause-save_alone g c =
    λ differ. of_save c.args.form 67108864 _ c.in-Ok-answer.ran.status c.in-Ok-answer.ran.text c.in-Ok-answer.ensures
    (is_status _ c.in-Ok-answer.ran.status NotSaved c.write.ensures.ends (λ e. cc) differ)

pub returns-in-Ok-answer-clause-bad_script : goal.returns-in-Ok-answer-clause-bad_script
returns-in-Ok-answer-clause-bad_script g c = λ bad.
    let ran = c.in-Ok-answer.ran in
    let comes = rw c.as_slice.ensures.value at c.in-Ok-answer.ensures in
    let is = is_status _ ran.status BadScript c.write.ensures.ends (λ e. cc) bad in
    let took = c.write.ensures.took (λ long. cc) (λ fault. cc) in
    writes c.args.form 67108864 _ _ _ _ _ ran.status BadScript ran.text
    c.in-Ok.ensures.bytes c.in-Ok.ensures.end comes is took

pub returns-in-Ok-answer-clause-write_fault : goal.returns-in-Ok-answer-clause-write_fault
returns-in-Ok-answer-clause-write_fault g c = λ fault.
    let ran = c.in-Ok-answer.ran in
    let comes = rw c.as_slice.ensures.value at c.in-Ok-answer.ensures in
    let has = has_ended c.args.form 67108864 _ ran.status ran.text comes in
    let rose = c.write.ensures.fault (λ is. subst HasEnded is has) fault in (
      rose.0,
      writes_less c.args.form 67108864 _ _ _ _ _ ran.status ran.text
          c.in-Ok.ensures.bytes c.in-Ok.ensures.end comes (λ long. cc ((c.write.ensures.nothing long).0)) rose.1,
    )

pub returns-in-Ok-answer-clause-too_long : goal.returns-in-Ok-answer-clause-too_long
returns-in-Ok-answer-clause-too_long g c = λ long.
    let ran = c.in-Ok-answer.ran in
    let comes = rw c.as_slice.ensures.value at c.in-Ok-answer.ensures in
    let is = is_status _ ran.status TooLong c.write.ensures.ends (λ e. cc) long in
    let keeps = (c.write.ensures.nothing is).1 in (
      keeps,
      writes_nothing c.args.form 67108864 _ _ _ _ _ ran.status ran.text c.in-Ok.ensures.bytes c.in-Ok.ensures.end comes is
          keeps,
    )

pub returns-in-Ok-answer-clause-past_limit : goal.returns-in-Ok-answer-clause-past_limit
returns-in-Ok-answer-clause-past_limit g c = λ long.
    let ran = c.in-Ok-answer.ran in
    let comes = rw c.as_slice.ensures.value at c.in-Ok-answer.ensures in
    let is = is_status _ ran.status TooLong c.write.ensures.ends (λ e. cc) long in
    past c.args.form 67108864 _ _ _ ran.status ran.text c.in-Ok.ensures.bytes c.in-Ok.ensures.limit comes is

pub returns-in-Ok-answer-clause-complete : goal.returns-in-Ok-answer-clause-complete
returns-in-Ok-answer-clause-complete g c = λ read none.
    let ran = c.in-Ok-answer.ran in
    let comes = rw c.as_slice.ensures.value at c.in-Ok-answer.ensures in
    let has = has_ended c.args.form 67108864 _ ran.status ran.text comes in
    let is : ran.status ≡ c.write.result =
    not_stopped _ _ c.write.ensures.ends (λ fault. (c.write.ensures.fault (λ is. subst HasEnded is has) fault).0) none in
    ends_so c.args.form 67108864 _ _ _ ran.status c.write.result ran.text c.in-Ok.ensures.bytes c.in-Ok.ensures.end comes is
