-- What is told of the bytes that were read is told of the source.
use Rattle.std.proofs.Common.{◌≡◌, ◌∙◌, ℕ, ◌+◌, ◌<◌, ◌≤◌, ◌⊎◌, inl, inr, List, [], ◌++◌, length}
use Rattle.std.proofs.Common.{Option, Some, None, refl, rules, sym, ap, subst, arith, append-nil, length-append}
use Rattle.std.specs.Prelude.{IfSome}
use Rattle.std.specs.Io.KnownBytes.{Appends, Keeps, Consumes, IsAtEnd}
use Rattle.fed_io.specs.Io.{AppendsLess}
use Rattle.fed_run.specs.declared.answer.Whole.{Whole}
use Rattle.fed_run.specs.declared.answer.Whole.TheVariants as wholes
use Rattle.fed_run.specs.declared.form.Form.TheVariants.{Twin, Audit, Compare, Save, Slice}
use Rattle.fed_run.specs.declared.status.Status.{Status}
use Rattle.fed_run.specs.declared.status.Status.TheVariants.{Done, WriteFault, NoRoom, TooLong, NotTwins, Faulty, NotSaved, Differs}
use Rattle.fed_run.specs.Run.{TakesExactly}
use Rattle.fed_run.specs.Ends.{EndsWhole, EndsAs, Writes, WritesLess, HasEnded, IsWhole, whole_form}
use Rattle.fed_run.proofs.wholes.Ends.{Ending, Cut, All, ending, ended, twin_alone, audit_alone, compare_alone, save_alone}

-- for the bytes that were read, and whatever was left, the form ends so
abbrev pub Comes : Whole → ℕ → List ℕ → Status → List ℕ → Type 0
Comes form limit read status text = (more : List ℕ) → IsWhole limit read more → EndsWhole form limit (read ++ more) status text

-- what is so of what was read, and whatever was left, is so of the told bytes
pub of_source : (P : List ℕ → Type 0) (limit : ℕ) (old new : Option (List ℕ)) (read : List ℕ) → Consumes old new read
    → (length read ≤ limit → IsAtEnd new)
    → ((more : List ℕ) → IsWhole limit read more → P (read ++ more)) → IfSome old P
of_source P limit None new read takes end each = tt
of_source P limit (Some xs) None read takes end each = absurd takes
of_source P limit (Some xs) (Some ys) read takes end each = subst P (sym takes) (each ys end)

-- where nothing was left
comes_here : (form : Whole) (limit : ℕ) (read : List ℕ) (status : Status) (text : List ℕ) → Comes form limit read status text
    → Ending form limit (read ++ []) status text
comes_here form limit read status text comes = ending form limit (read ++ []) status text (comes [] (λ h. refl))

-- where a form ends so, its bytes are within the limit
abbrev pub Within : Status → Type 0
Within Done = Unit {0}
Within NotTwins = Unit {0}
Within Faulty = Unit {0}
Within NotSaved = Unit {0}
Within Differs = Unit {0}
Within _ = ⊥

not_too_long : (form : Whole) (limit : ℕ) (bytes : List ℕ) (status : Status) (text : List ℕ) → Within status
    → Ending form limit bytes status text → length bytes ≤ limit
not_too_long form limit bytes status text w (Cut long None c) = absurd (subst Within c.0 w)
not_too_long form limit bytes status text w (Cut long (Some stop) c) = absurd (subst Within c.0 w)
not_too_long form limit bytes status text w (All short h) = short

-- the source was then read to its end
pub at_end : (form : Whole) (limit : ℕ) (new : Option (List ℕ)) (read : List ℕ) (status : Status) (text : List ℕ)
    → Within status → Comes form limit read status text → (length read ≤ limit → IsAtEnd new) → IsAtEnd new
at_end form limit new read status text is comes end =
    let whole = not_too_long form limit (read ++ []) status text is (comes_here form limit read status text comes) in
    end (subst (λ n. n ≤ limit) (ap length (append-nil read)) whole)

-- the form ends as it does
ends_as : (form : Whole) (limit : ℕ) (bytes : List ℕ) (status status' : Status) (text : List ℕ)
    → status ≡ status' → EndsWhole form limit bytes status text → EndsAs limit (Some (whole_form form)) bytes status'
ends_as wholes.Twin limit bytes status status' text is h =
    record { is = Twin; named = refl; text = text; ends = subst (λ s. EndsWhole wholes.Twin limit bytes s text) is h }
ends_as wholes.Audit limit bytes status status' text is h =
    record { is = Audit; named = refl; text = text; ends = subst (λ s. EndsWhole wholes.Audit limit bytes s text) is h }
ends_as wholes.Compare limit bytes status status' text is h =
    record { is = Compare; named = refl; text = text; ends = subst (λ s. EndsWhole wholes.Compare limit bytes s text) is h }
ends_as wholes.Save limit bytes status status' text is h =
    record { is = Save; named = refl; text = text; ends = subst (λ s. EndsWhole wholes.Save limit bytes s text) is h }
ends_as (wholes.Slice party) limit bytes status status' text is h =
    record { is = Slice party; named = refl; text = text; ends = subst (λ s. EndsWhole (wholes.Slice party) limit bytes s text) is h }

-- and the sink took its text
writes_as : (form : Whole) (limit : ℕ) (bytes : List ℕ) (status status' : Status) (text : List ℕ) (taken taken' : Option (List ℕ))
    → status ≡ status' → EndsWhole form limit bytes status text → Appends taken taken' text
    → Writes limit (Some (whole_form form)) bytes status' taken taken'
unfolding ends_as
writes_as wholes.Twin limit bytes status status' text taken taken' is h took =
    record { ends = ends_as wholes.Twin limit bytes status status' text is h; took = took }
writes_as wholes.Audit limit bytes status status' text taken taken' is h took =
    record { ends = ends_as wholes.Audit limit bytes status status' text is h; took = took }
writes_as wholes.Compare limit bytes status status' text taken taken' is h took =
    record { ends = ends_as wholes.Compare limit bytes status status' text is h; took = took }
writes_as wholes.Save limit bytes status status' text taken taken' is h took =
    record { ends = ends_as wholes.Save limit bytes status status' text is h; took = took }
writes_as (wholes.Slice party) limit bytes status status' text taken taken' is h took =
    record { ends = ends_as (wholes.Slice party) limit bytes status status' text is h; took = took }

less_as : (form : Whole) (limit : ℕ) (bytes : List ℕ) (status : Status) (text : List ℕ) (taken taken' : Option (List ℕ))
    → EndsWhole form limit bytes status text → (status ≡ TooLong → ⊥) → AppendsLess taken taken' text
    → WritesLess limit (Some (whole_form form)) bytes taken taken'
unfolding ends_as
less_as wholes.Twin limit bytes status text taken taken' h some took =
    record { status = status; ends = ends_as wholes.Twin limit bytes status status text refl h; some = some; took = took }
less_as wholes.Audit limit bytes status text taken taken' h some took =
    record { status = status; ends = ends_as wholes.Audit limit bytes status status text refl h; some = some; took = took }
less_as wholes.Compare limit bytes status text taken taken' h some took =
    record { status = status; ends = ends_as wholes.Compare limit bytes status status text refl h; some = some; took = took }
less_as wholes.Save limit bytes status text taken taken' h some took =
    record { status = status; ends = ends_as wholes.Save limit bytes status status text refl h; some = some; took = took }
less_as (wholes.Slice party) limit bytes status text taken taken' h some took =
    record { status = status; ends = ends_as (wholes.Slice party) limit bytes status status text refl h; some = some; took = took }

-- ---- what a write says

-- a form ends by one of its statuses
pub has_ended : (form : Whole) (limit : ℕ) (read : List ℕ) (status : Status) (text : List ℕ) → Comes form limit read status text
    → HasEnded status
has_ended form limit read status text comes =
    ended form limit (read ++ []) status text (comes_here form limit read status text comes)

-- by these one form ends alone
pub of_twin : (form : Whole) (limit : ℕ) (read : List ℕ) (status : Status) (text : List ℕ) → Comes form limit read status text
    → status ≡ NotTwins → form ≡ wholes.Twin
of_twin form limit read status text comes is =
    twin_alone form limit (read ++ []) text
    (subst (λ s. Ending form limit (read ++ []) s text) is (comes_here form limit read status text comes))

pub of_audit : (form : Whole) (limit : ℕ) (read : List ℕ) (status : Status) (text : List ℕ) → Comes form limit read status text
    → status ≡ Faulty → form ≡ wholes.Audit
of_audit form limit read status text comes is =
    audit_alone form limit (read ++ []) text
    (subst (λ s. Ending form limit (read ++ []) s text) is (comes_here form limit read status text comes))

pub of_compare : (form : Whole) (limit : ℕ) (read : List ℕ) (status : Status) (text : List ℕ) → Comes form limit read status text
    → status ≡ Differs → form ≡ wholes.Compare
of_compare form limit read status text comes is =
    compare_alone form limit (read ++ []) text
    (subst (λ s. Ending form limit (read ++ []) s text) is (comes_here form limit read status text comes))

pub of_save : (form : Whole) (limit : ℕ) (read : List ℕ) (status : Status) (text : List ℕ) → Comes form limit read status text
    → status ≡ NotSaved → form ≡ wholes.Save
of_save form limit read status text comes is =
    save_alone form limit (read ++ []) text
    (subst (λ s. Ending form limit (read ++ []) s text) is (comes_here form limit read status text comes))

-- a form never ends by this status
pub never : (result status other : Status) → HasEnded status → (result ≡ status) ⊎ (result ≡ WriteFault)
    → (HasEnded other → ⊥) → (other ≡ WriteFault → ⊥)
    → result ≡ other → ⊥
never result status other has (inl same) no_end no_fault is = no_end (subst HasEnded (sym same ∙ is) has)
never result status other has (inr fault) no_end no_fault is = no_fault (sym is ∙ fault)

-- where it is no fault, the form ended so
pub is_status : (result status other : Status) → (result ≡ status) ⊎ (result ≡ WriteFault) → (other ≡ WriteFault → ⊥)
    → result ≡ other → status ≡ other
is_status result status other (inl same) no_fault is = sym same ∙ is
is_status result status other (inr fault) no_fault is = absurd (no_fault (sym is ∙ fault))

-- the whole text was taken
pub writes : (form : Whole) (limit : ℕ) (read : List ℕ) (old new taken taken' : Option (List ℕ))
    (status other : Status) (text : List ℕ)
    → Consumes old new read → (length read ≤ limit → IsAtEnd new) → Comes form limit read status text → status ≡ other
    → Appends taken taken' text
    → IfSome old (λ bytes. (length bytes ≤ limit → IsAtEnd new) × Writes limit (Some (whole_form form)) bytes other taken taken')
writes form limit read old new taken taken' status other text takes end comes is took =
    of_source (λ bytes. (length bytes ≤ limit → IsAtEnd new)
    × Writes limit (Some (whole_form form)) bytes other taken taken') limit old new read takes end
    (λ more whole. (
      λ few. end (omega (arith, few, length-append read more)),
      writes_as form limit (read ++ more) status other text taken taken' is (comes more whole) took,
    ))

-- it ends as the form does
pub ends_so : (form : Whole) (limit : ℕ) (read : List ℕ) (old new : Option (List ℕ)) (status other : Status) (text : List ℕ)
    → Consumes old new read → (length read ≤ limit → IsAtEnd new) → Comes form limit read status text → status ≡ other
    → IfSome old (λ bytes. EndsAs limit (Some (whole_form form)) bytes other ⊎ (other ≡ NoRoom))
ends_so form limit read old new status other text takes end comes is =
    of_source (λ bytes. EndsAs limit (Some (whole_form form)) bytes other ⊎ (other ≡ NoRoom)) limit old new read takes end
    (λ more whole. inl (ends_as form limit (read ++ more) status other text is (comes more whole)))

-- of both facts, the second
pub second_of : (Q P : List ℕ → Type 0) (old : Option (List ℕ)) → IfSome old (λ bytes. Q bytes × P bytes) → IfSome old P
second_of Q P None h = tt
second_of Q P (Some xs) h = h.1

-- less than the text was taken
pub writes_less : (form : Whole) (limit : ℕ) (read : List ℕ) (old new taken taken' : Option (List ℕ))
    (status : Status) (text : List ℕ)
    → Consumes old new read → (length read ≤ limit → IsAtEnd new) → Comes form limit read status text → (status ≡ TooLong → ⊥)
    → AppendsLess taken taken' text
    → IfSome old (λ bytes. WritesLess limit (Some (whole_form form)) bytes taken taken')
writes_less form limit read old new taken taken' status text takes end comes some took =
    of_source (λ bytes. WritesLess limit (Some (whole_form form)) bytes taken taken') limit old new read takes end
    (λ more whole. less_as form limit (read ++ more) status text taken taken' (comes more whole) some took)

-- ---- too many bytes

long_text : (form : Whole) (limit : ℕ) (bytes text : List ℕ) → Ending form limit bytes TooLong text → text ≡ []
long_text form limit bytes text (Cut long None c) = c.1
long_text form limit bytes text (Cut long (Some stop) c) = absurd (search (c.0, rules))
long_text wholes.Twin limit bytes text (All short h) = absurd h
long_text wholes.Audit limit bytes text (All short h) = absurd h
long_text wholes.Compare limit bytes text (All short h) = absurd h
long_text wholes.Save limit bytes text (All short h) = absurd h
long_text (wholes.Slice party) limit bytes text (All short h) = absurd h

keeps_appends : (taken taken' : Option (List ℕ)) → Keeps taken taken' → Appends taken taken' []
keeps_appends None taken' keeps = tt
keeps_appends (Some xs) None keeps = absurd keeps
keeps_appends (Some xs) (Some ys) keeps = keeps ∙ sym (append-nil xs)

-- nothing is written of them
pub writes_nothing : (form : Whole) (limit : ℕ) (read : List ℕ) (old new taken taken' : Option (List ℕ)) (status : Status) (text : List ℕ)
    → Consumes old new read → (length read ≤ limit → IsAtEnd new) → Comes form limit read status text → status ≡ TooLong
    → Keeps taken taken'
    → IfSome old (λ bytes. Writes limit (Some (whole_form form)) bytes TooLong taken taken')
writes_nothing form limit read old new taken taken' status text takes end comes is keeps =
    of_source (λ bytes. Writes limit (Some (whole_form form)) bytes TooLong taken taken') limit old new read takes end
    (λ more whole.
    let so : EndsWhole form limit (read ++ more) TooLong text =
    subst (λ s. EndsWhole form limit (read ++ more) s text) is (comes more whole) in
    let none = long_text form limit (read ++ more) text (ending form limit (read ++ more) TooLong text so) in
    writes_as form limit (read ++ more) TooLong TooLong text taken taken' refl so
    (subst (Appends taken taken') (sym none) (keeps_appends taken taken' keeps)))

long_bytes : (form : Whole) (limit : ℕ) (bytes text : List ℕ) → Ending form limit bytes TooLong text → limit < length bytes
long_bytes form limit bytes text (Cut long stop c) = long
long_bytes wholes.Twin limit bytes text (All short h) = absurd h
long_bytes wholes.Audit limit bytes text (All short h) = absurd h
long_bytes wholes.Compare limit bytes text (All short h) = absurd h
long_bytes wholes.Save limit bytes text (All short h) = absurd h
long_bytes (wholes.Slice party) limit bytes text (All short h) = absurd h

-- the byte after the limit was read
pub past : (form : Whole) (limit : ℕ) (read : List ℕ) (old new : Option (List ℕ)) (status : Status) (text : List ℕ)
    → Consumes old new read → length read ≤ limit + 1 → Comes form limit read status text → status ≡ TooLong
    → TakesExactly old new (limit + 1)
past form limit read old new status text takes few comes is =
    let so : Ending form limit (read ++ []) TooLong text =
    subst (λ s. Ending form limit (read ++ []) s text) is (comes_here form limit read status text comes) in
    let some : limit < length read = subst (λ l. limit < length l) (append-nil read) (long_bytes form limit (read ++ []) text so) in
    (read, takes, omega (arith, few, some))
