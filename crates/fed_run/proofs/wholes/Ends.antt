-- What a form that reads its source whole comes to for the bytes that were read, it comes to for all bytes of the source.
use Rattle.std.proofs.Common.{◌≡◌, ◌∙◌, ℕ, ◌<◌, ◌≤◌, Bool, true, false, List, ◌++◌, length, take, drop}
use Rattle.std.proofs.Common.{Option, Some, None, refl, sym, ap, subst, arith, append_assoc, append-nil, length-append, length-drop}
use Rattle.std.proofs.lemmas.Bool.Decides.{nat_tests}
use Rattle.std.proofs.lemmas.List.{take-append-drop, length-take}
use Rattle.std.specs.Prelude.{nat_lt, Result, Ok, Err}
use Rattle.fed_audit.specs.declared.difference.Comparison.{Comparison}
use Rattle.fed_audit.specs.declared.difference.Comparison.TheVariants as comes
use Rattle.fed_audit.specs.declared.fault.AuditFault.{AuditFault}
use Rattle.fed_profile.specs.declared.state.Saved.{Saved}
use Rattle.fed_profile.specs.declared.state.Saved.TheVariants as saves
use Rattle.fed_script.specs.declared.cause.PairStop.{PairStop}
use Rattle.fed_script.specs.declared.pair.Pair.{Pair}
use Rattle.fed_script.specs.Pair.{pair_of}
use Rattle.fed_script.specs.Script.{Script}
use Rattle.fed_twin.specs.declared.fault.TwinFault.{TwinFault}
use Rattle.fed_run.specs.declared.answer.Whole.{Whole}
use Rattle.fed_run.specs.declared.answer.Whole.TheVariants as wholes
use Rattle.fed_run.specs.declared.status.Status.{Status}
use Rattle.fed_run.specs.declared.status.Status.TheVariants.{Done, Usage, BadScript, ReadFault, WriteFault, NoRoom, TooLong, NotTwins}
use Rattle.fed_run.specs.declared.status.Status.TheVariants.{Faulty, NotSaved, Differs}
use Rattle.fed_run.specs.Ends.{EndsWhole, EndsWholeBy, HasEnded, IsWhole, TellsAll, TellsAudit, TellsCut, TellsFound, TellsPair, TellsSlice}
use Rattle.fed_run.specs.Ends.{TellsSave, TellsSaved}
use Rattle.fed_run.specs.Ends.{TellsVerdict}
use Rattle.fed_run.specs.Ends.{TellsComparison, TellsFinding}
use Rattle.fed_run.specs.Ends.{bad_line_within}
use Rattle.fed_run.specs.Alone.{alone_of}
use Rattle.fed_run.specs.Recorded.{Recorded, recorded_of}

-- bytes within the limit are not above it
within : (limit n : ℕ) → n ≤ limit → nat_lt limit n ≡ false
within limit n h = grind (arith, nat_tests)

-- bytes above it are
above : (limit n : ℕ) → limit < n → nat_lt limit n ≡ true
above limit n h = grind (arith, nat_tests)

-- of bytes within the limit nothing was left
nothing_left : (limit : ℕ) (bytes more : List ℕ) → length bytes ≤ limit → IsWhole limit bytes more → bytes ++ more ≡ bytes
nothing_left limit bytes more few whole = ap (λ m. bytes ++ m) (whole few) ∙ append-nil bytes

pub ends_of_all : (form : Whole) (limit : ℕ) (bytes more : List ℕ) (status : Status) (text : List ℕ) → length bytes ≤ limit
    → IsWhole limit bytes more → TellsAll form bytes status text → EndsWhole form limit (bytes ++ more) status text
ends_of_all form limit bytes more status text few whole tells =
    let all = nothing_left limit bytes more few whole in
    subst (λ bs. EndsWhole form limit bs status text) (sym all)
    (subst (λ b. EndsWholeBy b form limit bytes status text) (sym (within limit (length bytes) few)) tells)

pub ends_of_more : (form : Whole) (limit : ℕ) (bytes more : List ℕ) (status : Status) (text : List ℕ) → limit < length bytes
    → ((further : List ℕ) → 0 < length further → TellsCut
    (bad_line_within form (length (take limit bytes)) (take limit bytes ++ further)) status text)
    → EndsWhole form limit (bytes ++ more) status text
ends_of_more form limit bytes more status text many tells =
    let further = drop limit bytes ++ more in
    let some : 0 < length further = omega (arith, length-append (drop limit bytes) more, length-drop limit bytes) in
    let front : length (take limit bytes) ≡ limit = simp length-take (omega arith) in
    let all : take limit bytes ++ further ≡ bytes ++ more =
    sym (append_assoc (take limit bytes) (drop limit bytes) more) ∙ ap (λ bs. bs ++ more) (take-append-drop limit bytes) in
    let test = above limit (length (bytes ++ more)) (omega (arith, length-append bytes more)) in
    subst (λ b. EndsWholeBy b form limit (bytes ++ more) status text) (sym test)
    (subst (λ bs. TellsCut (bad_line_within form limit bs) status text) all
    (subst (λ n. TellsCut (bad_line_within form n (take limit bytes ++ further)) status text) front (tells further some)))

-- ---- how it ends

-- the statuses of a form that was told all bytes
abbrev pub IsTold : Whole → Status → Type 0
IsTold form Done = Unit {0}
IsTold form BadScript = Unit {0}
IsTold wholes.Twin NotTwins = Unit {0}
IsTold wholes.Audit Faulty = Unit {0}
IsTold wholes.Compare Differs = Unit {0}
IsTold wholes.Save NotSaved = Unit {0}
IsTold _ _ = ⊥

found_told : (a b : Script) (found : Option TwinFault) (status : Status) (text : List ℕ) → TellsFound a b found status text
    → IsTold wholes.Twin status
found_told a b None status text h = subst (IsTold wholes.Twin) (sym h.ends) tt
found_told a b (Some fault) status text h = subst (IsTold wholes.Twin) (sym h.0) tt

pair_told : (pair : Result Pair PairStop) (status : Status) (text : List ℕ) → TellsPair pair status text → IsTold wholes.Twin status
pair_told (Ok pair) status text h = found_told pair.first pair.second h.found status text h.tells
pair_told (Err stop) status text h = subst (IsTold wholes.Twin) (sym h.0) tt

verdict_told : (recorded : Recorded) (found : Option AuditFault) (status : Status) (text : List ℕ)
    → TellsVerdict recorded found status text → IsTold wholes.Audit status
verdict_told recorded None status text h = subst (IsTold wholes.Audit) (sym h.0) tt
verdict_told recorded (Some fault) status text h = subst (IsTold wholes.Audit) (sym h.0) tt

audit_told : (recorded : Result Recorded PairStop) (status : Status) (text : List ℕ) → TellsAudit recorded status text
    → IsTold wholes.Audit status
audit_told (Ok recorded) status text h = verdict_told recorded h.found status text h.tells
audit_told (Err stop) status text h = subst (IsTold wholes.Audit) (sym h.0) tt

finding_told : (comparison : Comparison) (status : Status) (text : List ℕ) → TellsFinding comparison status text
    → IsTold wholes.Compare status
finding_told (comes.Alike requests) status text h = subst (IsTold wholes.Compare) (sym h.0) tt
finding_told (comes.Differs difference) status text h = subst (IsTold wholes.Compare) (sym h.0) tt

comparison_told : (recorded : Result Recorded PairStop) (status : Status) (text : List ℕ) → TellsComparison recorded status text
    → IsTold wholes.Compare status
comparison_told (Ok recorded) status text h = finding_told h.comparison status text h.tells
comparison_told (Err stop) status text h = subst (IsTold wholes.Compare) (sym h.0) tt

slice_told : (party bytes : List ℕ) (script : Result Script PairStop) (status : Status) (text : List ℕ)
    → TellsSlice party bytes script status text → IsTold (wholes.Slice party) status
slice_told party bytes (Ok script) status text h = subst (IsTold (wholes.Slice party)) (sym h.ends) tt
slice_told party bytes (Err stop) status text h = subst (IsTold (wholes.Slice party)) (sym h.0) tt

saved_told : (saved : Saved) (status : Status) (text : List ℕ) → TellsSaved saved status text → IsTold wholes.Save status
saved_told (saves.Lines lines) status text h = subst (IsTold wholes.Save) (sym h.0) tt
saved_told (saves.Pending call) status text h = subst (IsTold wholes.Save) (sym h.0) tt
saved_told (saves.Item place) status text h = subst (IsTold wholes.Save) (sym h.0) tt

save_told : (script : Result Script PairStop) (status : Status) (text : List ℕ) → TellsSave script status text → IsTold wholes.Save status
save_told (Ok script) status text h = saved_told h.saved status text h.tells
save_told (Err stop) status text h = subst (IsTold wholes.Save) (sym h.0) tt

all_told : (form : Whole) (bytes : List ℕ) (status : Status) (text : List ℕ) → TellsAll form bytes status text → IsTold form status
all_told wholes.Twin bytes status text h = pair_told (pair_of bytes) status text h
all_told wholes.Audit bytes status text h = audit_told (recorded_of bytes) status text h
all_told wholes.Compare bytes status text h = comparison_told (recorded_of bytes) status text h
all_told wholes.Save bytes status text h = save_told (alone_of bytes) status text h
all_told (wholes.Slice party) bytes status text h = slice_told party bytes (alone_of bytes) status text h

-- a form ends so: its bytes are more than the limit, or it was told all of them
pub data Ending (form : Whole) (limit : ℕ) (bytes : List ℕ) (status : Status) (text : List ℕ) : Type 0 where
  Cut : limit < length bytes → (stop : Option PairStop) → TellsCut stop status text → Ending form limit bytes status text
  All : length bytes ≤ limit → IsTold form status → Ending form limit bytes status text

few : (limit n : ℕ) → nat_lt limit n ≡ false → n ≤ limit
few limit n h = grind (arith, nat_tests)

many : (limit n : ℕ) → nat_lt limit n ≡ true → limit < n
many limit n h = grind (arith, nat_tests)

pub ending : (form : Whole) (limit : ℕ) (bytes : List ℕ) (status : Status) (text : List ℕ) → EndsWhole form limit bytes status text
    → Ending form limit bytes status text
ending form limit bytes status text h = by (nat_lt limit (length bytes)) refl h
  where
    by : (b : Bool) → nat_lt limit (length bytes) ≡ b → EndsWholeBy b form limit bytes status text → Ending form limit bytes status text
    by true is c = Cut (many limit (length bytes) is) (bad_line_within form limit bytes) c
    by false is c = All (few limit (length bytes) is) (all_told form bytes status text c)

told_ended : (form : Whole) (status : Status) → IsTold form status → HasEnded status
told_ended form Done h = tt
told_ended form BadScript h = tt
told_ended form NotTwins h = tt
told_ended form Faulty h = tt
told_ended form NotSaved h = tt
told_ended form Differs h = tt
told_ended wholes.Twin Usage h = absurd h
told_ended wholes.Twin ReadFault h = absurd h
told_ended wholes.Twin WriteFault h = absurd h
told_ended wholes.Twin NoRoom h = absurd h
told_ended wholes.Twin TooLong h = absurd h
told_ended wholes.Audit Usage h = absurd h
told_ended wholes.Audit ReadFault h = absurd h
told_ended wholes.Audit WriteFault h = absurd h
told_ended wholes.Audit NoRoom h = absurd h
told_ended wholes.Audit TooLong h = absurd h
told_ended wholes.Compare Usage h = absurd h
told_ended wholes.Compare ReadFault h = absurd h
told_ended wholes.Compare WriteFault h = absurd h
told_ended wholes.Compare NoRoom h = absurd h
told_ended wholes.Compare TooLong h = absurd h
told_ended wholes.Save Usage h = absurd h
told_ended wholes.Save ReadFault h = absurd h
told_ended wholes.Save WriteFault h = absurd h
told_ended wholes.Save NoRoom h = absurd h
told_ended wholes.Save TooLong h = absurd h
told_ended (wholes.Slice party) Usage h = absurd h
told_ended (wholes.Slice party) ReadFault h = absurd h
told_ended (wholes.Slice party) WriteFault h = absurd h
told_ended (wholes.Slice party) NoRoom h = absurd h
told_ended (wholes.Slice party) TooLong h = absurd h

pub ended : (form : Whole) (limit : ℕ) (bytes : List ℕ) (status : Status) (text : List ℕ) → Ending form limit bytes status text
    → HasEnded status
ended form limit bytes status text (Cut long None c) = subst HasEnded (sym c.0) tt
ended form limit bytes status text (Cut long (Some stop) c) = subst HasEnded (sym c.0) tt
ended form limit bytes status text (All short h) = told_ended form status h

-- by these statuses one form ends alone
abbrev IsShared : Status → Type 0
IsShared NotTwins = ⊥
IsShared Faulty = ⊥
IsShared NotSaved = ⊥
IsShared Differs = ⊥
IsShared _ = Unit {0}

cut_shared : (stop : Option PairStop) (status : Status) (text : List ℕ) → TellsCut stop status text → IsShared status
cut_shared None status text c = subst IsShared (sym c.0) tt
cut_shared (Some stop) status text c = subst IsShared (sym c.0) tt

pub twin_alone : (form : Whole) (limit : ℕ) (bytes text : List ℕ) → Ending form limit bytes NotTwins text → form ≡ wholes.Twin
twin_alone form limit bytes text (Cut long stop c) = absurd (cut_shared stop NotTwins text c)
twin_alone wholes.Twin limit bytes text (All short h) = refl
twin_alone wholes.Audit limit bytes text (All short h) = absurd h
twin_alone wholes.Compare limit bytes text (All short h) = absurd h
twin_alone wholes.Save limit bytes text (All short h) = absurd h
twin_alone (wholes.Slice party) limit bytes text (All short h) = absurd h

pub audit_alone : (form : Whole) (limit : ℕ) (bytes text : List ℕ) → Ending form limit bytes Faulty text → form ≡ wholes.Audit
audit_alone form limit bytes text (Cut long stop c) = absurd (cut_shared stop Faulty text c)
audit_alone wholes.Twin limit bytes text (All short h) = absurd h
audit_alone wholes.Audit limit bytes text (All short h) = refl
audit_alone wholes.Compare limit bytes text (All short h) = absurd h
audit_alone wholes.Save limit bytes text (All short h) = absurd h
audit_alone (wholes.Slice party) limit bytes text (All short h) = absurd h

pub compare_alone : (form : Whole) (limit : ℕ) (bytes text : List ℕ) → Ending form limit bytes Differs text → form ≡ wholes.Compare
compare_alone form limit bytes text (Cut long stop c) = absurd (cut_shared stop Differs text c)
compare_alone wholes.Twin limit bytes text (All short h) = absurd h
compare_alone wholes.Audit limit bytes text (All short h) = absurd h
compare_alone wholes.Compare limit bytes text (All short h) = refl
compare_alone wholes.Save limit bytes text (All short h) = absurd h
compare_alone (wholes.Slice party) limit bytes text (All short h) = absurd h

pub save_alone : (form : Whole) (limit : ℕ) (bytes text : List ℕ) → Ending form limit bytes NotSaved text → form ≡ wholes.Save
save_alone form limit bytes text (Cut long stop c) = absurd (cut_shared stop NotSaved text c)
save_alone wholes.Twin limit bytes text (All short h) = absurd h
save_alone wholes.Audit limit bytes text (All short h) = absurd h
save_alone wholes.Compare limit bytes text (All short h) = absurd h
save_alone wholes.Save limit bytes text (All short h) = refl
save_alone (wholes.Slice party) limit bytes text (All short h) = absurd h
