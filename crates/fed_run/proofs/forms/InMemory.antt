-- Where a form ends over a source that doesn't fail and a sink that fails only where it is full.
use Rattle.std.proofs.Common.{◌≡◌, ◌∙◌, ◌+◌, ◌≤◌, ℕ, List, length, Some, None, inl, inr, refl, ap, subst, arith, rules, length-append}
use Rattle.std.specs.Prelude.{Option, ◌⊎◌, IsSome}
use Rattle.fed_io.specs.Io.{AppendsLess, Rose}
use Rattle.fed_run.specs.declared.form.Form.{Form}
use Rattle.fed_run.specs.declared.form.Form.TheVariants.{Run, Check, Twin, Audit, Compare, Make, Save, Slice}
use Rattle.fed_run.specs.declared.status.Status.{Status}
use Rattle.fed_run.specs.declared.status.Status.TheVariants.{Done, Usage, BadScript, ReadFault, WriteFault, NoRoom, TooLong, NotTwins}
use Rattle.fed_run.specs.declared.status.Status.TheVariants.{Faulty, NotSaved, Differs}
use Rattle.fed_run.specs.Checks.{check_status, check_written}
use Rattle.fed_run.specs.Ends.{Writes, WriteFaultLeaves}
use Rattle.fed_run.specs.Make.{summary_text}
use Rattle.fed_run.specs.Memory.{HasRoomFor}
use Rattle.fed_run.specs.Run.{run_status, run_written}

-- a sink that took less than a text is not full, if it had room for the text
room-left : (start taken text : List ℕ) (room : ℕ) → AppendsLess (Some start) (Some taken) text → length text ≤ room
    → length taken ≡ length start + room → ⊥
room-left start taken text room took fits full =
    let grown : length taken ≡ length start + length took.0 = ap length took.3 ∙ length-append start took.0 in
    absurd (omega (arith, grown, took.2, fits, full))

never-some : IsSome {T = Form} None → ⊥
never-some some = search (some, rules)

pub never-full : (form : Option Form) (bytes start taken : List ℕ) (left' : Option (List ℕ)) (room : ℕ) → IsSome form
    → HasRoomFor 67108864 form bytes room → WriteFaultLeaves 67108864 form (Some bytes) left' (Some start) (Some taken)
    → length taken ≡ length start + room → ⊥
never-full None bytes start taken left' room some fits leaves full = never-some some
never-full (Some Run) bytes start taken left' room some fits leaves full =
    room-left start taken _ room leaves.1
    (fits (run_status 67108864 bytes) (record { is = Run; named = refl; text = run_written 67108864 bytes; ends = (refl, refl) })) full
never-full (Some Check) bytes start taken left' room some fits leaves full =
    room-left start taken _ room leaves.1
    (fits (check_status 67108864 bytes)
    (record { is = Check; named = refl; text = check_written 67108864 bytes; ends = (refl, refl) })) full
never-full (Some (Make calls)) bytes start taken left' room some fits leaves full =
    room-left start taken _ room leaves
    (fits Done (record { is = Make calls; named = refl; text = summary_text calls; ends = (refl, refl) })) full
never-full (Some Twin) bytes start taken left' room some fits leaves full =
    room-left start taken _ room leaves.took (fits leaves.status leaves.ends) full
never-full (Some Audit) bytes start taken left' room some fits leaves full =
    room-left start taken _ room leaves.took (fits leaves.status leaves.ends) full
never-full (Some Compare) bytes start taken left' room some fits leaves full =
    room-left start taken _ room leaves.took (fits leaves.status leaves.ends) full
never-full (Some Save) bytes start taken left' room some fits leaves full =
    room-left start taken _ room leaves.took (fits leaves.status leaves.ends) full
never-full (Some (Slice party)) bytes start taken left' room some fits leaves full =
    room-left start taken _ room leaves.took (fits leaves.status leaves.ends) full

-- how it ends, where the source never fails and the sink only where it is full
pub completes : (form : Option Form) (bytes start taken : List ℕ) (left' : Option (List ℕ)) (room : ℕ) (status : Status) → IsSome form
    → HasRoomFor 67108864 form bytes room
    → (status ≡ Usage → form ≡ None)
    → (status ≡ Done → Writes 67108864 form bytes Done (Some start) (Some taken))
    → (status ≡ NotTwins → Writes 67108864 form bytes NotTwins (Some start) (Some taken))
    → (status ≡ Faulty → Writes 67108864 form bytes Faulty (Some start) (Some taken))
    → (status ≡ NotSaved → Writes 67108864 form bytes NotSaved (Some start) (Some taken))
    → (status ≡ Differs → Writes 67108864 form bytes Differs (Some start) (Some taken))
    → (status ≡ BadScript → Writes 67108864 form bytes BadScript (Some start) (Some taken))
    → (status ≡ TooLong → Writes 67108864 form bytes TooLong (Some start) (Some taken))
    → (status ≡ ReadFault → ⊥)
    → (status ≡ WriteFault → (length taken ≡ length start + room)
    × WriteFaultLeaves 67108864 form (Some bytes) left' (Some start) (Some taken))
    → Writes 67108864 form bytes status (Some start) (Some taken) ⊎ (status ≡ NoRoom)
completes form bytes start taken left' room status some fits usage done not faulty saved differs bad long read write = by status refl
  where
    by : (s : Status) → status ≡ s → Writes 67108864 form bytes s (Some start) (Some taken) ⊎ (s ≡ NoRoom)
    by Done is = inl (done is)
    by Usage is = absurd (never-some (subst IsSome (usage is) some))
    by BadScript is = inl (bad is)
    by ReadFault is = absurd (read is)
    by WriteFault is = absurd (never-full form bytes start taken left' room some fits (write is).1 (write is).0)
    by NoRoom is = inr refl
    by TooLong is = inl (long is)
    by NotTwins is = inl (not is)
    by Faulty is = inl (faulty is)
    by NotSaved is = inl (saved is)
    by Differs is = inl (differs is)

-- ---- counts of faults that stand at 0

pub never-rose : (a b : ℕ) → a ≡ 0 → b ≡ 0 → Rose a b → ⊥
never-rose a b x y rose = let h : Rose 0 0 = subst (Rose 0) y (subst (λ n. Rose n b) x rose) in search (h, rules)

-- a count that rose is that of a sink that is full
pub is-full : (a b room : ℕ) → a ≡ 0 → Rose a b → (b ≡ 0) ⊎ (room ≡ 0) → room ≡ 0
is-full a b room x rose (inl y) = absurd (never-rose a b x y rose)
is-full a b room x rose (inr full) = full
