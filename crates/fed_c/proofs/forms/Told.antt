-- What a form is told to come to.
use Rattle.std.proofs.Common.{◌≡◌, ℕ, List, [], ◌++◌, Some, refl, sym, subst, arith}
use Rattle.std.specs.Prelude.{Option}
use Rattle.fed_run.specs.declared.form.Form.{Form}
use Rattle.fed_run.specs.declared.status.Status.{Status}
use Rattle.fed_run.specs.declared.status.Status.TheVariants.{Done, BadScript, TooLong, NotTwins, Faulty, NotSaved, Differs}
use Rattle.fed_run.specs.declared.status.Status.TheVariants.{Usage, ReadFault, WriteFault, NoRoom}
use Rattle.fed_run.specs.Ends.{Ends, HasEnded, Writes}
use Rattle.fed_run.specs.Words.{exit_code}
use Rattle.fed_c.specs.Hands.{Tells}

-- a sink that took nothing before has the whole text
of_writes : (form : Option Form) (start bytes text : List ℕ) (status : Status) → start ≡ []
    → Writes 67108864 form bytes status (Some start) (Some text) → Tells form bytes status text
of_writes form start bytes text status none wrote =
    let took : text ≡ wrote.ends.text = subst (λ s. text ≡ s ++ wrote.ends.text) none wrote.took in
    record {
      is = wrote.ends.is;
      named = wrote.ends.named;
      ends = subst (λ t. Ends 67108864 wrote.ends.is bytes status t) (sym took) wrote.ends.ends;
    }

-- where a form has ended its whole text was written
pub tells : (form : Option Form) (start bytes text : List ℕ) (status : Status) → start ≡ [] → HasEnded status
    → (status ≡ Done → Writes 67108864 form bytes Done (Some start) (Some text))
    → (status ≡ BadScript → Writes 67108864 form bytes BadScript (Some start) (Some text))
    → (status ≡ TooLong → Writes 67108864 form bytes TooLong (Some start) (Some text))
    → (status ≡ NotTwins → Writes 67108864 form bytes NotTwins (Some start) (Some text))
    → (status ≡ Faulty → Writes 67108864 form bytes Faulty (Some start) (Some text))
    → (status ≡ NotSaved → Writes 67108864 form bytes NotSaved (Some start) (Some text))
    → (status ≡ Differs → Writes 67108864 form bytes Differs (Some start) (Some text))
    → Tells form bytes status text
tells form start bytes text status none ended done bad long not faulty lost differs = by status refl ended
  where
    by : (s : Status) → status ≡ s → HasEnded s → Tells form bytes s text
    by Done is ends = of_writes form start bytes text Done none (done is)
    by BadScript is ends = of_writes form start bytes text BadScript none (bad is)
    by TooLong is ends = of_writes form start bytes text TooLong none (long is)
    by NotTwins is ends = of_writes form start bytes text NotTwins none (not is)
    by Faulty is ends = of_writes form start bytes text Faulty none (faulty is)
    by NotSaved is ends = of_writes form start bytes text NotSaved none (lost is)
    by Differs is ends = of_writes form start bytes text Differs none (differs is)
    by Usage is ends = absurd ends
    by ReadFault is ends = absurd ends
    by WriteFault is ends = absurd ends
    by NoRoom is ends = absurd ends

-- a form that has ended did not end for want of memory, nor for words that are no form
pub ended_otherwise : (status : Status) → HasEnded status → (exit_code status ≡ 5 → ⊥) × (exit_code status ≡ 1 → ⊥)
ended_otherwise Done ended = (λ is. omega (arith, is), λ is. omega (arith, is))
ended_otherwise BadScript ended = (λ is. omega (arith, is), λ is. omega (arith, is))
ended_otherwise TooLong ended = (λ is. omega (arith, is), λ is. omega (arith, is))
ended_otherwise NotTwins ended = (λ is. omega (arith, is), λ is. omega (arith, is))
ended_otherwise Faulty ended = (λ is. omega (arith, is), λ is. omega (arith, is))
ended_otherwise NotSaved ended = (λ is. omega (arith, is), λ is. omega (arith, is))
ended_otherwise Differs ended = (λ is. omega (arith, is), λ is. omega (arith, is))
ended_otherwise Usage ended = absurd ended
ended_otherwise ReadFault ended = absurd ended
ended_otherwise WriteFault ended = absurd ended
ended_otherwise NoRoom ended = absurd ended
