-- What `make` writes is the text of its form, whatever the source has.
use Rattle.std.proofs.Common.{◌≡◌, ℕ, List, Some, None, refl, subst}
use Rattle.std.specs.Io.KnownBytes.{Appends, IsAtEnd}
use Rattle.std.specs.Prelude.{Option, IfSome}
use Rattle.fed_run.specs.declared.form.Form.{Form}
use Rattle.fed_run.specs.declared.form.Form.TheVariants.{Make}
use Rattle.fed_run.specs.declared.status.Status.TheVariants.{Done}
use Rattle.fed_run.specs.Ends.{Reads, Writes}
use Rattle.fed_run.specs.Make.{summary_text}

some : (left : Option (List ℕ)) (P : List ℕ → Type 0) → ((bytes : List ℕ) → P bytes) → IfSome left P
some None P so = tt
some (Some bytes) P so = so bytes

pub made : (left left' start taken : Option (List ℕ)) (form : Option Form) (calls : ℕ) → Some (Make calls) ≡ form
    → Appends start taken (summary_text calls)
    → (Reads form → IsAtEnd left') × IfSome left (λ bytes. Writes 67108864 form bytes Done start taken)
made left left' start taken form calls is took =
    subst (λ f. (Reads f → IsAtEnd left') × IfSome left (λ bytes. Writes 67108864 f bytes Done start taken)) is (
      λ reads. absurd reads,
      some left (λ bytes. Writes 67108864 (Some (Make calls)) bytes Done start taken)
          (λ bytes. record {
            ends = record { is = Make calls; named = refl; text = summary_text calls; ends = (refl, refl) };
            took = took;
          }),
    )
