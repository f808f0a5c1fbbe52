-- What `twin` tells of two scripts it tells of the bytes.
use Rattle.std.proofs.Common.{◌≡◌, List, ℕ, Option, None, Result}
use Rattle.std.proofs.Common.{Ok, Err, sym, subst}
use Rattle.std.specs.Prelude.{◌↔◌, IfOk}
use Rattle.fed_script.specs.declared.pair.Pair.{Pair}
use Rattle.fed_script.specs.Pair.{pair_of}
use Rattle.fed_script.specs.Script.{Script}
use Rattle.fed_twin.specs.declared.fault.TwinFault.{TwinFault}
use Rattle.fed_twin.specs.Fault.{TwinFaultOf}
use Rattle.fed_twin.specs.Twin.{Twin}
use Rattle.fed_io.specs.declared.error.NoRoom.{NoRoom}
use Rattle.fed_run.specs.declared.ran.Ran.{Ran}
use Rattle.fed_run.specs.declared.status.Status.{Status}
use Rattle.fed_run.specs.Ends.{TellsFound, TellsScripts, TellsPair}

-- what is told for what the test found is told of the scripts
pub told : {R E : Type 0} (a b : Script) (found : Option TwinFault) (result : Result R E) (status : R → Status) (text : R → List ℕ)
    → TwinFaultOf a b found → (found ≡ None) ↔ Twin a b
    → IfOk result (λ r. TellsFound a b found (status r) (text r)) → IfOk result (λ r. TellsScripts a b (status r) (text r))
told a b found (Ok r) status text is_found twins tells = record { found = found; is_found = is_found; twins = twins; tells = tells }
told a b found (Err e) status text is_found twins tells = tt

-- what is told of the scripts of a pair is told of what the bytes are read as
pub told_pair : (bytes : List ℕ) (pair : Pair) (result : Result Ran NoRoom) → pair_of bytes ≡ Ok pair
    → IfOk result (λ ran. TellsScripts pair.first pair.second ran.status ran.text)
    → IfOk result (λ ran. TellsPair (pair_of bytes) ran.status ran.text)
told_pair bytes pair (Ok ran) is tells = subst (λ r. TellsPair r ran.status ran.text) (sym is) tells
told_pair bytes pair (Err e) is tells = tt
