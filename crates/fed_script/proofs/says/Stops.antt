-- What is no value is refused.
use Rattle.std.proofs.Common.{◌≡◌, List, Option, None}
use Rattle.std.specs.Prelude.{Result, Ok, Err}
use Rattle.std.specs.Result.{IsErrAnd}
use Rattle.json.specs.Token.{Token}
use Rattle.fed_io.specs.declared.error.Fault.{Fault}
use Rattle.fed_io.specs.declared.error.Fault.TheVariants.{Step, NoRoom}
use Rattle.fed_json.specs.declared.reading.Invalid.{Invalid}
use Rattle.fed_json.specs.Values.{Refused, Takes}

pub stops : {X D : Type 0} (P : X → D → Type 0) (read : Option (D × List Token)) (r : Result X (Fault Invalid)) (left : List Token)
    (i : Invalid) → IsErrAnd r (λ e. e ≡ Step i) → read ≡ None → Takes P read r left
stops P read (Ok x) left i h none = absurd h
stops P read (Err e) left i h none = rw h none

-- the fault of a part is one of the whole
pub part_stops : {D E : Type 0} {part : Option (D × List Token)} (read : Option (E × List Token)) (fault : Fault Invalid)
    → Refused part fault → (part ≡ None → read ≡ None) → Refused read fault
part_stops read (Step i) h none = none h
part_stops read NoRoom h none = tt

pub stops_as : {Y D E : Type 0} {part : Option (D × List Token)} (Q : Y → E → Type 0) (read : Option (E × List Token))
    (r : Result Y (Fault Invalid)) (fault : Fault Invalid) (left : List Token)
    → IsErrAnd r (λ e. e ≡ fault) → Refused part fault → (part ≡ None → read ≡ None) → Takes Q read r left
stops_as Q read (Ok x) fault left is h none = absurd is
stops_as Q read (Err e) fault left is h none = rw is (part_stops read fault h none)
