-- What is known where the user's word makes no agreement.
use Rattle.std.proofs.Common.{◌≡◌, Bool, true, false, Ok, Err, refl, rules, if◌then◌else◌}
use Rattle.fed_consent.specs.Consent.{Agreement, Pick, by_choice}

by_test : {T : Type 0} (test : Bool) (agreed : Agreement) (kept back : T) → (if test then Ok agreed else Err kept) ≡ Err back
    → (back ≡ kept) × (test ≡ false)
by_test true agreed kept back e = absurd (grind rules)
by_test false agreed kept back e = (grind rules, refl)

-- the account is not connected
pub no_choice : (pick back : Pick) → by_choice pick ≡ Err back → (back ≡ pick) × (pick.candidate.connected ≡ false)
no_choice pick back e = by_test _ _ _ _ e
