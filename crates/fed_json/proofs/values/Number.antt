-- Whole numbers among the literals.
use Rattle.std.proofs.Common.{◌≡◌, ◌^◌, ◌&&◌, Bool, true, false, cond, nat_lt, nat_le, Some, None, option_and_then, ℤ}
use Rattle.std.proofs.Common.{Float, refl}
use Rattle.std.specs.Float.{binary64, float_is_finite}
use Rattle.fast_float.specs.Text.{Parts, digits_of, nearest, with_sign}
use Rattle.serde_json.specs.Data.{negative, float}
use Rattle.serde_json.specs.Find.{as_u64}
use Rattle.serde_json.specs.Read.{is_integer, number_from}

no_whole_by : (b c : Bool) (z : ℤ) (x : Float)
    → option_and_then as_u64 (cond b (Some (negative z)) (cond c (Some (float x)) None)) ≡ None
no_whole_by true c z x = refl
no_whole_by false true z x = refl
no_whole_by false false z x = refl

-- a literal with a minus sign is none
pub no_whole : (p : Parts) → option_and_then as_u64 (number_from true p) ≡ None
no_whole p =
    no_whole_by (is_integer p && nat_lt 0 (digits_of p)
    && nat_le (digits_of p) (2 ^ 63)) (float_is_finite (nearest binary64 true p)) (with_sign true (digits_of p))
    (nearest binary64 true p)
