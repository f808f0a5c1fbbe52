-- What holds of two scripts.
use Rattle.std.specs.Prelude.{◌≡◌, ℕ}
use Rattle.fed_origin.specs.declared.origin.Origin.{Origin}
use Rattle.fed_script.specs.Script.{Script, IsRead}
use Rattle.fed_trace.specs.Windows.{windows_of}
use Rattle.fed_twin.specs.Script.{Quiet, sign_in, trace_to}
use Rattle.fed_twin.specs.Twin.{Twin}

-- the sign-in requests of twins, those of gets, are equal, byte for byte and in their order, until either asks for a token or a disconnect
abbrev pub TwoWorlds : Type 0
TwoWorlds =
    (a b : Script) → IsRead a → IsRead b → Twin a b → (k : ℕ) → Quiet a k → Quiet b k → sign_in a k ≡ sign_in b k

-- and so long the same calls wait for each origin, in the same order
abbrev pub SameWindows : Type 0
SameWindows =
    (a b : Script) → IsRead a → IsRead b → Twin a b → (k : ℕ) → Quiet a k → Quiet b k → (origin : Origin)
    → windows_of (trace_to a k) origin ≡ windows_of (trace_to b k) origin
