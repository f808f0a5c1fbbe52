-- How far two scripts are compared.
use Rattle.std.specs.Prelude.{◌≡◌, ℕ, Option, Some, None, length}
use Rattle.fed_script.specs.Script.{Script}
use Rattle.fed_twin.specs.Compare.{IsQuietLength}
use Rattle.fed_twin.specs.Script.{sign_in}
use Rattle.fed_twin.specs.Twin.{Twin}

-- twins that are quiet up to the k-th kept event and no further, with n sign-in requests each, which are the same
pub record Alike (a b : Script) (k n : ℕ) : Type 0 where
  pub twin : Twin a b
  pub quiet : IsQuietLength a b k
  pub requests : n ≡ length (sign_in a k)
  pub same : sign_in a k ≡ sign_in b k

-- what was found of two scripts
abbrev pub AreCompared : Script → Script → Option (ℕ × ℕ) → Type 0
AreCompared a b None = ¬ (Twin a b)
AreCompared a b (Some found) = Alike a b found.0 found.1
