-- For private clauses: the texts of a cookie one after another, and where each ends.
use Rattle.std.specs.Prelude.{ℕ, ◌≡◌, ◌≤◌, ◌<◌, ◌+◌, ◌-◌, Bool, List, ◌∷◌, length, take, drop, Option, None, Some, if◌then◌else◌}

-- what stands between the two places
abbrev pub text_between : ℕ → ℕ → List ℕ → List ℕ
text_between start end text = take (end - start) (drop start text)

-- where the path, the domain and the name end: each where it begins or later, and a `=` stands where the name ends
pub record AreEnds (path domain name : ℕ) (texts : List ℕ) : Type 0 where
  pub path_first : path ≤ domain
  pub domain_next : domain ≤ name
  pub within : name < length texts
  pub equals : drop name texts ≡ 61 ∷ drop (name + 1) texts

-- the expiry, if there is one
abbrev pub expiry_in : Bool → ℕ → Option ℕ
expiry_in has_expiry expiry = if has_expiry then Some expiry else None
