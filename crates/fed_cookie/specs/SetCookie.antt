-- What contracts see of a RawCookie: what a Set-Cookie field says.
use Rattle.std.specs.Prelude.{◌≡◌, ℕ, ℤ, Bool, false, ◌||◌, ◌==◌, List, Option}
use Rattle.std.specs.List.{list_any}
use Rattle.fed_cookie.specs.declared.same_site.SameSite.{SameSite}

pub record SetCookie : Type 0 where
  pub name : List ℕ
  pub value : List ℕ
  -- the Domain attribute in lower case, without a dot in front
  pub domain : Option (List ℕ)
  pub path : Option (List ℕ)
  -- seconds since 1970
  pub expires : Option ℕ
  -- seconds
  pub max_age : Option ℤ
  pub secure : Bool
  pub same_site : SameSite

-- CR or LF
abbrev pub is_line_end : ℕ → Bool
is_line_end b = b == 13 || b == 10

-- no CR and no LF is among the bytes
abbrev pub HasNoLineEnd : List ℕ → Type 0
HasNoLineEnd bytes = list_any is_line_end bytes ≡ false
