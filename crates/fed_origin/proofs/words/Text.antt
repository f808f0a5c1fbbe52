-- A word is a text: bytes that are none say no status.
use Rattle.std.proofs.Common.{◌≡◌, ℕ, Bool, true, false, cond, List, Some, None, refl, sym, ap, subst, ◌∙◌}
use Rattle.std.proofs.lemmas.Slice.Eq.{bytes_eq-Decides}
use Rattle.std.proofs.lemmas.Str.{IsUtf8-from_ascii}
use Rattle.std.specs.List.{list_all}
use Rattle.std.specs.Prelude.{IsUtf8, nat_lt, bytes_eq, codes}
use Rattle.fed_origin.specs.declared.status.LoginStatus.TheVariants.{LoggedIn, LoggedOut}
use Rattle.fed_origin.specs.Words.{status_of_word}
use Rattle.fed_origin.proofs.words.Ascii.{IsAscii-from_list_all}

-- bytes that are no text are not this one
other : (bytes text : List ℕ) → (IsUtf8 bytes → ⊥) → list_all (λ b. nat_lt b 128) text ≡ true → bytes_eq bytes text ≡ false
other bytes text none ascii = by (bytes_eq bytes text) refl
  where
    by : (b : Bool) → bytes_eq bytes text ≡ b → bytes_eq bytes text ≡ false
    by false is = is
    by true is =
        absurd (none (subst IsUtf8 (sym ((bytes_eq-Decides bytes text).0 is)) (IsUtf8-from_ascii text (IsAscii-from_list_all text ascii))))

pub status_of_word-none : (bytes : List ℕ) → (IsUtf8 bytes → ⊥) → None ≡ status_of_word bytes
status_of_word-none bytes none =
    let out = bytes_eq bytes (codes "logged-out") in
    sym
    (ap (λ b. cond b (Some LoggedIn) (cond out (Some LoggedOut) None)) (other bytes (codes "logged-in") none refl)
    ∙ ap (λ b. cond b (Some LoggedOut) None) (other bytes (codes "logged-out") none refl))
