use Rattle.std.proofs.Common.{◌≡◌, Bool, true, false, List, ℕ, refl, bytes_eq}
use Rattle.std.proofs.lemmas.Slice.Eq.{bytes_eq-Decides}
use Rattle.fed_audit.proofs.record.named.Goals as goal

fails : (b : Bool) → (b ≡ true → ⊥) → b ≡ false
fails true never = absurd (never refl)
fails false never = refl

unlike : (a b : List ℕ) → (a ≡ b → ⊥) → bytes_eq a b ≡ false
unlike a b other = fails (bytes_eq a b) (λ e. other ((bytes_eq-Decides a b).0 e))

pub returns-in_default : goal.returns-in_default
returns-in_default c = λ d says.
    rw (
      unlike _ _ c.in_default.not-request,
      unlike _ _ c.in_default.not-result,
      unlike _ _ c.in_default.not-end,
      unlike _ _ c.in_default.not-dialog,
      unlike _ _ c.in_default.not-window,
      unlike _ _ c.in_default.not-ignored,
      unlike _ _ c.in_default.not-dropped,
    ) refl
