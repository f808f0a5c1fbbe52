-- Whether a line is read as a header.
use Rattle.std.proofs.Common.{◌≡◌, ◌↔◌, ℕ, true, false, Result, Ok, Err, IsTrue, sym, ap, ◌∙◌}
use Rattle.fed_suffix.specs.Rule.{RuleSet}
use Rattle.fed_script.specs.declared.cause.LineCause.{LineCause}
use Rattle.fed_script.specs.declared.event.Header.{Header}

abbrev made : RuleSet → ℕ → Header
made rules now = record { rules = rules; now = now }

same_header : (h : Header) (rules : RuleSet) (now : ℕ) → h.now ≡ now → h.rules ≡ rules → h ≡ made rules now
same_header h rules now a b = λ i. record { rules = b i; now = a i }

-- it is the one that was read
pub header_told : {P : Type 0} (rules : RuleSet) (now : ℕ) (read : Result Header LineCause) (h : Header) → read ≡ Ok h
    → P ↔ ((h.now ≡ now) × (h.rules ≡ rules)) → P ↔ (read ≡ Ok (made rules now))
header_told rules now read h is both = (
  λ p. let parts = both.0 p in is ∙ ap Ok (same_header h rules now parts.0 parts.1),
  λ e.
      let whole : Ok h ≡ Ok (made rules now) = sym is ∙ e in
      let same : h ≡ made rules now = cc in
      both.1 (ap (λ (x : Header). x.now) same, ap (λ (x : Header). x.rules) same),
)

-- none was read
pub header_refused : (rules : RuleSet) (now : ℕ) (read : Result Header LineCause) (cause : LineCause) → read ≡ Err cause
    → IsTrue false ↔ (read ≡ Ok (made rules now))
header_refused rules now read cause is = (
  λ p. absurd (let bad : false ≡ true = p in cc),
  λ e. absurd (let bad : Err cause ≡ Ok (made rules now) = sym is ∙ e in cc),
)
