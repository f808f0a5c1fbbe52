-- Calls that are asked to go on one after the other.
use Rattle.std.proofs.Common.{◌≡◌, ℕ, true, false, List, [], ◌∷◌, ◌++◌, ◌<◌, length, Option, Some, None, refl, sym, ap, subst, ◌∙◌}
use Rattle.std.proofs.Common.{append-nil, arith}
use Rattle.fed_origin.specs.declared.origin.Origin.{Origin}
use Rattle.fed_origin.specs.Origin.{is_trustworthy}
use Rattle.fed_status.specs.Shared.{World}
use Rattle.fed_consent.specs.declared.table.ask.Ask.{Ask}
use Rattle.fed_consent.specs.declared.table.input.Input.TheVariants.{Resume}
use Rattle.fed_consent.specs.declared.table.why.Why.TheVariants.{NoPage, PageInsecure, NobodyWaits}
use Rattle.fed_table.specs.Table.{waiting_for}
use Rattle.fed_trace.specs.declared.out.Out.{Out}
use Rattle.fed_trace.specs.Effect.{Ignored}
use Rattle.fed_trace.specs.Records.{records_of}
use Rattle.fed_trace.specs.Row.{resume_effects}
use Rattle.fed_session.specs.Session.{TabsParts, item_known}
use Rattle.fed_session.specs.StepParts.{kept_next}
use Rattle.fed_session.specs.Tabs.{Takes, AreResumed, StandingResumed, WaitingResumed, Resumed}

module _ (world : World) (cookies : Ask → List ℕ) (line : ℕ) where
  -- what was done, and then what is left, is the whole
  abbrev pub Continues : List ℕ → TabsParts → List ℕ → TabsParts → List Out → Type 0
  Continues calls old left mid done = (rest : List Out) (new : TabsParts) → AreResumed world cookies line left mid rest new
      → AreResumed world cookies line calls old (done ++ rest) new

  append_assoc : (xs ys zs : List Out) → (xs ++ ys) ++ zs ≡ xs ++ (ys ++ zs)
  append_assoc [] ys zs = refl
  append_assoc (x ∷ xs) ys zs = ap (λ l. x ∷ l) (append_assoc xs ys zs)

  pub at_first : (calls : List ℕ) (old : TabsParts) → Continues calls old calls old []
  at_first calls old rest new all = all

  pub one_more : (calls left later : List ℕ) (call : ℕ) (old mid next : TabsParts) (done more both : List Out) → left ≡ call ∷ later
      → Continues calls old left mid done
      → more ≡ records_of line (resume_effects world cookies (item_known mid.table.items) call)
      → Takes call (item_known mid.table.items call) (kept_next world (item_known mid.table.items call) Resume) mid next
      → both ≡ done ++ more → Continues calls old later next both
  one_more calls left later call old mid next done more both is h outs takes joined rest new after =
      subst (λ xs. AreResumed world cookies line calls old xs new)
      (sym (ap (λ xs. xs ++ rest) joined ∙ append_assoc done more rest))
      (h (more ++ rest) new (subst (λ ls. AreResumed world cookies line ls mid (more ++ rest) new) (sym is)
      (rest, next, ap (λ xs. xs ++ rest) outs, takes, after)))

  pub at_last : (calls left : List ℕ) (old mid : TabsParts) (done : List Out) → left ≡ [] → Continues calls old left mid done
      → AreResumed world cookies line calls old done mid
  at_last calls left old mid done none h =
      subst (λ xs. AreResumed world cookies line calls old xs mid) (append-nil done)
      (h [] mid (subst (λ ls. AreResumed world cookies line ls mid [] mid) (sym none) (refl, refl)))

  -- ---- by the page

  module _ (found : Option Origin) (old new : TabsParts) (outs : List Out) where
    pub of_no_page : None ≡ found → outs ≡ records_of line (Ignored NoPage ∷ []) → new ≡ old
        → Resumed world cookies line found old outs new
    of_no_page is written same = subst (λ o. Resumed world cookies line o old outs new) is (written, same)

    module _ (origin : Origin) (is : Some origin ≡ found) where
      of_page : StandingResumed world cookies line (is_trustworthy origin) (waiting_for old.table.waits origin) old outs new
          → Resumed world cookies line found old outs new
      of_page standing = subst (λ o. Resumed world cookies line o old outs new) is standing

      pub of_insecure : is_trustworthy origin ≡ false → outs ≡ records_of line (Ignored PageInsecure ∷ []) → new ≡ old
          → Resumed world cookies line found old outs new
      of_insecure trust written same =
          of_page (subst (λ t. StandingResumed world cookies line t (waiting_for old.table.waits origin) old outs new) (sym trust)
          (written, same))

      of_waiting : is_trustworthy origin ≡ true → (calls : List ℕ) → calls ≡ waiting_for old.table.waits origin
          → WaitingResumed world cookies line calls old outs new → Resumed world cookies line found old outs new
      of_waiting trust calls waiting h =
          of_page (subst (λ t. StandingResumed world cookies line t (waiting_for old.table.waits origin) old outs new) (sym trust)
          (subst (λ cs. WaitingResumed world cookies line cs old outs new) waiting h))

      pub of_nobody : is_trustworthy origin ≡ true → (calls : List ℕ) → calls ≡ waiting_for old.table.waits origin → length calls ≡ 0
          → outs ≡ records_of line (Ignored NobodyWaits ∷ []) → new ≡ old → Resumed world cookies line found old outs new
      of_nobody trust [] waiting none written same = of_waiting trust [] waiting (written, same)
      of_nobody trust (call ∷ calls) waiting none written same = absurd (omega (arith, none))

      pub of_some : is_trustworthy origin ≡ true → (calls : List ℕ) → calls ≡ waiting_for old.table.waits origin → 0 < length calls
          → AreResumed world cookies line calls old outs new → Resumed world cookies line found old outs new
      of_some trust [] waiting some h = absurd (omega (arith, some))
      of_some trust (call ∷ calls) waiting some h = of_waiting trust (call ∷ calls) waiting h
