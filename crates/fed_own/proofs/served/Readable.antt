-- Each request of a run of good rows can be read by a server.
use Rattle.std.proofs.Common.{◌≡◌, ℕ, List, [], ◌∷◌, ◌++◌, subst}
use Rattle.std.specs.Prelude.{⊤}
use Rattle.std.specs.List.{AllByRecursion}
use Rattle.fed_consent.specs.declared.table.ask.Ask.{Ask}
use Rattle.fed_consent.specs.declared.table.ask.Ask.TheVariants as asks
use Rattle.fed_trace.specs.Begun.{CallKind}
use Rattle.fed_trace.specs.Effect.{Sent}
use Rattle.fed_trace.specs.OfCall.{Has}
use Rattle.fed_trace.specs.Trace.{Row, Trace}
use Rattle.fed_laws.proofs.permissions.Changes.{has_all}
use Rattle.fed_own.specs.Consent.{IsText, form_texts}
use Rattle.fed_own.specs.Request.{IsServed}
use Rattle.fed_own.proofs.served.Asks.{IsUrlBack, back_good, form_good, served_good}
use Rattle.fed_own.proofs.walk.Does.{GoodAsk, GoodEffect}
use Rattle.fed_own.proofs.walk.Known.{GoodRows}

-- the texts of its form, where it asks for a token
abbrev pub AreTexts : Ask → Type 0
AreTexts (asks.Assertion ask) = AllByRecursion IsText (form_texts ask)
AreTexts _ = ⊤

texts_good : (ask : Ask) → GoodAsk ask → AreTexts ask
texts_good (asks.WellKnown to) g = tt
texts_good (asks.Config to) g = tt
texts_good (asks.Accounts to) g = tt
texts_good (asks.Metadata to client origin) g = tt
texts_good (asks.Assertion ask) g = form_good ask g
texts_good (asks.Disconnect to client hint origin) g = tt

pub record IsReadable (ask : Ask) (cookies : List ℕ) : Type 0 where
  pub served : IsServed ask cookies
  pub back : IsUrlBack ask
  pub texts : AreTexts ask

-- and each request of a row
abbrev pub RequestsAreReadable : Trace → Type 0
RequestsAreReadable T =
    (after before : List Row) (row : Row) (kind : CallKind) (call provider : ℕ) (ask : Ask) (cookies : List ℕ)
    → T.rows ≡ after ++ row ∷ before → Has row.effects (Sent kind call provider ask cookies) → IsReadable ask cookies

-- the row is good
pub row_good : (after : List Row) (row : Row) (before : List Row) → GoodRows (after ++ row ∷ before) → AllByRecursion GoodEffect row.effects
row_good [] row before g = g.0
row_good (first ∷ after) row before g = row_good after row before g.1

pub readable : (T : Trace) → GoodRows T.rows → RequestsAreReadable T
readable T good after before row kind call provider ask cookies is has =
    let effects = row_good after row before (subst GoodRows is good) in
    let g = has_all GoodEffect row.effects (Sent kind call provider ask cookies) effects has in
    record { served = served_good ask cookies g.2 g.3.value; back = back_good ask g.2; texts = texts_good ask g.2 }
