-- What an own record says is about what it is about, comes from its row, and differs in nothing.
use Rattle.std.proofs.Common.{◌≡◌, ℕ, Bool, true, false, nat_eq, List, [], ◌∷◌, Some, None, refl, sym, arith}
use Rattle.std.proofs.lemmas.Bool.Decides.{nat_tests}
use Rattle.std.proofs.lemmas.Slice.Eq.{bytes_eq-Decides}
use Rattle.std.specs.Prelude.{bytes_eq}
use Rattle.std.specs.List.{AllByRecursion}
use Rattle.fed_consent.specs.declared.table.finish.Finish.TheVariants.{Token, Disconnected, Failed, ProviderError}
use Rattle.fed_trace.specs.declared.out.Out.{Out}
use Rattle.fed_trace.specs.declared.out.Out.TheVariants as outs
use Rattle.fed_trace.specs.Effect.{Effect, Sent, Dropped, Time, Page, Closed, Cookie, Login, Begin, Move, Shown, Window, Kept, Flag, Result}
use Rattle.fed_trace.specs.Effect.{Ignored}
use Rattle.fed_trace.specs.Records.{records_of}
use Rattle.fed_audit.specs.declared.aspect.About.{About}
use Rattle.fed_audit.specs.Compare.{DifferIn}
use Rattle.fed_audit.specs.Differ.{AreSame, token_differs}
use Rattle.fed_audit.specs.Record.{line_of}
use Rattle.fed_audit.specs.Told.{about_of, about_said}
use Rattle.fed_own.specs.Own.{said_of}

pub about_same : (out : Out) → about_said (said_of out) ≡ about_of out
about_same (outs.Request line call provider kind bytes) = refl
about_same (outs.Answer line call page (Token auto provider token)) = refl
about_same (outs.Answer line call page Disconnected) = refl
about_same (outs.Answer line call page (Failed failure)) = refl
about_same (outs.Answer line call page (ProviderError code url)) = refl
about_same (outs.Dropped line call provider failure) = refl
about_same (outs.Dialog line call dialog) = refl
about_same (outs.Window line call provider url) = refl
about_same (outs.Ignored line why) = refl

-- ---- the row

-- it comes from the row of this line
abbrev pub IsFromLine : ℕ → Out → Type 0
IsFromLine line out = line_of (said_of out) ≡ Some line

pub from_line : (line : ℕ) (effects : List Effect) → AllByRecursion (IsFromLine line) (records_of line effects)
from_line line [] = tt
from_line line (Sent kind call provider ask cookies ∷ effects) = (refl, from_line line effects)
from_line line (Dropped call place failure ∷ effects) = (refl, from_line line effects)
from_line line (Shown call dialog ∷ effects) = (refl, from_line line effects)
from_line line (Window call provider url ∷ effects) = (refl, from_line line effects)
from_line line (Ignored why ∷ effects) = (refl, from_line line effects)
from_line line (Result call page (Token auto provider token) ∷ effects) = (refl, from_line line effects)
from_line line (Result call page Disconnected ∷ effects) = (refl, from_line line effects)
from_line line (Result call page (Failed failure) ∷ effects) = (refl, from_line line effects)
from_line line (Result call page (ProviderError code url) ∷ effects) = (refl, from_line line effects)
from_line line (Time time ∷ effects) = from_line line effects
from_line line (Page page origin ∷ effects) = from_line line effects
from_line line (Closed page ∷ effects) = from_line line effects
from_line line (Cookie cookie ∷ effects) = from_line line effects
from_line line (Login origin status ∷ effects) = from_line line effects
from_line line (Begin begun ∷ effects) = from_line line effects
from_line line (Move kind call stage ∷ effects) = from_line line effects
from_line line (Kept triple stays ∷ effects) = from_line line effects
from_line line (Flag origin stays ∷ effects) = from_line line effects

-- ---- nothing differs

same_bytes : (text : List ℕ) → bytes_eq text text ≡ true
same_bytes text = (bytes_eq-Decides text text).1 refl

same_number : (n : ℕ) → nat_eq n n ≡ true
same_number n = grind (arith, nat_tests)

token_same : (token : List ℕ) (page : ℕ) (auto : Bool) → token_differs token page auto token (Some page) (Some auto) ≡ None
token_same token page true = rw (same_bytes token) (rw (same_number page) refl)
token_same token page false = rw (same_bytes token) (rw (same_number page) refl)

pub differs_none : (out : Out) (about : About) → about_of out ≡ Some about → DifferIn out (said_of out) None
differs_none (outs.Request line call provider kind bytes) about is = AreSame refl refl
differs_none (outs.Answer line call page (Token auto provider token)) about is = sym (token_same token page auto)
differs_none (outs.Answer line call page Disconnected) about is = absurd (cc)
differs_none (outs.Answer line call page (Failed failure)) about is = absurd (cc)
differs_none (outs.Answer line call page (ProviderError code url)) about is = absurd (cc)
differs_none (outs.Dropped line call provider failure) about is = absurd (cc)
differs_none (outs.Dialog line call dialog) about is = absurd (cc)
differs_none (outs.Window line call provider url) about is = absurd (cc)
differs_none (outs.Ignored line why) about is = absurd (cc)
