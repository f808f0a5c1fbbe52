-- What all calls look at in a session.
use Rattle.std.proofs.Common.{◌≡◌, refl, ap, ◌∙◌}
use Rattle.url.specs.Parts.{Parts}
use Rattle.fed_jar.specs.Send.{jar_text}
use Rattle.fed_consent.specs.declared.table.ask.Ask.{Ask}
use Rattle.fed_consent.specs.declared.table.ask.Ask.TheVariants as asks
use Rattle.fed_trace.specs.Row.{cookies_with}
use Rattle.fed_session.specs.Session.{State, Stands}
use Rattle.fed_session.specs.StepParts.{sight_of, cookies_of}
use Rattle.fed_session.specs.declared.sight.Sight.{Sight}
use Rattle.fed_trace.specs.Trace.{Trace, now_at, cookies}

-- the parts of a session are those of what is seen in it
pub record Sees (s : State) (sight : Sight) : Type 0 where
  pub time : s.time ≡ sight.time
  pub rules : s.rules ≡ sight.cookies.rules
  pub cookies : s.cookies ≡ sight.cookies.list
  pub entered : s.entered ≡ sight.cookies.entered
  pub login : s.login ≡ sight.login
  pub kept : s.kept ≡ sight.kept
  pub flags : s.flags ≡ sight.flags

pub sees : (s : State) (sight : Sight) → sight_of s ≡ sight → Sees s sight
sees s sight is =
    record {
      time = ap (λ (x : Sight). x.time) is;
      rules = ap (λ (x : Sight). x.cookies.rules) is;
      cookies = ap (λ (x : Sight). x.cookies.list) is;
      entered = ap (λ (x : Sight). x.cookies.entered) is;
      login = ap (λ (x : Sight). x.login) is;
      kept = ap (λ (x : Sight). x.kept) is;
      flags = ap (λ (x : Sight). x.flags) is;
    }

-- what a jar gives is what the cookies that stand give
jar_same : (s : State) (T : Trace) (to : Parts) → Stands s T
    → jar_text s.rules to s.time s.cookies ≡ jar_text T.header.rules to (now_at T) (cookies T)
jar_same s T to h =
    ap (λ r. jar_text r to s.time s.cookies) h.rules ∙ ap (λ t. jar_text T.header.rules to t s.cookies) h.time
    ∙ ap (jar_text T.header.rules to (now_at T)) h.cookies

pub cookies_same : (s : State) (T : Trace) (ask : Ask) → Stands s T → cookies_of (sight_of s) ask ≡ cookies_with T ask
cookies_same s T (asks.Accounts to) h = jar_same s T to h
cookies_same s T (asks.Assertion ask) h = jar_same s T ask.to h
cookies_same s T (asks.Disconnect to client hint origin) h = jar_same s T to h
cookies_same s T (asks.WellKnown to) h = refl
cookies_same s T (asks.Config to) h = refl
cookies_same s T (asks.Metadata to client origin) h = refl
