-- Each script is its own twin; what is quiet up to an event was quiet before.
use Rattle.std.proofs.Common.{◌≡◌, ℕ, zero, suc, Bool, true, false, inl, List, [], ◌∷◌, ◌++◌, zip, refl, ap₂, subst}
use Rattle.std.specs.Prelude.{if◌then◌else◌}
use Rattle.std.specs.List.{AllByRecursion, AllZip}
use Rattle.fed_origin.specs.declared.origin.Origin.{Origin}
use Rattle.fed_origin.specs.declared.options.ProviderOptions.{ProviderOptions}
use Rattle.fed_origin.specs.declared.stage.ReplyKind.{ReplyKind}
use Rattle.fed_origin.specs.declared.stage.ReplyKind.TheVariants as kinds
use Rattle.fed_origin.specs.Origin.{same_origin}
use Rattle.fed_script.specs.declared.event.Event.{Event}
use Rattle.fed_script.specs.declared.event.Event.TheVariants as events
use Rattle.fed_script.specs.declared.event.Have.{Have}
use Rattle.fed_script.specs.declared.event.Have.TheVariants as haves
use Rattle.fed_script.specs.declared.event.Numbered.{Numbered}
use Rattle.fed_script.specs.Script.{Script}
use Rattle.fed_trace.specs.Row.{with_event}
use Rattle.fed_trace.specs.Trace.{Row, Trace}
use Rattle.fed_trace.specs.OfScript.{start, with_events}
use Rattle.fed_twin.specs.Script.{is_kept, is_loud, kept_events, up_to, AreQuiet, Quiet}
use Rattle.fed_twin.specs.Providers.{Providers}
use Rattle.fed_twin.specs.Twin.{SharesProvider, SharesBytes, SharesHave, SharesMembers, SharesLoad, kind_of, origins_named, providers_of}
use Rattle.fed_twin.specs.Twin.{Twin}
use Rattle.fed_twin.proofs.others.Tokens.{rows_of, rows_are}

self_bytes : (kind : ReplyKind) (raw : List ℕ) → SharesBytes kind raw raw
self_bytes kinds.WellKnown raw = refl
self_bytes kinds.Config raw = refl
self_bytes kinds.Accounts raw = refl
self_bytes kinds.Metadata raw = refl
self_bytes kinds.Assertion raw = tt
self_bytes kinds.Disconnect raw = tt

self_providers : (qs : List ProviderOptions) → AllZip SharesProvider qs qs
self_providers [] = tt
self_providers (q ∷ qs) = (record { config = refl; login_hint = refl; domain_hint = refl }, self_providers qs)

self_have : (have : Have) → SharesHave have have
self_have (haves.Login origin status) = (refl, refl)
self_have (haves.Kept triple) = tt
self_have (haves.Silent origin) = tt
self_have (haves.Cookie url field) = (refl, refl)

self_members : (e : Event) → SharesMembers e e
self_members (events.Have have) = self_have have
self_members (events.At time) = refl
self_members (events.Load page url raw) = tt
self_members (events.ClosePage page) = refl
self_members (events.Get page call options) =
    (refl, refl, record { mediation = refl; mode = refl; activation = refl; providers = self_providers options.providers })
self_members (events.Abort call) = refl
self_members (events.GoOn call) = refl
self_members (events.Cancel call) = refl
self_members (events.SignIn call) = refl
self_members (events.ShutWindow call) = refl
self_members (events.IdpClose page) = refl
self_members (events.Reply call place kind raw) = (refl, refl, refl, self_bytes kind raw)
self_members (events.Choose call place id) = (refl, refl, refl)
self_members (events.Prevent page) = refl
self_members (events.SetStatus page status) = (refl, refl)
self_members (events.Disconnect page call config client hint) = (refl, refl, refl, refl)

self_load : (p : Providers) (e : Event) → SharesLoad p e e
self_load p (events.Have have) = tt
self_load p (events.At time) = tt
self_load p (events.Load page url raw) = (refl, inl (refl, refl))
self_load p (events.ClosePage page) = tt
self_load p (events.Get page call options) = tt
self_load p (events.Abort call) = tt
self_load p (events.GoOn call) = tt
self_load p (events.Cancel call) = tt
self_load p (events.SignIn call) = tt
self_load p (events.ShutWindow call) = tt
self_load p (events.IdpClose page) = tt
self_load p (events.Reply call place kind raw) = tt
self_load p (events.Choose call place id) = tt
self_load p (events.Prevent page) = tt
self_load p (events.SetStatus page status) = tt
self_load p (events.Disconnect page call config client hint) = tt

all_self : (R : Event → Event → Type 0) → ((e : Event) → R e e) → (es : List Event)
    → AllByRecursion (λ x. R x.0 x.1) (zip es es)
all_self R self [] = tt
all_self R self (e ∷ es) = (self e, all_self R self es)

doubles : (es : List Event) → AllByRecursion (λ p. p.0 ≡ p.1) (origins_named (zip es es))
doubles [] = tt
doubles (events.Load page url raw ∷ es) = (refl, doubles es)
doubles (events.Have (haves.Silent origin) ∷ es) = (refl, doubles es)
doubles (events.Have (haves.Login origin status) ∷ es) = doubles es
doubles (events.Have (haves.Kept triple) ∷ es) = doubles es
doubles (events.Have (haves.Cookie url field) ∷ es) = doubles es
doubles (events.At time ∷ es) = doubles es
doubles (events.ClosePage page ∷ es) = doubles es
doubles (events.Get page call options ∷ es) = doubles es
doubles (events.Abort call ∷ es) = doubles es
doubles (events.GoOn call ∷ es) = doubles es
doubles (events.Cancel call ∷ es) = doubles es
doubles (events.SignIn call ∷ es) = doubles es
doubles (events.ShutWindow call ∷ es) = doubles es
doubles (events.IdpClose page ∷ es) = doubles es
doubles (events.Reply call place kind raw ∷ es) = doubles es
doubles (events.Choose call place id ∷ es) = doubles es
doubles (events.Prevent page ∷ es) = doubles es
doubles (events.SetStatus page status ∷ es) = doubles es
doubles (events.Disconnect page call config client hint ∷ es) = doubles es

-- ---- quiet before

second_part : {A : Type 0} (P : A → Type 0) (xs ys : List A) → AllByRecursion P (xs ++ ys) → AllByRecursion P ys
second_part P [] ys h = h
second_part P (x ∷ xs) ys h = second_part P xs ys h.1

-- up to the next kept event there are some rows more
rows_more : (k : ℕ) (ns : List Numbered) (T : Trace)
    → (later : List Row) × ((with_events T (up_to (suc k) ns)).rows ≡ later ++ (with_events T (up_to k ns)).rows)
rows_more zero ns T = (rows_of T (up_to 1 ns), rows_are T (up_to 1 ns))
rows_more (suc k) [] T = ([], refl)
rows_more (suc k) (n ∷ ns) T =
    go (is_kept n.event) (rows_more k ns (with_event T n.line n.event)) (rows_more (suc k) ns (with_event T n.line n.event))
  where
    go : (b : Bool)
        → ((later : List Row) ×
        ((with_events (with_event T n.line n.event) (up_to (suc k) ns)).rows ≡ later ++
        (with_events (with_event T n.line n.event) (up_to k ns)).rows))
        → ((later : List Row) ×
        ((with_events (with_event T n.line n.event) (up_to (suc (suc k)) ns)).rows ≡ later ++
        (with_events (with_event T n.line n.event) (up_to (suc k) ns)).rows))
        → (later : List Row) × ((with_events (with_event T n.line n.event) (up_to (if b then suc k else suc (suc k)) ns)).rows
        ≡ later ++ (with_events (with_event T n.line n.event) (up_to (if b then k else suc k) ns)).rows)
    go true h m = h
    go false h m = m

pub quiet_before : (s : Script) (k : ℕ) → Quiet s (suc k) → Quiet s k
quiet_before s k h =
    let more = rows_more k s.events (start s.header) in
    second_part (λ row. is_loud row ≡ false) more.0 (with_events (start s.header) (up_to k s.events)).rows
    (subst AreQuiet more.1 h)

-- ---- each script is its own twin

double_agrees : (p q : Origin × Origin) → p.0 ≡ p.1 → q.0 ≡ q.1 → same_origin p.0 q.0 ≡ same_origin p.1 q.1
double_agrees p q h k = ap₂ same_origin h k

one_to_one : (all ps : List (Origin × Origin)) → AllByRecursion (λ p. p.0 ≡ p.1) all → AllByRecursion (λ p. p.0 ≡ p.1) ps
    → AllByRecursion (λ p. AllByRecursion (λ q. same_origin p.0 q.0 ≡ same_origin p.1 q.1) all) ps
one_to_one all [] h k = tt
one_to_one all (p ∷ ps) h k = (against all h, one_to_one all ps h k.1)
  where
    against : (qs : List (Origin × Origin)) → AllByRecursion (λ q. q.0 ≡ q.1) qs
        → AllByRecursion (λ q. same_origin p.0 q.0 ≡ same_origin p.1 q.1) qs
    against [] m = tt
    against (q ∷ qs) m = (double_agrees p q k.0 m.0, against qs m.1)

pub twin_self : (a : Script) → Twin a a
twin_self a =
    let es = kept_events a.events in
    record {
      now = refl;
      rules = refl;
      kind = all_self (λ e f. kind_of e ≡ kind_of f) (λ e. refl) es;
      member = all_self SharesMembers self_members es;
      load = all_self (SharesLoad (providers_of a a)) (self_load (providers_of a a)) es;
      origins = one_to_one (origins_named (zip es es)) (origins_named (zip es es)) (doubles es) (doubles es);
      count = refl;
    }
