-- What stands on the side of its number.
use Rattle.std.proofs.Common.{◌≡◌, ℕ, Bool, true, false, cond, nat_eq, List, [], ◌∷◌, map, Option, Some, None, refl, sym, ap, subst, ◌∙◌}
use Rattle.std.proofs.Common.{arith}
use Rattle.std.proofs.lemmas.Bool.Decides.{nat_tests}
use Rattle.std.specs.Prelude.{option_map, if◌then◌else◌, IfSome, Result as Answer, Ok, Err}
use Rattle.std.specs.Option.{option_or}
use Rattle.std.specs.Map.{lookup}
use Rattle.std.specs.List.{list_any, AllByRecursion}
use Rattle.indexmap.specs.IndexMap.{insert_entry, shift_remove_entry}
use Rattle.url.specs.Parts.{Parts}
use Rattle.fed_origin.specs.declared.options.Mode.{Mode}
use Rattle.fed_origin.specs.declared.options.ProviderOptions.{ProviderOptions}
use Rattle.fed_origin.specs.declared.origin.Origin.{Origin}
use Rattle.fed_origin.specs.declared.stage.Stage.{Stage}
use Rattle.fed_origin.specs.declared.stage.Stage.TheVariants as stages
use Rattle.fed_status.specs.Shared.{World}
use Rattle.fed_call.specs.Facts.{Facts}
use Rattle.fed_call.specs.Progress.{Closed, opening, opened, first_progress}
use Rattle.fed_script.specs.declared.event.Header.{Header}
use Rattle.fed_trace.specs.Begun.{Begun, CallKind, GetCall, DisconnectCall, CallOptions, ToGet, ToDisconnect, kind_asked, of_get}
use Rattle.fed_trace.specs.Call.{Known, OfGet, OfDisconnect, fresh, known_first, at_stage}
use Rattle.fed_trace.specs.Effect.{Effect, PendingCall, page_change, call_change, get_change, begins, last_of, unless_ended, is_ignored}
use Rattle.fed_trace.specs.Effect as does
use Rattle.fed_trace.specs.Keyed.{Change, changed, entries_after}
use Rattle.fed_trace.specs.Known.{world_at, input_to, with_said, known_in, known_by, known_at}
use Rattle.fed_trace.specs.OfCall.{call_at}
use Rattle.fed_trace.specs.Trace.{Row, Trace, standing, page_at, pending, gets, stage_at}
use Rattle.fed_trace.proofs.keyed.Keyed.{lookup-standing}
use Rattle.fed_slice.specs.Part.{Part, has}
use Rattle.fed_slice_laws.specs.Side.{Fits, AllFit, PageFits, BegunFits, ProgressSide, GetSide, KnownSide, AskedSide}
use Rattle.fed_slice_laws.proofs.lists.Keep.{Brings}
use Rattle.fed_slice_laws.proofs.calls.Side.{said_side}

-- ---- entries under numbers

module _ {V : Type 0} (P : ℕ × V → Type 0) where
  insert_all : (k : ℕ) (v : V) (es : List (ℕ × V)) → P (k, v) → AllByRecursion P es → AllByRecursion P (insert_entry nat_eq es k v)
  insert_all k v [] new h = (new, tt)
  insert_all k v (e ∷ es) new h = go (nat_eq k e.0) refl (insert_all k v es new h.1)
    where
      go : (b : Bool) → nat_eq k e.0 ≡ b → AllByRecursion P (insert_entry nat_eq es k v)
          → AllByRecursion P (cond b ((e.0, v) ∷ es) (e ∷ insert_entry nat_eq es k v))
      go true is rest = let one : k ≡ e.0 = grind (arith, nat_tests, is) in (subst (λ n. P (n, v)) one new, h.1)
      go false is rest = (h.0, rest)

  remove_all : (k : ℕ) (es : List (ℕ × V)) → AllByRecursion P es → AllByRecursion P (shift_remove_entry (nat_eq k) es)
  remove_all k [] h = tt
  remove_all k (e ∷ es) h = go (nat_eq k e.0) (remove_all k es h.1)
    where
      go : (b : Bool) → AllByRecursion P (shift_remove_entry (nat_eq k) es)
          → AllByRecursion P (cond b es (e ∷ shift_remove_entry (nat_eq k) es))
      go true rest = h.1
      go false rest = (h.0, rest)

  changed_all : (c : Option (Change ℕ V)) (es : List (ℕ × V)) → Brings P c → AllByRecursion P es → AllByRecursion P (changed nat_eq c es)
  changed_all None es new h = h
  changed_all (Some (k, Some v)) es new h = insert_all k v es new h
  changed_all (Some (k, None)) es new h = remove_all k es h

  found_all : (k : ℕ) (es : List (ℕ × V)) → AllByRecursion P es → IfSome (lookup (nat_eq k) es) (λ v. P (k, v))
  found_all k [] h = tt
  found_all k (e ∷ es) h = go (nat_eq k e.0) refl (found_all k es h.1)
    where
      go : (b : Bool) → nat_eq k e.0 ≡ b → IfSome (lookup (nat_eq k) es) (λ v. P (k, v))
          → IfSome (cond b (Some e.1) (lookup (nat_eq k) es)) (λ v. P (k, v))
      go true is rest = let one : e.0 ≡ k = grind (arith, nat_tests, is) in subst (λ n. P (n, e.1)) one h.0
      go false is rest = rest

  module _ (p : Part) (loaded : ℕ → Bool) (change : Effect → Option (Change ℕ V))
      (brings : (e : Effect) → Fits p loaded e → Brings P (change e)) where
    entries_all : (effects : List Effect) (es : List (ℕ × V)) → AllByRecursion (Fits p loaded) effects → AllByRecursion P es
        → AllByRecursion P (entries_after nat_eq change effects es)
    entries_all [] es fit h = h
    entries_all (e ∷ effects) es fit h =
        entries_all effects (changed nat_eq (change e) es) fit.1 (changed_all (change e) es (brings e fit.0) h)

    standing_all : (rows : List Row) → AllFit p loaded rows → AllByRecursion P (standing nat_eq change rows)
    standing_all [] fit = tt
    standing_all (row ∷ rows) fit = entries_all row.effects (standing nat_eq change rows) fit.0 (standing_all rows fit.1)

-- ---- pages

abbrev IsPage : Part → (ℕ → Bool) → ℕ × Origin → Type 0
IsPage p loaded e = PageFits p loaded e.0 e.1.host

page_brings : (p : Part) (loaded : ℕ → Bool) (e : Effect) → Fits p loaded e → Brings (IsPage p loaded) (page_change e)
page_brings p loaded (does.Page page origin) h = h
page_brings p loaded _ h = tt

pub page_side : (p : Part) (loaded : ℕ → Bool) (T : Trace) → AllFit p loaded T.rows → (q : ℕ)
    → IfSome (page_at T q) (λ o. PageFits p loaded q o.host)
page_side p loaded T fit q =
    subst (λ o. IfSome o (λ o. PageFits p loaded q o.host)) (lookup-standing page_change q T.rows)
    (found_all (IsPage p loaded) q (standing nat_eq page_change T.rows)
    (standing_all (IsPage p loaded) p loaded page_change (page_brings p loaded) T.rows fit))

-- ---- pending calls

abbrev pub CallFits : Part → ℕ × PendingCall → Type 0
CallFits p e = p.calls e.0 ≡ p.pages e.1.page

ended_brings : {V : Type 0} (P : ℕ × V → Type 0) (call : ℕ) (stage : Stage) → Brings P (unless_ended call stage)
ended_brings P call stages.Ended = tt
ended_brings P call _ = tt

call_brings : (p : Part) (loaded : ℕ → Bool) (e : Effect) → Fits p loaded e → Brings (CallFits p) (call_change e)
call_brings p loaded (does.Begin b) h = h.call
call_brings p loaded (does.Move kind call stage) h = ended_brings (CallFits p) call stage
call_brings p loaded _ h = tt

pub pending_side : (p : Part) (loaded : ℕ → Bool) (T : Trace) → AllFit p loaded T.rows → AllByRecursion (CallFits p) (pending T)
pending_side p loaded T fit = standing_all (CallFits p) p loaded call_change (call_brings p loaded) T.rows fit

-- ---- pending gets

abbrev pub GetFits : Part → ℕ × ℕ → Type 0
GetFits p e = p.calls e.0 ≡ p.pages e.1

get_brings_of : (p : Part) (kind : CallKind) (c : Option (Change ℕ ℕ)) → Brings (GetFits p) c → Brings (GetFits p) (of_get kind c)
get_brings_of p GetCall c h = h
get_brings_of p DisconnectCall c h = tt

get_brings : (p : Part) (loaded : ℕ → Bool) (e : Effect) → Fits p loaded e → Brings (GetFits p) (get_change e)
get_brings p loaded (does.Begin b) h = get_brings_of p (kind_asked b.options) (Some (b.call, Some b.page)) h.call
get_brings p loaded (does.Move kind call stage) h = get_brings_of p kind (unless_ended call stage) (ended_brings (GetFits p) call stage)
get_brings p loaded _ h = tt

pub gets_side : (p : Part) (loaded : ℕ → Bool) (T : Trace) → AllFit p loaded T.rows → AllByRecursion (GetFits p) (gets T)
gets_side p loaded T fit = standing_all (GetFits p) p loaded get_change (get_brings p loaded) T.rows fit

-- ---- how a call began

-- it began on the side of its page's number, under its own number
pub record BeganFits (p : Part) (q : ℕ) (b : Begun) : Type 0 where
  pub fits : BegunFits p b
  pub number : b.call ≡ q

begins_side : (p : Part) (loaded : ℕ → Bool) (q : ℕ) (e : Effect) → Fits p loaded e → IfSome (begins q e) (BeganFits p q)
begins_side p loaded q (does.Begin b) h = go (nat_eq q b.call) refl
  where
    go : (t : Bool) → nat_eq q b.call ≡ t → IfSome (if t then Some b else None) (BeganFits p q)
    go true is = record { fits = h; number = let one : b.call ≡ q = grind (arith, nat_tests, is) in one }
    go false is = tt
begins_side p loaded q _ h = tt

some_or : {A : Type 0} (P : A → Type 0) (a b : Option A) → IfSome a P → IfSome b P → IfSome (option_or a b) P
some_or P None b h k = k
some_or P (Some x) b h k = h

pub last_side : (p : Part) (loaded : ℕ → Bool) (q : ℕ) (effects : List Effect) → AllByRecursion (Fits p loaded) effects
    → IfSome (last_of (begins q) effects) (BeganFits p q)
last_side p loaded q [] fit = tt
last_side p loaded q (e ∷ effects) fit =
    some_or (BeganFits p q) (last_of (begins q) effects) (begins q e) (last_side p loaded q effects fit.1) (begins_side p loaded q e fit.0)

pub began_side : (p : Part) (loaded : ℕ → Bool) (q : ℕ) (rows : List Row) → AllFit p loaded rows
    → IfSome (call_at rows q) (BeganFits p q)
began_side p loaded q [] fit = tt
began_side p loaded q (row ∷ rows) fit =
    some_or (BeganFits p q) (last_of (begins q) row.effects) (call_at rows q) (last_side p loaded q row.effects fit.0)
    (began_side p loaded q rows fit.1)

-- ---- what is known of a call

abbrev pub SideOf : Part → ℕ → Known → Type 0
SideOf p q k = KnownSide p (p.calls q) k

-- no configuration was read as a call begins
fresh_progress : (p : Part) (side : Bool) (w : World) (mode : Mode) (qs : List ProviderOptions)
    → AllByRecursion (ProgressSide p side) (map (first_progress w mode) qs)
fresh_progress p side w mode [] = tt
fresh_progress p side w mode (q ∷ qs) = (go (opening w mode q), fresh_progress p side w mode qs)
  where
    go : (r : Answer Parts Closed) → ProgressSide p side (opened r)
    go (Ok wellknown) = tt
    go (Err closed) = tt

fresh_side : (p : Part) (side : Bool) (w : World) (call page : ℕ) (origin : Origin) (options : CallOptions) → has p origin.host ≡ side
    → AskedSide p side options → KnownSide p side (fresh w call page origin options)
fresh_side p side w call page origin (ToGet options) h asked =
    record {
      page = h;
      providers = asked;
      progress = fresh_progress p side w options.mode options.providers;
      offered = tt;
      picked = tt;
    }
fresh_side p side w call page origin (ToDisconnect options) h asked = record { page = h; provider = asked; config = tt }

first_side : (p : Part) (q : ℕ) (w : World) (b : Option Begun) → IfSome b (BeganFits p q)
    → IfSome (option_map (known_first w) b) (SideOf p q)
first_side p q w None h = tt
first_side p q w (Some b) h =
    subst (λ side. KnownSide p side (known_first w b)) (sym h.fits.call ∙ ap p.calls h.number)
    (fresh_side p (p.pages b.page) w b.call b.page b.origin b.options h.fits.page h.fits.asked)

map_side : (p : Part) (q : ℕ) (f : Known → Known) → ((k : Known) → SideOf p q k → SideOf p q (f k)) → (o : Option Known)
    → IfSome o (SideOf p q) → IfSome (option_map f o) (SideOf p q)
map_side p q f h None k = tt
map_side p q f h (Some x) k = h x k

pub known_in_side : (p : Part) (loaded : ℕ → Bool) (header : Header) (rows : List Row) → AllFit p loaded rows → (q : ℕ)
    → IfSome (known_in header rows q) (SideOf p q)
known_in_side p loaded header [] fit q = tt
known_in_side p loaded header (row ∷ rows) fit q =
    let w = world_at (record { header = header; rows = rows }) in
    let said = with_said w (list_any is_ignored row.effects) (input_to q row.event) in
    some_or (SideOf p q) (option_map (known_first w) (last_of (begins q) row.effects)) (option_map said (known_in header rows q))
    (first_side p q w (last_of (begins q) row.effects) (last_side p loaded q row.effects fit.0))
    (map_side p q said (λ k h. said_side p (p.calls q) w (list_any is_ignored row.effects) (input_to q row.event) k h)
    (known_in header rows q) (known_in_side p loaded header rows fit.1 q))

-- at a stage a call is on the side that it was on
get_at : (p : Part) (side : Bool) (stage : Stage) (f : Facts) → GetSide p side f → GetSide p side (record f { stage = stage })
get_at p side stage f h =
    record { page = h.page; providers = h.providers; progress = h.progress; offered = h.offered; picked = h.picked }

staged_side : (p : Part) (side : Bool) (stage : Stage) (k : Known) → KnownSide p side k → IfSome (at_stage stage k) (KnownSide p side)
staged_side p side stages.Ended (OfGet f) h = tt
staged_side p side stages.Reading (OfGet f) h = get_at p side stages.Reading f h
staged_side p side stages.Listing (OfGet f) h = get_at p side stages.Listing f h
staged_side p side stages.Gathering (OfGet f) h = get_at p side stages.Gathering f h
staged_side p side stages.Mismatch (OfGet f) h = get_at p side stages.Mismatch f h
staged_side p side stages.Window (OfGet f) h = get_at p side stages.Window f h
staged_side p side stages.Choosing (OfGet f) h = get_at p side stages.Choosing f h
staged_side p side stages.Prompting (OfGet f) h = get_at p side stages.Prompting f h
staged_side p side stages.Asserting (OfGet f) h = get_at p side stages.Asserting f h
staged_side p side stages.Ended (OfDisconnect f) h = tt
staged_side p side _ (OfDisconnect f) h = record { page = h.page; provider = h.provider; config = h.config }

by_side : (p : Part) (q : ℕ) (stage : Option Stage) (k : Option Known) → IfSome k (SideOf p q) → IfSome (known_by stage k) (SideOf p q)
by_side p q None k h = tt
by_side p q (Some stage) None h = tt
by_side p q (Some stage) (Some k) h = staged_side p (p.calls q) stage k h

pub known_side : (p : Part) (loaded : ℕ → Bool) (T : Trace) → AllFit p loaded T.rows → (q : ℕ) → IfSome (known_at T q) (SideOf p q)
known_side p loaded T fit q = by_side p q (stage_at T q) (known_in T.header T.rows q) (known_in_side p loaded T.header T.rows fit q)
