-- What is kept after an event is that of what happened up to and with it.
use Rattle.std.proofs.Common.{◌≡◌, ℕ, suc, ◌+◌, Bool, true, false, nat_eq, List, ◌∷◌, length, Option, Some, None, refl, sym, ap, ◌∙◌}
use Rattle.std.proofs.Common.{cond, arith}
use Rattle.std.specs.Prelude.{is_some, option_map, unwrap_or}
use Rattle.std.specs.Option.{option_or}
use Rattle.std.specs.Map.{lookup}
use Rattle.indexmap.specs.IndexMap.{insert_entry}
use Rattle.fed_origin.specs.declared.origin.Origin.{Origin}
use Rattle.fed_origin.specs.Origin.{is_trustworthy}
use Rattle.fed_disconnect.specs.Facts.{disconnect_options}
use Rattle.fed_script.specs.declared.event.Event.{Event}
use Rattle.fed_script.specs.declared.event.Event.TheVariants.{Load, ClosePage, Get, Disconnect}
use Rattle.fed_session.specs.Session.{State, Stands}
use Rattle.fed_trace.specs.Begun.{Begun, CallOptions, ToGet, ToDisconnect}
use Rattle.fed_trace.specs.Effect.{begins, last_of}
use Rattle.fed_trace.specs.OfCall.{call_at, replaces}
use Rattle.fed_trace.specs.Records.{records}
use Rattle.fed_trace.specs.Row.{row_of, with_event}
use Rattle.fed_trace.specs.Trace.{Row, Trace, page_at}
use Rattle.fed_trace.proofs.keyed.Keyed.{lookup-insert_entry}
use Rattle.fed_audit.specs.declared.seen.Call.{Call}
use Rattle.fed_audit.specs.declared.seen.Seen.{Seen}
use Rattle.fed_audit.specs.Asked.{first_asked}
use Rattle.fed_audit.specs.Follow.{Follows, call_kept, kept_with, noted, row_begun, row_replaced}
use Rattle.fed_audit.specs.Scene.{provider_count}
use Rattle.fed_audit.proofs.follows.Begins.{begun_by, begun_with, if_of, begins_is}

-- ---- calls

-- what is kept of a call that begins by the row of a number
abbrev kept_as : ℕ → Begun → Call
kept_as number b = record { page = b.page; origin = b.origin; providers = provider_count b.options; begun = number }

-- the calls that are kept after an event that begins this one, if it begins one
abbrev calls_after : Option Begun → ℕ → List (ℕ × Call) → List (ℕ × Call)
calls_after None number calls = calls
calls_after (Some b) number calls = insert_entry nat_eq calls b.call (kept_as number b)

with_origin : (origin : Option Origin) (page call number : ℕ) (options : CallOptions) (calls : List (ℕ × Call))
    → kept_with origin page call (provider_count options) number calls ≡ calls_after (begun_with origin page call options) number calls
with_origin None page call number options calls = refl
with_origin (Some origin) page call number options calls = go (is_trustworthy origin)
  where
    b : Begun
    b = record { call = call; page = page; origin = origin; options = options }

    go : (trusted : Bool)
        → cond trusted (insert_entry nat_eq calls call (kept_as number b)) calls
        ≡ calls_after (cond trusted (Some b) None) number calls
    go true = refl
    go false = refl

noted_calls : (T : Trace) (event : Event) (seen : Seen)
    → (noted T event seen).calls ≡ calls_after (begun_by T event) (seen.taken + 1) seen.calls
noted_calls T (Get page call options) seen =
    with_origin (page_at T page) page call (seen.taken + 1) (ToGet options) seen.calls
noted_calls T (Disconnect page call config client hint) seen =
    with_origin (page_at T page) page call (seen.taken + 1) (ToDisconnect (disconnect_options config client hint)) seen.calls
noted_calls T event seen = refl

-- what is kept of one call, where the row begins this one
kept_one : (row : Row) (rows : List Row) (q number : ℕ) (b : Option Begun) (calls : List (ℕ × Call)) → number ≡ suc (length rows)
    → last_of (begins q) row.effects ≡ if_of q b
    → lookup (nat_eq q) calls ≡ option_map (call_kept q rows) (call_at rows q)
    → lookup (nat_eq q) (calls_after b number calls) ≡ option_map (call_kept q (row ∷ rows)) (call_at (row ∷ rows) q)
kept_one row rows q number b calls is says h = by_call b says
  where
    none : last_of (begins q) row.effects ≡ None
        → lookup (nat_eq q) calls ≡ option_map (call_kept q (row ∷ rows)) (call_at (row ∷ rows) q)
    none unsaid =
        h ∙ ap (λ n. option_map (λ (x : Begun). let c : Call = record {
          page = x.page;
          origin = x.origin;
          providers = provider_count
              x.options;
          begun = n;
        } in c) (call_at rows q)) (ap (λ o. cond (is_some o) (suc (length rows)) (row_begun q rows)) (sym unsaid))
        ∙ ap (λ o. option_map (call_kept q (row ∷ rows)) (option_or o (call_at rows q))) (sym unsaid)

    this : (x : Begun) → last_of (begins q) row.effects ≡ Some x
        → Some (kept_as number x) ≡ option_map (call_kept q (row ∷ rows)) (call_at (row ∷ rows) q)
    this x said =
        ap (λ n. Some (kept_as n x)) (is ∙ ap (λ o. cond (is_some o) (suc (length rows)) (row_begun q rows)) (sym said))
        ∙ ap (λ o. option_map (call_kept q (row ∷ rows)) (option_or o (call_at rows q))) (sym said)

    by_key : (x : Begun) (same : Bool) → last_of (begins q) row.effects ≡ cond same (Some x) None
        → cond same (Some (kept_as number x)) (lookup (nat_eq q) calls)
        ≡ option_map (call_kept q (row ∷ rows)) (call_at (row ∷ rows) q)
    by_key x true said = this x said
    by_key x false said = none said

    by_call : (b : Option Begun) → last_of (begins q) row.effects ≡ if_of q b
        → lookup (nat_eq q) (calls_after b number calls) ≡ option_map (call_kept q (row ∷ rows)) (call_at (row ∷ rows) q)
    by_call None said = none said
    by_call (Some x) said = lookup-insert_entry q x.call (kept_as number x) calls ∙ by_key x (nat_eq q x.call) said

-- ---- pages

replaced_one : (page q n old number : ℕ) (es : List (ℕ × ℕ)) → number ≡ suc n → unwrap_or (lookup (nat_eq q) es) 0 ≡ old
    → unwrap_or (lookup (nat_eq q) (insert_entry nat_eq es page number)) 0 ≡ cond (nat_eq q page) (suc n) old
replaced_one page q n old number es is h =
    ap (λ o. unwrap_or o 0) (lookup-insert_entry q page number es) ∙ go (nat_eq q page)
  where
    go : (same : Bool) → unwrap_or (cond same (Some number) (lookup (nat_eq q) es)) 0 ≡ cond same (suc n) old
    go true = is
    go false = h

noted_pages : (T : Trace) (event : Event) (seen : Seen) (n q old : ℕ) → seen.taken ≡ n
    → unwrap_or (lookup (nat_eq q) seen.replaced) 0 ≡ old
    → unwrap_or (lookup (nat_eq q) (noted T event seen).replaced) 0 ≡ cond (replaces q event) (suc n) old
noted_pages T (Load page url raw) seen n q old is h =
    replaced_one page q n old (seen.taken + 1) seen.replaced (omega (arith, is)) h
noted_pages T (ClosePage page) seen n q old is h =
    replaced_one page q n old (seen.taken + 1) seen.replaced (omega (arith, is)) h
noted_pages T event seen n q old is h = h

-- ---- an event more

-- what is kept, with the session, the count and the requests after a row
abbrev pub after_row : Seen → State → Option (ℕ × ℕ) → ℕ → Seen
after_row seen session asks taken = record seen { session = session; asks = asks; taken = taken }

pub follows_on : (seen : Seen) (T : Trace) (line : ℕ) (event : Event) (session : State) (asks : Option (ℕ × ℕ)) (taken : ℕ)
    → Follows seen T → Stands session (with_event T line event) → asks ≡ first_asked (records (row_of T line event))
    → taken ≡ seen.taken + 1
    → Follows (after_row (noted T event seen) session asks taken) (with_event T line event)
follows_on seen T line event session asks taken h stands is count =
    record {
      stands = stands;
      taken = omega (arith, count, h.taken);
      calls = λ q.
          ap (lookup (nat_eq q)) (noted_calls T event seen)
          ∙ kept_one (row_of T line event) T.rows q (seen.taken + 1) (begun_by T event) seen.calls (omega (arith, h.taken)) (begins_is T
          event q)
          (h.calls q);
      replaced = λ q. noted_pages T event seen (length T.rows) q (row_replaced q T.rows) h.taken (h.replaced q);
      asks = is;
    }
