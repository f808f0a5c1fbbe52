-- What is known of a call tells what its page asked for.
use Rattle.std.proofs.Common.{◌≡◌, ℕ, Bool, true, false, List, [], ◌∷◌, Option, Some, None, refl, ap, ◌∙◌}
use Rattle.std.specs.Prelude.{option_map, option_and_then}
use Rattle.std.specs.Option.{option_or}
use Rattle.std.specs.List.{list_any}
use Rattle.fed_status.specs.Shared.{World}
use Rattle.fed_consent.specs.declared.table.input.Input.{Input}
use Rattle.fed_consent.specs.declared.table.input.Input.TheVariants as inputs
use Rattle.fed_disconnect.specs.Facts.{DisconnectFacts}
use Rattle.fed_disconnect.specs.Facts as disconnect
use Rattle.fed_script.specs.declared.event.Header.{Header}
use Rattle.fed_trace.specs.Begun.{Begun, CallOptions, ToGet, ToDisconnect}
use Rattle.fed_trace.specs.Call.{Known, OfGet, OfDisconnect, fresh, known_first}
use Rattle.fed_trace.specs.Effect.{begins, is_ignored, last_of}
use Rattle.fed_trace.specs.Known.{world_at, input_to, with_said, known_in}
use Rattle.fed_trace.specs.OfCall.{call_at}
use Rattle.fed_trace.specs.Trace.{Row}
use Rattle.fed_trace.specs.Windows.{provider_asked, provider_of}
use Rattle.fed_trace.proofs.known.Facts.{same_options}

-- what the page asked for
abbrev pub asked : Known → CallOptions
asked (OfGet facts) = ToGet facts.options
asked (OfDisconnect facts) = ToDisconnect facts.options

first_asked : (world : World) (b : Begun) → asked (known_first world b) ≡ b.options
first_asked world b = go b.options
  where
    go : (options : CallOptions) → asked (fresh world b.call b.page b.origin options) ≡ options
    go (ToGet options) = refl
    go (ToDisconnect options) = refl

disconnect_asked : (world : World) (ignored : Bool) (input : Input) (facts : DisconnectFacts)
    → (disconnect.with_input world ignored input facts).options ≡ facts.options
disconnect_asked world true input facts = refl
disconnect_asked world false (inputs.Reply place kind raw) facts = refl
disconnect_asked world false (inputs.Choose place account) facts = refl
disconnect_asked world false inputs.GoOn facts = refl
disconnect_asked world false inputs.Cancel facts = refl
disconnect_asked world false inputs.SignIn facts = refl
disconnect_asked world false inputs.Shut facts = refl
disconnect_asked world false inputs.Resume facts = refl
disconnect_asked world false inputs.Abort facts = refl

pub said_asked : (world : World) (ignored : Bool) (input : Option Input) (k : Known) → asked (with_said world ignored input k) ≡ asked k
said_asked world ignored None k = refl
said_asked world ignored (Some input) (OfGet facts) = ap ToGet (same_options world ignored input facts)
said_asked world ignored (Some input) (OfDisconnect facts) = ap ToDisconnect (disconnect_asked world ignored input facts)

pub asked_in : (header : Header) (rows : List Row) (q : ℕ)
    → option_map asked (known_in header rows q) ≡ option_map (λ (b : Begun). b.options) (call_at rows q)
asked_in header [] q = refl
asked_in header (row ∷ rows) q = go (last_of (begins q) row.effects) (asked_in header rows q)
  where
    said : Known → Known
    said = with_said (world_at (record { header = header; rows = rows })) (list_any is_ignored row.effects) (input_to q row.event)

    later : (known : Option Known) → option_map asked (option_map said known) ≡ option_map asked known
    later None = refl
    later (Some k) =
        ap Some (said_asked (world_at (record { header = header; rows = rows })) (list_any is_ignored row.effects) (input_to q row.event) k)

    go : (o : Option Begun) → option_map asked (known_in header rows q) ≡ option_map (λ (b : Begun). b.options) (call_at rows q)
        → option_map asked (option_or (option_map (known_first (world_at (record {
          header = header;
          rows =
              rows;
        }))) o) (option_map said (known_in header rows q)))
        ≡ option_map (λ (b : Begun). b.options) (option_or o (call_at rows q))
    go (Some b) rest = ap Some (first_asked (world_at (record { header = header; rows = rows })) b)
    go None rest = later (known_in header rows q) ∙ rest

two_ways : {A B C D : Type 0} (f : C → Option D) (g : A → C) (h : B → C) (a : Option A) (b : Option B)
    → option_map g a ≡ option_map h b → option_and_then (λ x. f (g x)) a ≡ option_and_then (λ x. f (h x)) b
two_ways f g h None None e = refl
two_ways f g h (Some x) (Some y) e = let same : g x ≡ h y = cc in ap f same
two_ways f g h None (Some y) e = absurd (cc)
two_ways f g h (Some x) None e = absurd (cc)

-- the provider that a get asked
pub provider_known : (header : Header) (rows : List Row) (q : ℕ)
    → option_and_then (λ k. provider_asked (asked k)) (known_in header rows q) ≡ provider_of rows q
provider_known header rows q =
    two_ways provider_asked asked (λ (b : Begun). b.options) (known_in header rows q) (call_at rows q) (asked_in header rows q)
