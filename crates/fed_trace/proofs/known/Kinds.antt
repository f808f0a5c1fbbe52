-- A pending call of which something is known is of the kind that is known of it.
use Rattle.std.proofs.Common.{◌≡◌, ℕ, Bool, true, false, nat_eq, List, [], ◌∷◌, Option, Some, None, refl, sym, ap, ◌∙◌}
use Rattle.std.proofs.Common.{cond}
use Rattle.std.specs.Prelude.{option_map, unwrap_or}
use Rattle.std.specs.Option.{option_or}
use Rattle.std.specs.List.{list_any}
use Rattle.fed_origin.specs.declared.stage.Stage.TheVariants.{Reading, Listing, Gathering, Mismatch, Choosing, Prompting, Asserting, Ended}
use Rattle.fed_origin.specs.declared.stage.Stage.TheVariants as stages
use Rattle.fed_consent.specs.declared.table.input.Input.{Input}
use Rattle.fed_status.specs.Shared.{World}
use Rattle.fed_script.specs.declared.event.Header.{Header}
use Rattle.fed_trace.specs.Begun.{Begun, CallOptions, ToGet, ToDisconnect, kind_asked}
use Rattle.fed_trace.specs.Call.{Known, kind_of, fresh, known_first}
use Rattle.fed_trace.specs.Effect.{Effect, PendingCall, pending_from, Time, Page, Closed, Cookie, Login, Begin, Move, Sent, Dropped}
use Rattle.fed_trace.specs.Effect.{Shown, Window}
use Rattle.fed_trace.specs.Effect.{Kept, Flag, Result, Ignored, call_change, begins, is_ignored, last_of}
use Rattle.fed_trace.specs.Keyed.{last_said, says}
use Rattle.fed_trace.specs.Known.{world_at, input_to, with_said, known_in}
use Rattle.fed_trace.specs.Trace.{Row, last_value}
use Rattle.fed_trace.proofs.known.Facts.{same_kind}

-- what effects say last of a call's pending, and by which beginning
pub data Says (call : ℕ) (effects : List Effect) : Type 0 where
  Begun_last : (b : Begun) → last_said nat_eq call_change call effects ≡ Some (Some (pending_from b))
      → last_of (begins call) effects ≡ Some b → Says call effects
  Over_last : last_said nat_eq call_change call effects ≡ Some None → Says call effects
  Nothing : last_said nat_eq call_change call effects ≡ None → last_of (begins call) effects ≡ None → Says call effects

silent_front : (call : ℕ) (e : Effect) (effects : List Effect) → call_change e ≡ None → begins call e ≡ None → Says call effects
    → Says call (e ∷ effects)
silent_front call e effects none no_begin (Begun_last b said began) =
    Begun_last b (ap (λ o. option_or o (says nat_eq call (call_change e))) said) (ap (λ o. option_or o (begins call e)) began)
silent_front call e effects none no_begin (Over_last said) = Over_last (ap (λ o. option_or o (says nat_eq call (call_change e))) said)
silent_front call e effects none no_begin (Nothing said began) =
    Nothing (ap (λ o. option_or o (says nat_eq call (call_change e))) said
    ∙ ap (says nat_eq call) none) (ap (λ o. option_or o (begins call e)) began ∙ no_begin)

-- an end that a call is given
ends_front : (call c : ℕ) (e : Effect) (effects : List Effect) → call_change e ≡ Some (c, None) → begins call e ≡ None
    → Says call effects
    → Says call (e ∷ effects)
ends_front call c e effects ends no_begin (Begun_last b said began) =
    Begun_last b (ap (λ o. option_or o (says nat_eq call (call_change e))) said) (ap (λ o. option_or o (begins call e)) began)
ends_front call c e effects ends no_begin (Over_last said) = Over_last (ap (λ o. option_or o (says nat_eq call (call_change e))) said)
ends_front call c e effects ends no_begin (Nothing said began) = go (nat_eq call c) refl
  where
    go : (b : Bool) → nat_eq call c ≡ b → Says call (e ∷ effects)
    go true is =
        Over_last (ap (λ o. option_or o (says nat_eq call (call_change e))) said ∙ ap (says nat_eq call) ends
        ∙ ap (λ t. cond t (Some None) None) is)
    go false is =
        Nothing (ap (λ o. option_or o (says nat_eq call (call_change e))) said ∙ ap (says nat_eq call) ends
        ∙ ap (λ t. cond t (Some None) None) is)
        (ap (λ o. option_or o (begins call e)) began ∙ no_begin)

begin_front : (call : ℕ) (b : Begun) (effects : List Effect) → Says call effects → Says call (Begin b ∷ effects)
begin_front call b effects (Begun_last b' said began) =
    Begun_last b' (ap (λ o. option_or o (says nat_eq call (call_change (Begin b)))) said)
    (ap (λ o. option_or o (begins call (Begin b))) began)
begin_front call b effects (Over_last said) = Over_last (ap (λ o. option_or o (says nat_eq call (call_change (Begin b)))) said)
begin_front call b effects (Nothing said began) = go (nat_eq call b.call) refl
  where
    go : (t : Bool) → nat_eq call b.call ≡ t → Says call (Begin b ∷ effects)
    go true is =
        Begun_last b (ap (λ o. option_or o (says nat_eq call (call_change (Begin b)))) said
        ∙ ap (λ t. cond t (Some (Some (pending_from b))) None) is)
        (ap (λ o. option_or o (begins call (Begin b))) began ∙ ap (λ t. cond t (Some b) None) is)
    go false is =
        Nothing (ap (λ o. option_or o (says nat_eq call (call_change (Begin b)))) said
        ∙ ap (λ t. cond t (Some (Some (pending_from b))) None) is)
        (ap (λ o. option_or o (begins call (Begin b))) began ∙ ap (λ t. cond t (Some b) None) is)

pub says_of : (call : ℕ) (effects : List Effect) → Says call effects
says_of call [] = Nothing refl refl
says_of call (Begin b ∷ effects) = begin_front call b effects (says_of call effects)
says_of call (Move kind c Ended ∷ effects) = ends_front call c (Move kind c Ended) effects refl refl (says_of call effects)
says_of call (Move kind c Reading ∷ effects) = silent_front call (Move kind c Reading) effects refl refl (says_of call effects)
says_of call (Move kind c Listing ∷ effects) = silent_front call (Move kind c Listing) effects refl refl (says_of call effects)
says_of call (Move kind c Mismatch ∷ effects) = silent_front call (Move kind c Mismatch) effects refl refl (says_of call effects)
says_of call (Move kind c Gathering ∷ effects) = silent_front call (Move kind c Gathering) effects refl refl (says_of call effects)
says_of call (Move kind c stages.Window ∷ effects) = silent_front call (Move kind c stages.Window) effects refl refl (says_of call effects)
says_of call (Move kind c Choosing ∷ effects) = silent_front call (Move kind c Choosing) effects refl refl (says_of call effects)
says_of call (Move kind c Prompting ∷ effects) = silent_front call (Move kind c Prompting) effects refl refl (says_of call effects)
says_of call (Move kind c Asserting ∷ effects) = silent_front call (Move kind c Asserting) effects refl refl (says_of call effects)
says_of call (Time time ∷ effects) = silent_front call (Time time) effects refl refl (says_of call effects)
says_of call (Page page origin ∷ effects) = silent_front call (Page page origin) effects refl refl (says_of call effects)
says_of call (Closed page ∷ effects) = silent_front call (Closed page) effects refl refl (says_of call effects)
says_of call (Cookie cookie ∷ effects) = silent_front call (Cookie cookie) effects refl refl (says_of call effects)
says_of call (Login origin status ∷ effects) = silent_front call (Login origin status) effects refl refl (says_of call effects)
says_of call (Sent kind c provider ask cookies ∷ effects) =
    silent_front call (Sent kind c provider ask cookies) effects refl refl (says_of call effects)
says_of call (Shown c dialog ∷ effects) = silent_front call (Shown c dialog) effects refl refl (says_of call effects)
says_of call (Dropped c provider failure ∷ effects) =
    silent_front call (Dropped c provider failure) effects refl refl (says_of call effects)
says_of call (Window c provider url ∷ effects) = silent_front call (Window c provider url) effects refl refl (says_of call effects)
says_of call (Kept triple stays ∷ effects) = silent_front call (Kept triple stays) effects refl refl (says_of call effects)
says_of call (Flag origin stays ∷ effects) = silent_front call (Flag origin stays) effects refl refl (says_of call effects)
says_of call (Result c page finish ∷ effects) = silent_front call (Result c page finish) effects refl refl (says_of call effects)
says_of call (Ignored why ∷ effects) = silent_front call (Ignored why) effects refl refl (says_of call effects)

first_kind : (world : World) (b : Begun) → kind_of (known_first world b) ≡ kind_asked b.options
first_kind world b = go b.options
  where
    go : (options : CallOptions) → kind_of (fresh world b.call b.page b.origin options) ≡ kind_asked options
    go (ToGet options) = refl
    go (ToDisconnect options) = refl

said_kind : (world : World) (ignored : Bool) (input : Option Input) (known : Known)
    → kind_of (with_said world ignored input known) ≡ kind_of known
said_kind world ignored None known = refl
said_kind world ignored (Some input) known = same_kind world ignored input known

pub kinds_agree : (header : Header) (rows : List Row) (call : ℕ) (k : Known) (v : PendingCall) → known_in header rows call ≡ Some k
    → last_value nat_eq call_change call rows ≡ Some v
    → v.kind ≡ kind_of k
kinds_agree header [] call k v known pending = absurd (cc)
kinds_agree header (row ∷ rows) call k v known pending =
    go (λ before. kinds_agree header rows call before v) (says_of call row.effects) (known_in header rows call) refl
  where
    go : ((before : Known) → known_in header rows call ≡ Some before → last_value nat_eq call_change call rows ≡ Some v
        → v.kind ≡ kind_of before)
        → Says call row.effects → (before : Option Known) → known_in header rows call ≡ before → v.kind ≡ kind_of k
    go earlier (Begun_last b last began) before is =
        let pending_is : Some (pending_from b) ≡ Some v =
        sym (ap (λ o. unwrap_or o (last_value nat_eq call_change call rows)) last) ∙ pending in
        let v_is : pending_from b ≡ v = cc in
        let known_is : Some (known_first (world_at (record { header = header; rows = rows })) b) ≡ Some k =
        sym (ap (λ o. option_or (option_map (known_first (world_at (record { header = header; rows = rows }))) o)
        (option_map (with_said (world_at (record { header = header; rows = rows })) (list_any is_ignored row.effects)
        (input_to call row.event)) (known_in header rows call))) began) ∙ known in
        let k_is : known_first (world_at (record { header = header; rows = rows })) b ≡ k = cc in
        ap (λ (x : PendingCall). x.kind) (sym v_is) ∙ sym (first_kind (world_at (record { header = header; rows = rows })) b)
        ∙ ap kind_of k_is
    go earlier (Over_last last) before is =
        let no : None ≡ Some v = sym (ap (λ o. unwrap_or o (last_value nat_eq call_change call rows)) last) ∙ pending in absurd (cc)
    go earlier (Nothing last began) None is =
        let no : None ≡ Some k =
        sym (ap (λ o. option_or (option_map (known_first (world_at (record { header = header; rows = rows }))) o)
        (option_map (with_said (world_at (record { header = header; rows = rows })) (list_any is_ignored row.effects)
        (input_to call row.event)) (known_in header rows call))) began
        ∙ ap (option_map (with_said (world_at (record { header = header; rows = rows })) (list_any is_ignored row.effects)
        (input_to call row.event))) is) ∙ known in
        absurd (cc)
    go earlier (Nothing last began) (Some before) is =
        let pending_before : last_value nat_eq call_change call rows ≡ Some v =
        sym (ap (λ o. unwrap_or o (last_value nat_eq call_change call rows)) last) ∙ pending in
        let world = world_at (record { header = header; rows = rows }) in
        let known_is : Some (with_said world (list_any is_ignored row.effects) (input_to call row.event) before) ≡ Some k =
        sym (ap (λ o. option_or (option_map (known_first (world_at (record { header = header; rows = rows }))) o)
        (option_map (with_said world (list_any is_ignored row.effects) (input_to call row.event)) (known_in header rows call))) began
        ∙ ap (option_map (with_said world (list_any is_ignored row.effects) (input_to call row.event))) is) ∙ known in
        let k_is : with_said world (list_any is_ignored row.effects) (input_to call row.event) before ≡ k = cc in
        earlier before is pending_before ∙ sym (said_kind world (list_any is_ignored row.effects) (input_to call row.event) before)
        ∙ ap kind_of k_is
