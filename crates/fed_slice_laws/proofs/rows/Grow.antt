-- A row more: of an event of the part in both traces, or of another event in one alone.
use Rattle.std.proofs.Common.{◌≡◌, ℕ, Bool, true, false, nat_eq, List, [], ◌++◌, Option, Some, None, refl, sym, ap, ap₂, subst, ◌∙◌}
use Rattle.std.proofs.Common.{arith}
use Rattle.std.proofs.lemmas.Bool.Decides.{nat_tests}
use Rattle.std.proofs.lemmas.List.{append-nil}
use Rattle.std.specs.Prelude.{option_map, IfSome, if◌then◌else◌}
use Rattle.std.specs.Option.{option_or}
use Rattle.std.specs.List.{filter_map, list_any}
use Rattle.fed_status.specs.Shared.{World}
use Rattle.fed_consent.specs.declared.table.input.Input.{Input}
use Rattle.fed_script.specs.declared.event.Event.{Event}
use Rattle.fed_script.specs.declared.event.Event.TheVariants as events
use Rattle.fed_trace.specs.Call.{known_first}
use Rattle.fed_trace.specs.Effect.{Effect, begins, last_of, is_ignored}
use Rattle.fed_trace.specs.Known.{world_at, input_to, for_call, with_said, known_in}
use Rattle.fed_trace.specs.Row.{effects_of, with_event}
use Rattle.fed_trace.specs.Trace.{Trace}
use Rattle.fed_slice.specs.Part.{Part, has_event}
use Rattle.fed_slice_laws.specs.Mine.{mine, view}
use Rattle.fed_slice_laws.specs.Side.{KnownSide, AskedSide}
use Rattle.fed_twin.proofs.seen.Seen.{last_at, last_of-seen}
use Rattle.fed_slice_laws.proofs.looks.Read.{reads, own_begins}
use Rattle.fed_slice_laws.proofs.looks.Looks.{SamePart, agree}
use Rattle.fed_slice_laws.proofs.looks.Fit.{BeganFits, last_side, known_in_side}
use Rattle.fed_slice_laws.proofs.calls.Agree.{known_first_same, said_same}
use Rattle.fed_slice_laws.proofs.rows.Same.{EventFits, effects_same}
use Rattle.fed_slice_laws.proofs.rows.None.{effects_none}
use Rattle.fed_slice_laws.proofs.rows.Fit.{effects_fit}

map_on : {A B : Type 0} (P : A → Type 0) (f g : A → B) → ((x : A) → P x → f x ≡ g x) → (o : Option A) → IfSome o P
    → option_map f o ≡ option_map g o
map_on P f g h None k = refl
map_on P f g h (Some x) k = ap Some (h x k)

map_left : {A : Type 0} (f : A → A) → ((x : A) → f x ≡ x) → (o : Option A) → option_map f o ≡ o
map_left f h None = refl
map_left f h (Some x) = ap Some (h x)

module _ (p : Part) (loaded : ℕ → Bool) (T U : Trace) (h : SamePart p loaded T U) where
  -- an event of the part
  pub grow_both : (line line' : ℕ) (e : Event) → EventFits p loaded e → has_event p e ≡ true
      → SamePart p loaded (with_event T line e) (with_event U line' e)
  grow_both line line' e fit inside =
      record {
        rules = h.rules;
        header = h.header;
        seen = ap₂ (λ xs ys. xs ++ ys) h.seen (ap (filter_map (mine p)) same);
        known = λ q own. known_both q own;
        fits = (effects_fit p loaded T h.fits e fit, h.fits);
        fits' = (effects_fit p loaded U h.fits' e fit, h.fits');
      }
    where
      same : effects_of T e ≡ effects_of U e
      same = effects_same p loaded T U h e fit inside

      w : World
      w = world_at T

      w' : World
      w' = world_at U

      es : List Effect
      es = effects_of U e

      -- how the call begins, where it does
      begins_both : (q : ℕ) → p.calls q ≡ true
          → option_map (known_first w) (last_of (begins q) es) ≡ option_map (known_first w') (last_of (begins q) es)
      begins_both q own =
          map_on (BeganFits p q) (known_first w) (known_first w')
          (λ b k. known_first_same p w w' (agree p loaded T U h) b
          (subst (λ s. AskedSide p s b.options) (sym k.fits.call ∙ ap p.calls k.number ∙ own) k.fits.asked))
          (last_of (begins q) es) (last_side p loaded q es (effects_fit p loaded U h.fits' e fit))

      -- what is known of it, where it began before
      said_both : (q : ℕ) → p.calls q ≡ true
          → option_map (with_said w (list_any is_ignored es) (input_to q e)) (known_in T.header T.rows q)
          ≡ option_map (with_said w' (list_any is_ignored es) (input_to q e)) (known_in U.header U.rows q)
      said_both q own =
          map_on (KnownSide p true) (with_said w (list_any is_ignored es) (input_to q e))
          (with_said w' (list_any is_ignored es) (input_to q e))
          (λ k side. said_same p w w' (agree p loaded T U h) (list_any is_ignored es) (input_to q e) k side)
          (known_in T.header T.rows q)
          (subst (λ s. IfSome (known_in T.header T.rows q) (KnownSide p s)) own (known_in_side p loaded T.header T.rows h.fits q))
          ∙ ap (option_map (with_said w' (list_any is_ignored es) (input_to q e))) (h.known q own)

      known_both : (q : ℕ) → p.calls q ≡ true
          → known_in T.header (with_event T line e).rows q ≡ known_in U.header (with_event U line' e).rows q
      known_both q own =
          ap (λ xs. option_or (option_map (known_first w) (last_of (begins q) xs))
          (option_map (with_said w (list_any is_ignored xs) (input_to q e)) (known_in T.header T.rows q))) same
          ∙ ap₂ option_or (begins_both q own) (said_both q own)

  -- what is brought to a call of the part is not brought by another event
  other_input : (q call : ℕ) (input : Input) → p.calls q ≡ true → p.calls call ≡ false → for_call q (Some (call, input)) ≡ None
  other_input q call input own out = go (nat_eq q call) refl
    where
      go : (b : Bool) → nat_eq q call ≡ b → (if b then Some input else None) ≡ None
      go false is = refl
      go true is =
          let one : q ≡ call = grind (arith, nat_tests, is) in
          absurd (let no : true ≡ false = sym own ∙ ap p.calls one ∙ out in cc)

  no_input : (q : ℕ) → p.calls q ≡ true → (e : Event) → has_event p e ≡ false → input_to q e ≡ None
  no_input q own (events.Have have) out = refl
  no_input q own (events.At time) out = refl
  no_input q own (events.Load page url raw) out = refl
  no_input q own (events.ClosePage page) out = refl
  no_input q own (events.Get page call options) out = refl
  no_input q own (events.Disconnect page call config client hint) out = refl
  no_input q own (events.IdpClose page) out = refl
  no_input q own (events.Prevent page) out = refl
  no_input q own (events.SetStatus page status) out = refl
  no_input q own (events.Abort call) out = other_input q call _ own out
  no_input q own (events.GoOn call) out = other_input q call _ own out
  no_input q own (events.Cancel call) out = other_input q call _ own out
  no_input q own (events.SignIn call) out = other_input q call _ own out
  no_input q own (events.ShutWindow call) out = other_input q call _ own out
  no_input q own (events.Reply call provider kind raw) out = other_input q call _ own out
  no_input q own (events.Choose call provider account) out = other_input q call _ own out

  -- another event, in the first trace alone
  pub grow_left : (line : ℕ) (e : Event) → EventFits p loaded e → has_event p e ≡ false → SamePart p loaded (with_event T line e) U
  grow_left line e fit out =
      record {
        rules = h.rules;
        header = h.header;
        seen = ap (λ xs. view p T.rows ++ xs) none ∙ append-nil (view p T.rows) ∙ h.seen;
        known = λ q own.
            ap (λ b. option_or (option_map (known_first (world_at T)) b)
            (option_map (with_said (world_at T) (list_any is_ignored (effects_of T e)) (input_to q e)) (known_in T.header T.rows q)))
            (last_of-seen (mine p) (begins q) (begins q) (reads p (begins q) (own_begins p q own)) (effects_of T e)
            ∙ ap (last_at (begins q)) none)
            ∙ ap (λ i. option_map (with_said (world_at T) (list_any is_ignored (effects_of T e)) i) (known_in T.header T.rows q))
            (no_input q own e out)
            ∙ map_left (with_said (world_at T) (list_any is_ignored (effects_of T e)) None) (λ k. refl) (known_in T.header T.rows q)
            ∙ h.known q own;
        fits = (effects_fit p loaded T h.fits e fit, h.fits);
        fits' = h.fits';
      }
    where
      none : filter_map (mine p) (effects_of T e) ≡ []
      none = effects_none p loaded T h.fits h.rules e fit out
