-- Two worlds grow by a row each, or by one row in one of them.
use Rattle.std.proofs.Common.{◌≡◌, ℕ, [], ◌++◌, ap, ap₂, ◌∙◌, append-nil}
use Rattle.std.specs.List.{filter_map}
use Rattle.fed_script.specs.declared.event.Event.{Event}
use Rattle.fed_trace.specs.Known.{facts_at}
use Rattle.fed_trace.specs.Row.{effects_of, with_event}
use Rattle.fed_trace.specs.Trace.{Trace}
use Rattle.fed_twin.specs.Providers.{Providers}
use Rattle.fed_twin.specs.Seen.{seen, view}
use Rattle.fed_twin.specs.Same.{SameCall, SameWorlds}

pub grow : (p : Providers) (T U : Trace) → SameWorlds p T U → (line line' : ℕ) (event event' : Event)
    → filter_map (seen p) (effects_of T event) ≡ filter_map (seen p) (effects_of U event')
    → ((q : ℕ) → SameCall p (facts_at (with_event T line event) q) (facts_at (with_event U line' event') q))
    → SameWorlds p (with_event T line event) (with_event U line' event')
grow p T U h line line' event event' same calls =
    record { rules = h.rules; rules' = h.rules'; now = h.now; seen = ap₂ (λ xs ys. xs ++ ys) h.seen same; calls = calls }

pub grow_alone : (p : Providers) (T U : Trace) → SameWorlds p T U → (line : ℕ) (event : Event)
    → filter_map (seen p) (effects_of T event) ≡ []
    → ((q : ℕ) → SameCall p (facts_at (with_event T line event) q) (facts_at U q)) → SameWorlds p (with_event T line event) U
grow_alone p T U h line event none calls =
    record {
      rules = h.rules;
      rules' = h.rules';
      now = h.now;
      seen = ap (λ xs. view p T.rows ++ xs) none ∙ append-nil (view p T.rows) ∙ h.seen;
      calls = calls;
    }
