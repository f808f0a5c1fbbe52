-- What a stage leaves known of a call.
use Rattle.std.proofs.Common.{◌≡◌, ℕ, nat_eq, ◌⊎◌, inl, inr, List, Some, refl, ap}
use Rattle.std.specs.Prelude.{option_map}
use Rattle.fed_origin.specs.declared.stage.Stage.{Stage}
use Rattle.fed_origin.specs.declared.stage.Stage.TheVariants.{Reading, Listing, Gathering, Mismatch, Window, Choosing, Prompting}
use Rattle.fed_origin.specs.declared.stage.Stage.TheVariants.{Asserting, Ended}
use Rattle.fed_call.specs.Facts.{Facts}
use Rattle.fed_call.specs.Facts as get
use Rattle.fed_disconnect.specs.Facts.{DisconnectFacts}
use Rattle.fed_disconnect.specs.Facts as disconnect
use Rattle.fed_trace.specs.Begun.{CallKind}
use Rattle.fed_trace.specs.Call.{Known, OfGet, OfDisconnect, at_stage}
use Rattle.fed_trace.specs.Effect.{PendingCall, call_change}
use Rattle.fed_trace.specs.Keyed.{entries_after}
use Rattle.fed_trace.specs.Row.{moves}
use Rattle.fed_trace.proofs.known.Facts.{staged}

-- a stage at which a call goes on
pub record Goes (stage : Stage) : Type 0 where
  pub kept : (k : Known) → at_stage stage k ≡ Some (staged stage k)
  pub stays : (kind : CallKind) (call : ℕ) (es : List (ℕ × PendingCall))
      → entries_after nat_eq call_change (moves kind call (Some stage)) es ≡ es

-- what is kept of a call of either kind, where it is of a get and of a disconnect
both : (stage : Stage) → ((f : Facts) → get.at_stage stage f ≡ Some (record f { stage = stage }))
    → ((f : DisconnectFacts) → disconnect.at_stage stage f ≡ Some (record f { stage = stage })) → (k : Known)
    → at_stage stage k ≡ Some (staged stage k)
both stage gets disconnects (OfGet f) = ap (option_map OfGet) (gets f)
both stage gets disconnects (OfDisconnect f) = ap (option_map OfDisconnect) (disconnects f)

pub goes_or_ends : (stage : Stage) → (stage ≡ Ended) ⊎ Goes stage
goes_or_ends Ended = inl refl
goes_or_ends Reading = inr (record { kept = both Reading (λ f. refl) (λ f. refl); stays = λ kind call es. refl })
goes_or_ends Listing = inr (record { kept = both Listing (λ f. refl) (λ f. refl); stays = λ kind call es. refl })
goes_or_ends Mismatch = inr (record { kept = both Mismatch (λ f. refl) (λ f. refl); stays = λ kind call es. refl })
goes_or_ends Gathering = inr (record { kept = both Gathering (λ f. refl) (λ f. refl); stays = λ kind call es. refl })
goes_or_ends Window = inr (record { kept = both Window (λ f. refl) (λ f. refl); stays = λ kind call es. refl })
goes_or_ends Choosing = inr (record { kept = both Choosing (λ f. refl) (λ f. refl); stays = λ kind call es. refl })
goes_or_ends Prompting = inr (record { kept = both Prompting (λ f. refl) (λ f. refl); stays = λ kind call es. refl })
goes_or_ends Asserting = inr (record { kept = both Asserting (λ f. refl) (λ f. refl); stays = λ kind call es. refl })

get_again : (stage other : Stage) (f : Facts) → get.at_stage stage (record f { stage = other }) ≡ get.at_stage stage f
get_again Ended other f = refl
get_again Reading other f = refl
get_again Listing other f = refl
get_again Mismatch other f = refl
get_again Gathering other f = refl
get_again Window other f = refl
get_again Choosing other f = refl
get_again Prompting other f = refl
get_again Asserting other f = refl

disconnect_again : (stage other : Stage) (f : DisconnectFacts)
    → disconnect.at_stage stage (record f { stage = other }) ≡ disconnect.at_stage stage f
disconnect_again Ended other f = refl
disconnect_again Reading other f = refl
disconnect_again Listing other f = refl
disconnect_again Mismatch other f = refl
disconnect_again Gathering other f = refl
disconnect_again Window other f = refl
disconnect_again Choosing other f = refl
disconnect_again Prompting other f = refl
disconnect_again Asserting other f = refl

pub at_stage-again : (stage other : Stage) (k : Known) → at_stage stage (staged other k) ≡ at_stage stage k
at_stage-again stage other (OfGet f) = ap (option_map OfGet) (get_again stage other f)
at_stage-again stage other (OfDisconnect f) = ap (option_map OfDisconnect) (disconnect_again stage other f)
