-- What an input says of a call hangs on no stage, and leaves what the call began with.
use Rattle.std.proofs.Common.{◌≡◌, Bool, true, false, List, ℕ, Some, None, refl, ap}
use Rattle.std.specs.Prelude.{Option, slice_set}
use Rattle.fed_origin.specs.declared.stage.ReplyKind.{ReplyKind}
use Rattle.fed_origin.specs.declared.stage.ReplyKind.TheVariants as kinds
use Rattle.fed_origin.specs.declared.stage.Stage.{Stage}
use Rattle.fed_status.specs.Shared.{World}
use Rattle.fed_consent.specs.declared.table.failure.Failure.{Failure}
use Rattle.fed_consent.specs.declared.table.input.Input.{Input}
use Rattle.fed_consent.specs.declared.table.input.Input.TheVariants as inputs
use Rattle.fed_call.specs.declared.progress.Progress.{Progress}
use Rattle.fed_call.specs.declared.progress.Progress.TheVariants as progress_is
use Rattle.fed_call.specs.Accounts.{Offered}
use Rattle.fed_call.specs.Facts.{Facts, Conclusion, Awaits, NoneLeft, Reselects, NoneSilent, Offers, Prompts, conclusion_of, with_picked}
use Rattle.fed_call.specs.Facts.{with_conclusion, with_settled, with_progress, with_none_fitting, is_single, with_came, came_at, with_reply}
use Rattle.fed_call.specs.Facts.{found_offered, with_choice}
use Rattle.fed_call.specs.Facts as get
use Rattle.fed_call.specs.Progress.{Came, Unawaited, Refused, Waits, Both, NoneFits, Fit}
use Rattle.fed_disconnect.specs.Facts.{DisconnectFacts}
use Rattle.fed_disconnect.specs.Facts as disconnect
use Rattle.fed_trace.specs.Call.{Known, OfGet, OfDisconnect, kind_of, page_of, with_input}

-- a reading of facts that leaves the number, the page, its origin and the options, and does not look at the stage
record Keeps (f : Facts → Facts) : Type 0 where
  call : (facts : Facts) → (f facts).call ≡ facts.call
  page : (facts : Facts) → (f facts).page ≡ facts.page
  origin : (facts : Facts) → (f facts).origin ≡ facts.origin
  options : (facts : Facts) → (f facts).options ≡ facts.options
  staged : (facts : Facts) (stage : Stage) → f (record facts { stage = stage }) ≡ record (f facts) { stage = stage }

same_keeps : Keeps (λ facts. facts)
same_keeps = record { call = λ f. refl; page = λ f. refl; origin = λ f. refl; options = λ f. refl; staged = λ f s. refl }

picked_keeps : (offered : Offered) → Keeps (with_picked offered)
picked_keeps offered = record { call = λ f. refl; page = λ f. refl; origin = λ f. refl; options = λ f. refl; staged = λ f s. refl }

progress_keeps : (place : ℕ) (progress : Progress) → Keeps (with_progress place progress)
progress_keeps place progress = record { call = λ f. refl; page = λ f. refl; origin = λ f. refl; options = λ f. refl; staged = λ f s. refl }

conclusion_keeps : (c : Conclusion) → Keeps (with_conclusion c)
conclusion_keeps Awaits = same_keeps
conclusion_keeps (NoneLeft failure) = same_keeps
conclusion_keeps (Reselects offered) = record {
  call = λ f. refl;
  page = λ f. refl;
  origin = λ f. refl;
  options = λ f. refl;
  staged =
      λ f s. refl;
}
conclusion_keeps NoneSilent = same_keeps
conclusion_keeps (Offers offered) = record {
  call = λ f. refl;
  page = λ f. refl;
  origin = λ f. refl;
  options = λ f. refl;
  staged =
      λ f s. refl;
}
conclusion_keeps (Prompts offered) = picked_keeps offered

settled_keeps : (world : World) (place : ℕ) (progress : Progress) → Keeps (λ facts. with_settled world (with_progress place progress facts))
settled_keeps world place progress =
    record {
      call = λ f. (conclusion_keeps (c f)).call (with_progress place progress f);
      page = λ f. (conclusion_keeps (c f)).page (with_progress place progress f);
      origin = λ f. (conclusion_keeps (c f)).origin (with_progress place progress f);
      options = λ f. (conclusion_keeps (c f)).options (with_progress place progress f);
      staged = λ f s. (conclusion_keeps (c f)).staged (with_progress place progress f) s;
    }
  where
    c : Facts → Conclusion
    c f = conclusion_of world f.origin f.options (slice_set f.progress place progress)

fitting_keeps : (world : World) (place : ℕ) (failure : Failure) (single : Bool) → Keeps (with_none_fitting world place failure single)
fitting_keeps world place failure true = same_keeps
fitting_keeps world place failure false = settled_keeps world place (progress_is.Dropped failure)

came_keeps : (world : World) (place : ℕ) (came : Came) → Keeps (with_came world place came)
came_keeps world place Unawaited = same_keeps
came_keeps world place (Refused failure) = settled_keeps world place (progress_is.Dropped failure)
came_keeps world place (Waits replies) = progress_keeps place (progress_is.Reading replies)
came_keeps world place (Both config) = progress_keeps place (progress_is.Listing config)
came_keeps world place (NoneFits failure) =
    record {
      call = λ f. (fitting_keeps world place failure (is_single f.options)).call f;
      page = λ f. (fitting_keeps world place failure (is_single f.options)).page f;
      origin = λ f. (fitting_keeps world place failure (is_single f.options)).origin f;
      options = λ f. (fitting_keeps world place failure (is_single f.options)).options f;
      staged = λ f s. (fitting_keeps world place failure (is_single f.options)).staged f s;
    }
came_keeps world place (Fit config accounts) = settled_keeps world place (progress_is.Listed config accounts)

heard_keeps : (world : World) (place : ℕ) (kind : ReplyKind) (raw : List ℕ)
    → Keeps (λ facts. with_came world place (came_at world facts place kind raw) facts)
heard_keeps world place kind raw =
    record {
      call = λ f. (came_keeps world place (came_at world f place kind raw)).call f;
      page = λ f. (came_keeps world place (came_at world f place kind raw)).page f;
      origin = λ f. (came_keeps world place (came_at world f place kind raw)).origin f;
      options = λ f. (came_keeps world place (came_at world f place kind raw)).options f;
      staged = λ f s. (came_keeps world place (came_at world f place kind raw)).staged f s;
    }

reply_keeps : (world : World) (place : ℕ) (kind : ReplyKind) (raw : List ℕ) → Keeps (with_reply world place kind raw)
reply_keeps world place kinds.WellKnown raw = heard_keeps world place kinds.WellKnown raw
reply_keeps world place kinds.Config raw = heard_keeps world place kinds.Config raw
reply_keeps world place kinds.Accounts raw = heard_keeps world place kinds.Accounts raw
reply_keeps world place kinds.Metadata raw = record {
  call = λ f. refl;
  page = λ f. refl;
  origin = λ f. refl;
  options =
      λ f. refl;
  staged = λ f s. refl;
}
reply_keeps world place kinds.Assertion raw = same_keeps
reply_keeps world place kinds.Disconnect raw = same_keeps

choice_keeps : (offered : Option Offered) → Keeps (with_choice offered)
choice_keeps None = same_keeps
choice_keeps (Some offered) = picked_keeps offered

input_keeps : (world : World) (ignored : Bool) (input : Input) → Keeps (get.with_input world ignored input)
input_keeps world true input = same_keeps
input_keeps world false (inputs.Reply place kind raw) = reply_keeps world place kind raw
input_keeps world false (inputs.Choose place id) =
    record {
      call = λ f. (choice_keeps (found_offered place id f)).call f;
      page = λ f. (choice_keeps (found_offered place id f)).page f;
      origin = λ f. (choice_keeps (found_offered place id f)).origin f;
      options = λ f. (choice_keeps (found_offered place id f)).options f;
      staged = λ f s. (choice_keeps (found_offered place id f)).staged f s;
    }
input_keeps world false inputs.GoOn = same_keeps
input_keeps world false inputs.Cancel = same_keeps
input_keeps world false inputs.SignIn = same_keeps
input_keeps world false inputs.Shut = same_keeps
input_keeps world false inputs.Resume = same_keeps
input_keeps world false inputs.Abort = same_keeps

-- ---- of a call of either kind

-- the call, put at this stage
abbrev pub staged : Stage → Known → Known
staged stage (OfGet facts) = OfGet (record facts { stage = stage })
staged stage (OfDisconnect facts) = OfDisconnect (record facts { stage = stage })

disconnect_at : (world : World) (ignored : Bool) (input : Input) (facts : DisconnectFacts) (stage : Stage)
    → disconnect.with_input world ignored input (record facts { stage = stage })
    ≡ record (disconnect.with_input world ignored input facts) { stage = stage }
disconnect_at world true input facts stage = refl
disconnect_at world false (inputs.Reply place kind raw) facts stage = refl
disconnect_at world false (inputs.Choose place account) facts stage = refl
disconnect_at world false inputs.GoOn facts stage = refl
disconnect_at world false inputs.Cancel facts stage = refl
disconnect_at world false inputs.SignIn facts stage = refl
disconnect_at world false inputs.Shut facts stage = refl
disconnect_at world false inputs.Resume facts stage = refl
disconnect_at world false inputs.Abort facts stage = refl

disconnect_page : (world : World) (ignored : Bool) (input : Input) (facts : DisconnectFacts)
    → (disconnect.with_input world ignored input facts).page ≡ facts.page
disconnect_page world true input facts = refl
disconnect_page world false (inputs.Reply place kind raw) facts = refl
disconnect_page world false (inputs.Choose place account) facts = refl
disconnect_page world false inputs.GoOn facts = refl
disconnect_page world false inputs.Cancel facts = refl
disconnect_page world false inputs.SignIn facts = refl
disconnect_page world false inputs.Shut facts = refl
disconnect_page world false inputs.Resume facts = refl
disconnect_page world false inputs.Abort facts = refl

-- an input leaves the page and the kind of a call
pub same_page : (world : World) (ignored : Bool) (input : Input) (known : Known)
    → page_of (with_input world ignored input known) ≡ page_of known
same_page world ignored input (OfGet facts) = (input_keeps world ignored input).page facts
same_page world ignored input (OfDisconnect facts) = disconnect_page world ignored input facts

pub same_kind : (world : World) (ignored : Bool) (input : Input) (known : Known)
    → kind_of (with_input world ignored input known) ≡ kind_of known
same_kind world ignored input (OfGet facts) = refl
same_kind world ignored input (OfDisconnect facts) = refl

pub with_input-at : (world : World) (ignored : Bool) (input : Input) (known : Known) (stage : Stage)
    → with_input world ignored input (staged stage known) ≡ staged stage (with_input world ignored input known)
with_input-at world ignored input (OfGet facts) stage = ap OfGet ((input_keeps world ignored input).staged facts stage)
with_input-at world ignored input (OfDisconnect facts) stage = ap OfDisconnect (disconnect_at world ignored input facts stage)

-- ---- of a get

pub same_call : (world : World) (ignored : Bool) (input : Input) (facts : Facts)
    → (get.with_input world ignored input facts).call ≡ facts.call
same_call world ignored input facts = (input_keeps world ignored input).call facts

pub same_origin_of : (world : World) (ignored : Bool) (input : Input) (facts : Facts)
    → (get.with_input world ignored input facts).origin ≡ facts.origin
same_origin_of world ignored input facts = (input_keeps world ignored input).origin facts

pub same_options : (world : World) (ignored : Bool) (input : Input) (facts : Facts)
    → (get.with_input world ignored input facts).options ≡ facts.options
same_options world ignored input facts = (input_keeps world ignored input).options facts

pub get_page : (world : World) (ignored : Bool) (input : Input) (facts : Facts)
    → (get.with_input world ignored input facts).page ≡ facts.page
get_page world ignored input facts = (input_keeps world ignored input).page facts
