-- What is saved is a script: it can be read, saved again, and gone on with.
use Rattle.std.specs.Prelude.{◌≡◌, ◌≤◌, ℕ, nat_eq, Bool, List, [], ◌++◌, length, fold, Some, Ok}
use Rattle.std.specs.List.{AllZip, AllByRecursion, list_any}
use Rattle.fed_suffix.specs.Rule.{RuleSet}
use Rattle.fed_script.specs.declared.event.Numbered.{Numbered}
use Rattle.fed_script.specs.Script.{Script, script_of, script_of_lines, lines_of}
use Rattle.fed_script.specs.Used.{calls_after}
use Rattle.fed_session.specs.declared.view.View.{View}
use Rattle.fed_session.specs.Session.{Shows}
use Rattle.fed_trace.specs.Effect.{Effect}
use Rattle.fed_trace.specs.OfScript.{start, trace_of}
use Rattle.fed_trace.specs.Row.{IsRun}
use Rattle.fed_trace.specs.Trace.{Trace}
use Rattle.fed_profile.specs.declared.state.Saved.TheVariants.{Lines}
use Rattle.fed_profile.specs.Item.{item_of, item_again}
use Rattle.fed_profile.specs.Save.{Saves, items_of}
use Rattle.fed_profile.specs.Saved.{NamesNone, does_after, events_of}

-- the text is a script of this time and these rules, whose events bring the items back, one each
pub record IsSavedScript (view : View) (rules : RuleSet) (text : List ℕ) : Type 0 where
  pub script : Script
  pub reads : script_of text ≡ Ok script
  pub header : script.header ≡ record { rules = rules; now = view.now }
  pub brings : AllZip (λ item event. item_of rules view.now event
      ≡ Some (item_again view.now item)) (items_of view) (events_of script.events)

-- What is saved is a script, where there are no more items than a script may have events.
abbrev pub SavedIsScript : Type 0
SavedIsScript =
    (view : View) (rules : RuleSet) (text : List ℕ)
    → Saves view rules (Lines text) → length (items_of view) ≤ 1000000 → IsSavedScript view rules text

-- What a session is saved as, read as a script and saved again, is the text that it was, byte for byte.
abbrev pub SavedAgain : Type 0
SavedAgain =
    (T : Trace) (view again : View) (text : List ℕ) (script : Script)
    → IsRun T.header T.rows → Shows view T → Saves view T.header.rules (Lines text)
    → script_of text ≡ Ok script → Shows again (trace_of script) → Saves again script.header.rules (Lines text)

-- what the events of a script do, one after the other
abbrev pub done_by : Script → List (List Effect)
done_by script = does_after (start script.header) script.events

-- the numbers that gets and disconnects of the events have, whether or not they are taken
abbrev pub calls_named : List Numbered → List ℕ
calls_named events = fold (λ (calls : List ℕ) (n : Numbered). calls_after n.event calls) [] events

-- a get or a disconnect of the script has the number
abbrev pub is_call_of : Script → ℕ → Bool
is_call_of script call = list_any (nat_eq call) (calls_named script.events)

-- further lines do the same behind both
pub record GoesOnAlike (script whole saved after : Script) : Type 0 where
  pub more : List (List Effect)
  pub whole_does : done_by whole ≡ done_by script ++ more
  pub after_does : done_by after ≡ done_by saved ++ more

-- Further lines that name no call of a script, and stand both behind its lines and behind those that it is saved as, do the same in both.
abbrev pub ScriptGoesOn : Type 0
ScriptGoesOn =
    (lines more : List (List ℕ)) (script whole saved after : Script) (view : View) (text : List ℕ) (further : List Numbered)
    → script_of_lines lines ≡ Ok script → script_of_lines (lines ++ more) ≡ Ok whole
    → Shows view (trace_of script) → Saves view script.header.rules (Lines text)
    → script_of text ≡ Ok saved → script_of_lines (lines_of text ++ more) ≡ Ok after
    → whole.events ≡ script.events ++ further → AllByRecursion (λ n. NamesNone (is_call_of script) n.event) further
    → GoesOnAlike script whole saved after
