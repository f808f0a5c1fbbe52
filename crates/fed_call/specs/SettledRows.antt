-- The rows of a call whose providers are all settled: C17 to C21 of the only one, M10 to M15 of several.
use Rattle.std.specs.Prelude.{false}
use Rattle.fed_origin.specs.declared.stage.Stage.TheVariants as stages
use Rattle.fed_status.specs.Shared.{World}
use Rattle.fed_consent.specs.declared.consent.manner.Manner.TheVariants.{Reselected}
use Rattle.fed_consent.specs.declared.table.failure.FailStep.TheVariants as steps
use Rattle.fed_consent.specs.Failures.{plain}
use Rattle.fed_consent.specs.Outcomes.{Outcome, fails, stays, moves}
use Rattle.fed_call.specs.AssertingRows.{asserts}
use Rattle.fed_call.specs.Dialogs.{choice_dialog, prompts}
use Rattle.fed_call.specs.Facts.{Facts, Conclusion, Awaits, NoneLeft, Reselects, NoneSilent, Offers, Prompts, conclusion_of}

abbrev pub concludes : World → Facts → Conclusion → Outcome
-- some provider is awaited
concludes world facts Awaits = stays
-- M10: no account is left
concludes world facts (NoneLeft failure) = fails failure
-- C17, M11: one is reselected
concludes world facts (Reselects offered) = asserts facts offered Reselected false
-- C18, M12: the call is silent
concludes world facts NoneSilent = fails (plain steps.SilentNoAccount)
-- C19, M13: there are several
concludes world facts (Offers offered) = moves stages.Choosing (choice_dialog world facts offered)
-- C20, C21, M14, M15: there is one
concludes world facts (Prompts offered) = prompts world facts offered

-- what a call does where a provider is settled
abbrev pub settles : World → Facts → Outcome
settles world facts = concludes world facts (conclusion_of world facts.origin facts.options facts.progress)
