-- For private clauses: what a call with one provider does at what a first reply comes to.
use Rattle.std.specs.Prelude.{Option, Some, None}
use Rattle.fed_provider.specs.declared.first_replies.Heard.{Heard}
use Rattle.fed_provider.specs.declared.first_replies.Heard.TheVariants as heards
use Rattle.fed_consent.specs.declared.table.why.Why.TheVariants.{NotWaited}
use Rattle.fed_consent.specs.Failures.{provider_failure}
use Rattle.fed_consent.specs.Outcomes.{Outcome, fails, ignored, stays, only_place}
use Rattle.fed_call.specs.declared.stages.At.TheVariants as ats
use Rattle.fed_call.specs.Begun.{Begun}
use Rattle.fed_call.specs.Facts.{Facts}
use Rattle.fed_call.specs.ReadingRows.{asks_accounts}
use Rattle.fed_call.specs.State.{at_facts}

abbrev pub by_heard : Heard → Outcome
by_heard (heards.Refused step) = fails (provider_failure step)
by_heard (heards.Waits replies) = stays
by_heard (heards.Both config) = asks_accounts only_place config
by_heard (heards.NotWaited replies) = ignored NotWaited

-- what is known of a call that began so then
abbrev pub facts_heard : Begun → Heard → Option Facts
facts_heard begun (heards.Refused step) = None
facts_heard begun (heards.Waits replies) = Some (at_facts begun (ats.Reading replies))
facts_heard begun (heards.Both config) = Some (at_facts begun (ats.Listing config))
facts_heard begun (heards.NotWaited replies) = Some (at_facts begun (ats.Reading replies))
