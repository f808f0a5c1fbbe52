-- The stages that a call can be in, by its providers.
use Rattle.std.specs.Prelude.{Bool, true, false, not, ◌&&◌, ◌==◌, List, [], ◌∷◌, length}
use Rattle.fed_origin.specs.declared.options.ProviderOptions.{ProviderOptions}
use Rattle.fed_origin.specs.declared.scheme.Scheme.{Scheme}
use Rattle.fed_origin.specs.declared.scheme.Scheme.TheVariants.{Http, Https}
use Rattle.fed_origin.specs.WebUrl.{scheme_of}
use Rattle.fed_call.specs.declared.stages.At.{At}
use Rattle.fed_call.specs.declared.stages.At.TheVariants as ats
use Rattle.fed_call.specs.declared.progress.Progress.{Progress}
use Rattle.fed_call.specs.declared.progress.Progress.TheVariants as progress_is
use Rattle.fed_call.specs.Begun.{Begun}

-- the call has one provider
abbrev pub is_one : Begun → Bool
is_one begun = length begun.providers == 1

abbrev pub is_https : Scheme → Bool
is_https Http = false
is_https Https = true

-- a provider whose files are awaited has a configuration URL that is https
abbrev pub may_come : ProviderOptions → Progress → Bool
may_come provider (progress_is.Reading replies) = is_https (scheme_of provider.config)
may_come provider (progress_is.Listing config) = true
may_come provider (progress_is.Listed config accounts) = true
may_come provider (progress_is.Dropped failure) = true

-- of each provider it is said how far it has come
abbrev pub may_all : List ProviderOptions → List Progress → Bool
may_all [] [] = true
may_all [] (progress ∷ more) = false
may_all (provider ∷ providers) [] = false
may_all (provider ∷ providers) (progress ∷ more) = may_come provider progress && may_all providers more

-- a call that began so may be at this stage
abbrev pub fits : Begun → At → Bool
fits begun (ats.Reading replies) = is_one begun && is_https (scheme_of begun.provider.config)
fits begun (ats.Listing config) = is_one begun
fits begun (ats.Gathering progress) = not (is_one begun) && may_all begun.providers progress
fits begun (ats.Mismatch config) = is_one begun
fits begun (ats.Window config) = is_one begun
fits begun (ats.Choosing choosing) = true
fits begun (ats.Prompting prompting) = true
fits begun (ats.Asserting asserting) = true
