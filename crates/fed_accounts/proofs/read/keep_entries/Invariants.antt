use Rattle.std.proofs.Common.{length, map}
use Rattle.std.specs.Option.{option_copied}
use Rattle.fed_accounts.proofs.ids.Reading.{KeepsRead}
use Rattle.fed_accounts.proofs.read.keep_entries.Given as goal

abbrev pub invariant-loop-alloc : goal.invariant-loop-alloc
invariant-loop-alloc l =
    KeepsRead (option_copied l.login) (option_copied l.domain) l.depth l.initial.values l.values (map (λ id. id.now) l.ids.keys) l.accounts

abbrev pub decreases-loop-alloc : goal.decreases-loop-alloc
decreases-loop-alloc l = length l.values
