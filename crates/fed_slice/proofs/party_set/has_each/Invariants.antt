use Rattle.std.proofs.Common.{◌≡◌, ◌&&◌, drop, map}
use Rattle.std.specs.List.{list_all}
use Rattle.fed_origin.specs.WebUrl.{host_of}
use Rattle.fed_slice.specs.Closure.{is_among}
use Rattle.fed_slice.proofs.party_set.has_each.Given as goal

-- what is so of those that were looked at, and of those that are left
abbrev pub invariant-loop-provider : goal.invariant-loop-provider
invariant-loop-provider l =
    (l.all && list_all (is_among l.rules l.parties) (map (λ o. host_of o.config) (drop l.provider-index l.providers)))
    ≡ list_all (is_among l.rules l.parties) (map (λ o. host_of o.config) l.providers)
