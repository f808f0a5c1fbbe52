-- What was found, with what is left, is the whole.
use Rattle.std.proofs.Common.{◌≡◌, ◌++◌, drop, length, map}
use Rattle.std.specs.List.{AllByRecursion}
use Rattle.std.specs.Vec.Iter.{into_iter_items}
use Rattle.fed_call.specs.Facts.{shortlists}
use Rattle.fed_call.specs.Gathering.{HasSome, listed_config}
use Rattle.fed_call.proofs.offers.gathered.Given as goal

abbrev pub invariant-loop-progress : goal.invariant-loop-progress
invariant-loop-progress l = record {
  offers : l.found.offers
      ++ map (λ list. list.offer)
      (shortlists l.shared.kept.now l.begun.origin l.place (drop l.place l.begun.providers) (into_iter_items l.progress-iterator))
      ≡ map (λ list. list.offer) (shortlists l.shared.kept.now l.begun.origin 0 l.begun.providers l.fn.progress);
  configs : l.found.configs ++ map listed_config (into_iter_items l.progress-iterator) ≡ map listed_config l.fn.progress;
  left : length (into_iter_items l.progress-iterator) ≡ length (drop l.place l.begun.providers);
  some : AllByRecursion HasSome l.found.offers;
}
