-- All permissions of a pair go where each of them goes, one after the other.
use Rattle.std.proofs.Common.{◌≡◌, Bool, true, false, cond, not, List, [], ◌∷◌, filter, refl, sym, ap, ◌∙◌}
use Rattle.indexmap.specs.IndexSet.{remove_key}
use Rattle.fed_origin.specs.declared.origin.Origin.{Origin}
use Rattle.fed_origin.specs.declared.status.Triple.{Triple}
use Rattle.fed_origin.specs.Status.{same_triple}
use Rattle.fed_status.specs.Kept.{is_of_pair, without_triple, without_pair, triples_of_pair, without_each}
use Rattle.fed_status.proofs.lists.Same.{same_triple_is, same_triple_self}

-- what goes of permissions after one that none of those is goes of the rest alone
each_after : (first : Triple) (test : Triple → Bool) → test first ≡ false → (gone kept : List Triple)
    → without_each (first ∷ kept) (filter test gone) ≡ first ∷ without_each kept (filter test gone)
each_after first test stays [] kept = refl
each_after first test stays (t ∷ gone) kept = pick (test t) refl (λ ks. each_after first test stays gone ks)
  where
    left : List Triple
    left = filter test gone

    apart : test t ≡ true → (b : Bool) → same_triple t first ≡ b
        → remove_key (same_triple t) (first ∷ kept) ≡ first ∷ remove_key (same_triple t) kept
    apart passes false is = ap (λ b. cond b kept (first ∷ remove_key (same_triple t) kept)) is
    apart passes true is =
        let wrong : true ≡ false = sym passes ∙ ap test (same_triple_is t first is) ∙ stays in
        cc

    pick : (b : Bool) → test t ≡ b → ((ks : List Triple) → without_each (first ∷ ks) left ≡ first ∷ without_each ks left)
        → without_each (first ∷ kept) (cond b (t ∷ left) left) ≡ first ∷ without_each kept (cond b (t ∷ left) left)
    pick true passes h = ap (λ ks. without_each ks left) (apart passes (same_triple t first) refl) ∙ h (without_triple kept t)
    pick false passes h = h kept

each_goes : (test : Triple → Bool) (kept : List Triple) → filter (λ t. not (test t)) kept ≡ without_each kept (filter test kept)
each_goes test [] = refl
each_goes test (t ∷ kept) = pick (test t) refl (each_goes test kept)
  where
    others : List Triple
    others = filter (λ t. not (test t)) kept

    gone : List Triple
    gone = filter test kept

    pick : (b : Bool) → test t ≡ b → others ≡ without_each kept gone
        → cond (not b) (t ∷ others) others ≡ without_each (t ∷ kept) (cond b (t ∷ gone) gone)
    pick true passes h =
        h ∙ sym (ap (λ b. without_each (cond b kept (t ∷ remove_key (same_triple t) kept)) gone) (same_triple_self t))
    pick false passes h = ap (λ ks. t ∷ ks) h ∙ sym (each_after t test passes kept kept)

-- the permissions without a pair are those without each of its permissions
pub without_pair-each : (kept : List Triple) (page provider : Origin)
    → without_pair kept page provider ≡ without_each kept (triples_of_pair kept page provider)
without_pair-each kept page provider = each_goes (is_of_pair page provider) kept
