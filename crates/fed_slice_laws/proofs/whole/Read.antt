-- A slice is readable.
use Rattle.std.proofs.Common.{◌≡◌, ℕ, ◌<◌, ◌≤◌, Bool, true, false, nat_eq, cond, ◌||◌, List, [], ◌∷◌, ◌++◌, filter, Some, None, refl, sym}
use Rattle.std.proofs.Common.{ap, ap₂, subst, ◌∙◌}
use Rattle.std.proofs.Common.{arith}
use Rattle.std.proofs.lemmas.List.{append-nil}
use Rattle.std.proofs.lemmas.List.Folds.{list_any-append}
use Rattle.std.specs.List.{list_any}
use Rattle.fed_script.specs.declared.event.Event.{Event}
use Rattle.fed_script.specs.declared.event.Event.TheVariants as events
use Rattle.fed_script.specs.declared.event.Numbered.{Numbered}
use Rattle.fed_script.specs.Script.{AreRead, MayFollow}
use Rattle.fed_script.specs.Used.{UsedState, unused, is_used, calls_after, used_after}
use Rattle.fed_slice.specs.Slice.{in_slice}
use Rattle.fed_slice_laws.specs.Laws.{unnumbered, SliceIsRead}
use Rattle.fed_slice_laws.proofs.whole.Members.{beginning_of, is_taken, used_is}

-- less is used
pub record UsesLess (less more : UsedState) : Type 0 where
  pub events : less.events ≤ more.events
  pub calls : (q : ℕ) → list_any (nat_eq q) more.calls ≡ false → list_any (nat_eq q) less.calls ≡ false

no_append : (q : ℕ) (xs ys : List ℕ) → list_any (nat_eq q) (xs ++ ys) ≡ false
    → (list_any (nat_eq q) xs ≡ false) × (list_any (nat_eq q) ys ≡ false)
no_append q xs ys h =
    go (list_any (nat_eq q) xs) (list_any (nat_eq q) ys) (sym (list_any-append (nat_eq q) xs ys) ∙ h)
  where
    go : (a b : Bool) → (a || b) ≡ false → (a ≡ false) × (b ≡ false)
    go false b k = (refl, k)
    go true b k = absurd (let no : true ≡ false = k in cc)

-- what an event adds to the numbers
abbrev added : Event → List ℕ
added (events.Get page call options) = call ∷ []
added (events.Disconnect page call config client hint) = call ∷ []
added _ = []

adds : (e : Event) (calls : List ℕ) → calls_after e calls ≡ calls ++ added e
adds (events.Get page call options) calls = refl
adds (events.Disconnect page call config client hint) calls = refl
adds _ calls = sym (append-nil calls)

pub less_left : (less more : UsedState) (e : Event) → UsesLess less more → UsesLess less (used_after e more)
less_left less more e h =
    record {
      events = let k = h.events in grind (arith, k);
      calls = λ q none. h.calls q
          (no_append q more.calls (added e) (sym (ap (list_any (nat_eq q)) (adds e more.calls)) ∙ none)).0;
    }

pub less_both : (less more : UsedState) (e : Event) → UsesLess less more → UsesLess (used_after e less) (used_after e more)
less_both less more e h =
    record {
      events = let k = h.events in grind (arith, k);
      calls = λ q none.
          let parts = no_append q more.calls (added e) (sym (ap (list_any (nat_eq q)) (adds e more.calls)) ∙ none) in
          ap (list_any (nat_eq q)) (adds e less.calls)
          ∙ list_any-append (nat_eq q) less.calls (added e)
          ∙ ap₂ (λ a b. a || b) (h.calls q parts.0) parts.1;
    }

pub unused_still : (less more : UsedState) → UsesLess less more → (e : Event) → is_used more e ≡ false → is_used less e ≡ false
unused_still less more h e free = used_is less e ∙ go (beginning_of e) (sym (used_is more e) ∙ free)
  where
    go : (o : _) → is_taken more.calls o ≡ false → is_taken less.calls o ≡ false
    go None k = refl
    go (Some b) k = h.calls b.call k

-- the walk over further events, from any two states of which the one uses less
abbrev Walks : (Event → Bool) → List Numbered → Type 0
Walks keep ns =
    (less more : UsedState) → UsesLess less more → (ms : List Numbered) → AreRead more ns
    → unnumbered ms ≡ unnumbered (filter (λ n. keep n.event) ns) → AreRead less ms

walk : (keep : Event → Bool) (ns : List Numbered) → Walks keep ns
walk keep [] less more h [] read same = tt
walk keep [] less more h (m ∷ ms) read same = absurd (cc)
walk keep (n ∷ ns) less more h ms read same = by (walk keep ns) (keep n.event) ms same
  where
    rest : List Numbered
    rest = filter (λ n. keep n.event) ns

    by : Walks keep ns → (b : Bool) → (ms : List Numbered) → unnumbered ms ≡ unnumbered (cond b (n ∷ rest) rest) → AreRead less ms
    by further false ms same = further less (used_after n.event more) (less_left less more n.event h) ms read.1 same
    by further true [] same = absurd (cc)
    by further true (m ∷ ms) same =
        let head : m.event ≡ n.event = cc in
        let tail : unnumbered ms ≡ unnumbered rest = cc in
        let first = read.0 in
        let few : less.events < 1000000 = let k = h.events in let l = first.few in grind (arith, k, l) in
        let follow : MayFollow less n.event =
        record { few = few; once = unused_still less more h n.event first.once; provider = first.provider; status = first.status } in
        subst (λ e. MayFollow less e × AreRead (used_after e less) ms) (sym head)
        (follow, further (used_after n.event less) (used_after n.event more) (less_both less more n.event h) ms read.1 tail)

pub slice_is_read_lem : SliceIsRead
slice_is_read_lem s w parties read slice =
    walk (in_slice s parties) s.events (unused w.header.now) (unused s.header.now)
    (record { events = let k : 0 ≤ 0 = grind (arith) in k; calls = λ q none. refl }) w.events read slice.events
