-- The effects of what a call does, on either side of a part.
use Rattle.std.proofs.Common.{◌≡◌, ℕ, Bool, true, false, ◌&&◌, cond, List, [], ◌∷◌, ◌++◌, map, Option, Some, None, refl, sym, ap, ap₂, ◌∙◌}
use Rattle.std.proofs.lemmas.List.Elements.{filter_map-append}
use Rattle.std.specs.List.{filter_map, flat_map, cons_option, AllByRecursion}
use Rattle.fed_origin.specs.declared.origin.Origin.{Origin}
use Rattle.fed_origin.specs.declared.stage.Stage.{Stage}
use Rattle.fed_origin.specs.declared.status.Triple.{Triple}
use Rattle.fed_origin.specs.Origin.{same_origin}
use Rattle.fed_status.specs.Kept as kept
use Rattle.fed_status.specs.Shared.{World}
use Rattle.fed_status.proofs.lists.Same.{same_origin_is}
use Rattle.fed_consent.specs.declared.table.ask.Ask.{Ask}
use Rattle.fed_consent.specs.declared.table.effect.Effect.{Effect as CallEffect}
use Rattle.fed_consent.specs.declared.table.effect.Effect.TheVariants as acts
use Rattle.fed_consent.specs.Outcomes.{Outcome}
use Rattle.fed_trace.specs.Begun.{CallKind}
use Rattle.fed_trace.specs.Effect.{Effect, Kept}
use Rattle.fed_trace.specs.Effect as does
use Rattle.fed_trace.specs.Row.{call_effects, moves, outcome_effects}
use Rattle.fed_slice.specs.Part.{Part, has, has_triple}
use Rattle.fed_slice_laws.specs.Mine.{is_mine, mine}
use Rattle.fed_slice_laws.specs.Side.{Fits}
use Rattle.fed_slice_laws.proofs.lists.Keep.{all_append}
use Rattle.fed_slice_laws.proofs.calls.Rows.{AskSide, OnSide, AllOn, both_on}
use Rattle.fed_slice_laws.proofs.calls.Agree.{AgreeWorlds}

-- the same cookies go with the requests to the part
abbrev pub SameCookies : Part → (Ask → List ℕ) → (Ask → List ℕ) → Type 0
SameCookies p ck ck' = (ask : Ask) → AskSide p true ask → ck ask ≡ ck' ask

-- ---- on the part's own side

module _ (p : Part) (w w' : World) (ck ck' : Ask → List ℕ) (agree : AgreeWorlds p w w') (text : SameCookies p ck ck')
    (kind : CallKind) (call page : ℕ) where
  one_same : (e : CallEffect) → OnSide p true e → call_effects w ck kind call page e ≡ call_effects w' ck' kind call page e
  one_same (acts.Send place ask) h = ap (λ t. does.Sent kind call place ask t ∷ []) (text ask h)
  one_same (acts.Dropped place failure) h = refl
  one_same (acts.Dialog dialog) h = refl
  one_same (acts.Window place url) h = refl
  one_same (acts.SetLogin origin status) h = refl
  one_same (acts.Keep triple) h = refl
  one_same (acts.Forget triple) h = refl
  one_same (acts.ForgetPair o u) h = ap (map (λ triple. Kept triple false)) (agree.triples o u h.0 h.1)
  one_same (acts.ClearFlag origin) h = refl
  one_same (acts.Finish finish) h = refl
  one_same (acts.Ignored why) h = refl

  all_same : (es : List CallEffect) → AllByRecursion (OnSide p true) es
      → flat_map (call_effects w ck kind call page) es ≡ flat_map (call_effects w' ck' kind call page) es
  all_same [] h = refl
  all_same (e ∷ es) h = ap₂ (λ xs ys. xs ++ ys) (one_same e h.0) (all_same es h.1)

  pub outcome_same : (o : Outcome) → AllOn p true o
      → outcome_effects w ck kind call page o ≡ outcome_effects w' ck' kind call page o
  outcome_same o h = ap (λ xs. xs ++ moves kind call o.stage) (all_same o.effects h)

-- ---- on the other side

mine_none : (p : Part) (e : Effect) → is_mine p e ≡ false → filter_map (mine p) (e ∷ []) ≡ []
mine_none p e out = ap (λ b. cons_option (cond b (Some e) None) []) out

-- a permission of two parties, of which the part has not both
pair_out : (p : Part) (o u : Origin) (triples : List Triple) → (has p o.host && has p u.host) ≡ false
    → filter_map (mine p) (map (λ triple. Kept triple false) (kept.triples_of_pair triples o u)) ≡ []
pair_out p o u [] out = refl
pair_out p o u (t ∷ ts) out = go (kept.is_of_pair o u t) refl (pair_out p o u ts out)
  where
    rest : List Triple
    rest = kept.triples_of_pair ts o u

    parts : (a b : Bool) → same_origin o t.page ≡ a → same_origin u t.provider ≡ b → (a && b) ≡ true
        → has_triple p t ≡ (has p o.host && has p u.host)
    parts true true is is' both =
        ap₂ (λ x y. has p x.host && has p y.host) (sym (same_origin_is o t.page is)) (sym (same_origin_is u t.provider is'))
    parts true false is is' both = absurd (cc)
    parts false b is is' both = absurd (let no : false ≡ true = both in cc)

    go : (b : Bool) → kept.is_of_pair o u t ≡ b
        → filter_map (mine p) (map (λ triple. Kept triple false) rest) ≡ []
        → filter_map (mine p) (map (λ triple. Kept triple false) (cond b (t ∷ rest) rest)) ≡ []
    go false is more = more
    go true is more =
        ap (λ b. cons_option (cond b (Some (Kept t false)) None) (filter_map (mine p) (map (λ triple. Kept triple false) rest)))
        (parts (same_origin o t.page) (same_origin u t.provider) refl refl is ∙ out)
        ∙ more

module _ (p : Part) (w : World) (ck : Ask → List ℕ) (kind : CallKind) (call page : ℕ) (other : p.calls call ≡ false) where
  one_none : (e : CallEffect) → OnSide p false e → filter_map (mine p) (call_effects w ck kind call page e) ≡ []
  one_none (acts.Send place ask) h = refl
  one_none (acts.Dropped place failure) h = refl
  one_none (acts.Dialog dialog) h = refl
  one_none (acts.Window place url) h = refl
  one_none (acts.SetLogin origin status) h = mine_none p (does.Login origin status) h
  one_none (acts.Keep triple) h = mine_none p (Kept triple true) h
  one_none (acts.Forget triple) h = mine_none p (Kept triple false) h
  one_none (acts.ForgetPair o u) h = pair_out p o u w.kept (both_on false (has p o.host) (has p u.host) h.0 h.1)
  one_none (acts.ClearFlag origin) h = mine_none p (does.Flag origin false) h
  one_none (acts.Finish finish) h = refl
  one_none (acts.Ignored why) h = refl

  all_none : (es : List CallEffect) → AllByRecursion (OnSide p false) es
      → filter_map (mine p) (flat_map (call_effects w ck kind call page) es) ≡ []
  all_none [] h = refl
  all_none (e ∷ es) h =
      filter_map-append (mine p) (call_effects w ck kind call page e) (flat_map (call_effects w ck kind call page) es)
      ∙ ap₂ (λ xs ys. xs ++ ys) (one_none e h.0) (all_none es h.1)

  moved_none : (stage : Option Stage) → filter_map (mine p) (moves kind call stage) ≡ []
  moved_none None = refl
  moved_none (Some stage) = mine_none p (does.Move kind call stage) other

  pub outcome_none : (o : Outcome) → AllOn p false o → filter_map (mine p) (outcome_effects w ck kind call page o) ≡ []
  outcome_none o h =
      filter_map-append (mine p) (flat_map (call_effects w ck kind call page) o.effects) (moves kind call o.stage)
      ∙ ap₂ (λ xs ys. xs ++ ys) (all_none o.effects h) (moved_none o.stage)

-- ---- on any side no page comes to stand and no call begins

module _ (p : Part) (loaded : ℕ → Bool) (w : World) (ck : Ask → List ℕ) (kind : CallKind) (call page : ℕ) where
  goes_fit : (triples : List Triple) → AllByRecursion (Fits p loaded) (map (λ triple. Kept triple false) triples)
  goes_fit [] = tt
  goes_fit (t ∷ ts) = (tt, goes_fit ts)

  one_fits : (e : CallEffect) → AllByRecursion (Fits p loaded) (call_effects w ck kind call page e)
  one_fits (acts.Send place ask) = (tt, tt)
  one_fits (acts.Dropped place failure) = (tt, tt)
  one_fits (acts.Dialog dialog) = (tt, tt)
  one_fits (acts.Window place url) = (tt, tt)
  one_fits (acts.SetLogin origin status) = (tt, tt)
  one_fits (acts.Keep triple) = (tt, tt)
  one_fits (acts.Forget triple) = (tt, tt)
  one_fits (acts.ForgetPair o u) = goes_fit (kept.triples_of_pair w.kept o u)
  one_fits (acts.ClearFlag origin) = (tt, tt)
  one_fits (acts.Finish finish) = (tt, tt)
  one_fits (acts.Ignored why) = (tt, tt)

  all_fit : (es : List CallEffect) → AllByRecursion (Fits p loaded) (flat_map (call_effects w ck kind call page) es)
  all_fit [] = tt
  all_fit (e ∷ es) =
      all_append (Fits p loaded) (call_effects w ck kind call page e) (flat_map (call_effects w ck kind call page) es) (one_fits e)
      (all_fit es)

  moved_fit : (stage : Option Stage) → AllByRecursion (Fits p loaded) (moves kind call stage)
  moved_fit None = tt
  moved_fit (Some stage) = (tt, tt)

  pub outcome_fits : (o : Outcome) → AllByRecursion (Fits p loaded) (outcome_effects w ck kind call page o)
  outcome_fits o =
      all_append (Fits p loaded) (flat_map (call_effects w ck kind call page) o.effects) (moves kind call o.stage) (all_fit o.effects)
      (moved_fit o.stage)
