-- What an outcome of a call, and events without a call, do to permissions and flags.
use Rattle.std.proofs.Common.{◌≡◌, ℕ, Bool, true, false, ◌||◌, List, [], ◌∷◌, ◌++◌, Some, None, map, refl, sym, ap}
use Rattle.std.proofs.Common.{◌∙◌, cond}
use Rattle.std.specs.Prelude.{Option, ⊤, if◌then◌else◌}
use Rattle.std.specs.List.{list_any, flat_map, AllByRecursion}
use Rattle.std.specs.Map.{keys_of}
use Rattle.indexmap.specs.IndexMap.{insert_entry, shift_remove_entry}
use Rattle.indexmap.specs.IndexSet.{remove_key}
use Rattle.fed_origin.specs.declared.origin.Origin.{Origin}
use Rattle.fed_origin.specs.declared.stage.Stage.{Stage}
use Rattle.fed_origin.specs.declared.status.Triple.{Triple}
use Rattle.fed_origin.specs.Origin.{is_trustworthy, same_origin}
use Rattle.fed_origin.specs.Status.{same_triple}
use Rattle.fed_jar.specs.Changes.{CookieChange}
use Rattle.fed_status.specs.Kept.{triples_of_pair, without_each}
use Rattle.fed_status.specs.Shared.{World}
use Rattle.fed_status.proofs.removals.PairGoes.{without_pair-each}
use Rattle.fed_consent.specs.declared.table.ask.Ask.{Ask}
use Rattle.fed_consent.specs.declared.table.effect.Effect.{Effect as CallEffect}
use Rattle.fed_consent.specs.declared.table.effect.Effect.TheVariants as does
use Rattle.fed_consent.specs.Outcomes.{Outcome}
use Rattle.fed_script.specs.declared.event.Have.{Have}
use Rattle.fed_script.specs.declared.event.Have.TheVariants as haves
use Rattle.fed_trace.specs.Begun.{CallKind}
use Rattle.fed_trace.specs.Effect.{Cookie, Kept, Flag, kept_change, flag_change}
use Rattle.fed_trace.specs.Keyed.{entries_after}
use Rattle.fed_trace.specs.Row.{call_effects, moves, outcome_effects, cookie_effects, have_states, page_says, standing_says}
use Rattle.fed_trace.proofs.keyed.Keyed.{entries_after-append}
use Rattle.fed_trace.proofs.effects.Silent.{entries_silent, goes_changes_none, silent_map}
use Rattle.fed_session.specs.StepParts.{kept_after, flags_after, have_kept, have_flags, flags_set, standing_flags}
use Rattle.fed_session.proofs.clauses.Sets.{Next, SetsAll}

-- ---- keys

-- the keys with this one: one that is there keeps its place, and a new one goes last
abbrev with_key : {K : Type 0} → (K → K → Bool) → List K → K → List K
with_key same keys k = if list_any (same k) keys then keys else keys ++ k ∷ []

pub keys_insert : {K : Type 0} (same : K → K → Bool) (k : K) (es : List (K × ⊤))
    → keys_of (insert_entry same es k tt) ≡ with_key same (keys_of es) k
keys_insert same k [] = refl
keys_insert same k (e ∷ es) = go (same k e.0) (keys_insert same k es)
  where
    under : (b : Bool) → e.0 ∷ cond b (keys_of es) (keys_of es ++ k ∷ [])
        ≡ cond b (e.0 ∷ keys_of es) (e.0 ∷ (keys_of es ++ k ∷ []))
    under true = refl
    under false = refl

    go : (b : Bool) → keys_of (insert_entry same es k tt) ≡ with_key same (keys_of es) k
        → keys_of (cond b ((e.0, tt) ∷ es) (e ∷ insert_entry same es k tt))
        ≡ cond (b || list_any (same k) (keys_of es)) (e.0 ∷ keys_of es) (e.0 ∷ (keys_of es ++ k ∷ []))
    go true rest = refl
    go false rest = ap (λ ks. e.0 ∷ ks) rest ∙ under (list_any (same k) (keys_of es))

keys_remove : {K : Type 0} (p : K → Bool) (es : List (K × ⊤)) → keys_of (shift_remove_entry p es) ≡ remove_key p (keys_of es)
keys_remove p [] = refl
keys_remove p (e ∷ es) = go (p e.0) (keys_remove p es)
  where
    go : (b : Bool) → keys_of (shift_remove_entry p es) ≡ remove_key p (keys_of es)
        → keys_of (cond b es (e ∷ shift_remove_entry p es)) ≡ cond b (keys_of es) (e.0 ∷ remove_key p (keys_of es))
    go true rest = refl
    go false rest = ap (λ ks. e.0 ∷ ks) rest

-- permissions that go one after the other
goes_each : (ts : List Triple) (es : List (Triple × ⊤))
    → keys_of (entries_after same_triple kept_change (map (λ triple. Kept triple false) ts) es) ≡ without_each (keys_of es) ts
goes_each [] es = refl
goes_each (t ∷ ts) es =
    goes_each ts (shift_remove_entry (same_triple t) es) ∙ ap (λ ks. without_each ks ts) (keys_remove (same_triple t) es)

-- ---- permissions

-- what a call does after the first thing, where no pair goes
does_keep : (world : World) (cookies : Ask → List ℕ) (kind : CallKind) (call page : ℕ) (effects : List CallEffect) (es : List (Triple
    × ⊤))
    → AllByRecursion Next effects
    → keys_of (entries_after same_triple kept_change (flat_map (call_effects world cookies kind call page) effects) es)
    ≡ kept_after effects (keys_of es)
does_keep world cookies kind call page effects es next = all effects es next
  where
    all : (effects : List CallEffect) (es : List (Triple × ⊤)) → AllByRecursion Next effects
        → keys_of (entries_after same_triple kept_change (flat_map (call_effects world cookies kind call page) effects) es)
        ≡ kept_after effects (keys_of es)
    all [] es next = refl
    all (does.Send provider ask ∷ effects) es next = all effects es next.1
    all (does.Dropped place failure ∷ effects) es next = all effects es next.1
    all (does.Finish finish ∷ effects) es next = all effects es next.1
    all (does.Ignored why ∷ effects) es next = all effects es next.1
    all (does.Dialog dialog ∷ effects) es next = all effects es next.1
    all (does.Window place url ∷ effects) es next = all effects es next.1
    all (does.SetLogin origin status ∷ effects) es next = all effects es next.1
    all (does.Keep triple ∷ effects) es next =
        all effects (insert_entry same_triple es triple tt) next.1 ∙ ap (kept_after effects) (keys_insert same_triple triple es)
    all (does.Forget triple ∷ effects) es next =
        all effects (shift_remove_entry (same_triple triple) es) next.1 ∙ ap (kept_after effects) (keys_remove (same_triple triple) es)
    all (does.ForgetPair p q ∷ effects) es next = absurd next.0
    all (does.ClearFlag origin ∷ effects) es next = all effects es next.1

-- all of it, where the permissions of a pair go first, as the world has them
does_keep_first : (world : World) (cookies : Ask
    → List ℕ) (kind : CallKind) (call page : ℕ) (effects : List CallEffect) (es : List (Triple × ⊤)) → SetsAll effects
    → world.kept ≡ keys_of es
    → keys_of (entries_after same_triple kept_change (flat_map (call_effects world cookies kind call page) effects) es)
    ≡ kept_after effects (keys_of es)
does_keep_first world cookies kind call page [] es sets is = refl
does_keep_first world cookies kind call page (does.ForgetPair p q ∷ effects) es sets is =
    let gone = map (λ triple. Kept triple false) (triples_of_pair world.kept p q) in
    ap keys_of (entries_after-append same_triple kept_change gone (flat_map (call_effects world cookies kind call page) effects) es)
    ∙ does_keep world cookies kind call page effects (entries_after same_triple kept_change gone es) sets.1
    ∙ ap (kept_after effects) (goes_each (triples_of_pair world.kept p q) es
    ∙ ap (λ ks. without_each (keys_of es) (triples_of_pair ks p q)) is ∙ sym (without_pair-each (keys_of es) p q))
does_keep_first world cookies kind call page (does.Send provider ask ∷ effects) es sets is =
    does_keep world cookies kind call page effects es sets.1
does_keep_first world cookies kind call page (does.Dropped place failure ∷ effects) es sets is =
    does_keep world cookies kind call page effects es sets.1
does_keep_first world cookies kind call page (does.Finish finish ∷ effects) es sets is =
    does_keep world cookies kind call page effects es sets.1
does_keep_first world cookies kind call page (does.Ignored why ∷ effects) es sets is =
    does_keep world cookies kind call page effects es sets.1
does_keep_first world cookies kind call page (does.Dialog dialog ∷ effects) es sets is =
    does_keep world cookies kind call page effects es sets.1
does_keep_first world cookies kind call page (does.Window place url ∷ effects) es sets is =
    does_keep world cookies kind call page effects es sets.1
does_keep_first world cookies kind call page (does.SetLogin origin status ∷ effects) es sets is =
    does_keep world cookies kind call page effects es sets.1
does_keep_first world cookies kind call page (does.Keep triple ∷ effects) es sets is =
    does_keep world cookies kind call page effects (insert_entry same_triple es triple tt) sets.1
    ∙ ap (kept_after effects) (keys_insert same_triple triple es)
does_keep_first world cookies kind call page (does.Forget triple ∷ effects) es sets is =
    does_keep world cookies kind call page effects (shift_remove_entry (same_triple triple) es) sets.1
    ∙ ap (kept_after effects) (keys_remove (same_triple triple) es)
does_keep_first world cookies kind call page (does.ClearFlag origin ∷ effects) es sets is =
    does_keep world cookies kind call page effects es sets.1

pub outcome_keeps : (world : World) (cookies : Ask
    → List ℕ) (kind : CallKind) (call page : ℕ) (outcome : Outcome) (es : List (Triple × ⊤))
    → SetsAll outcome.effects → world.kept ≡ keys_of es
    → keys_of (entries_after same_triple kept_change (outcome_effects world cookies kind call page outcome) es)
    ≡ kept_after outcome.effects (keys_of es)
outcome_keeps world cookies kind call page outcome es sets is =
    let does = flat_map (call_effects world cookies kind call page) outcome.effects in
    ap keys_of (entries_after-append same_triple kept_change does (moves kind call outcome.stage) es
    ∙ still outcome.stage (entries_after same_triple kept_change does es))
    ∙ does_keep_first world cookies kind call page outcome.effects es sets is
  where
    still : (stage : Option Stage) (es : List (Triple × ⊤)) → entries_after same_triple kept_change (moves kind call stage) es ≡ es
    still None es = refl
    still (Some stage) es = refl

-- ---- flags

does_flag : (world : World) (cookies : Ask → List ℕ) (kind : CallKind) (call page : ℕ) (effects : List CallEffect) (es : List (Origin
    × ⊤))
    → keys_of (entries_after same_origin flag_change (flat_map (call_effects world cookies kind call page) effects) es)
    ≡ flags_after effects (keys_of es)
does_flag world cookies kind call page effects es = all effects es
  where
    all : (effects : List CallEffect) (es : List (Origin × ⊤))
        → keys_of (entries_after same_origin flag_change (flat_map (call_effects world cookies kind call page) effects) es)
        ≡ flags_after effects (keys_of es)
    all [] es = refl
    all (does.Send provider ask ∷ effects) es = all effects es
    all (does.Dropped place failure ∷ effects) es = all effects es
    all (does.Finish finish ∷ effects) es = all effects es
    all (does.Ignored why ∷ effects) es = all effects es
    all (does.Dialog dialog ∷ effects) es = all effects es
    all (does.Window place url ∷ effects) es = all effects es
    all (does.SetLogin origin status ∷ effects) es = all effects es
    all (does.Keep triple ∷ effects) es = all effects es
    all (does.Forget triple ∷ effects) es = all effects es
    all (does.ForgetPair p q ∷ effects) es =
        ap keys_of (goes_changes_none same_origin flag_change (λ t. refl) (triples_of_pair world.kept p q)
        (flat_map (call_effects world cookies kind call page) effects) es)
        ∙ all effects es
    all (does.ClearFlag origin ∷ effects) es =
        all effects (shift_remove_entry (same_origin origin) es) ∙ ap (flags_after effects) (keys_remove (same_origin origin) es)

pub outcome_flags : (world : World) (cookies : Ask
    → List ℕ) (kind : CallKind) (call page : ℕ) (outcome : Outcome) (es : List (Origin × ⊤))
    → keys_of (entries_after same_origin flag_change (outcome_effects world cookies kind call page outcome) es)
    ≡ flags_after outcome.effects (keys_of es)
outcome_flags world cookies kind call page outcome es =
    let does = flat_map (call_effects world cookies kind call page) outcome.effects in
    ap keys_of (entries_after-append same_origin flag_change does (moves kind call outcome.stage) es
    ∙ still outcome.stage (entries_after same_origin flag_change does es))
    ∙ does_flag world cookies kind call page outcome.effects es
  where
    still : (stage : Option Stage) (es : List (Origin × ⊤)) → entries_after same_origin flag_change (moves kind call stage) es ≡ es
    still None es = refl
    still (Some stage) es = refl

-- ---- events without a call

-- what a line of the kind `have` says of permissions
pub have_keeps : (cookies : List CookieChange) (have : Have) (es : List (Triple × ⊤))
    → keys_of (entries_after same_triple kept_change (cookie_effects cookies ++ have_states have) es) ≡ have_kept have (keys_of es)
have_keeps cookies have es =
    ap keys_of (entries_after-append same_triple kept_change (cookie_effects cookies) (have_states have) es
    ∙ ap (entries_after same_triple kept_change (have_states have))
    (entries_silent same_triple kept_change (cookie_effects cookies) es (silent_map kept_change Cookie (λ c. refl) cookies)))
    ∙ go have
  where
    go : (have : Have) → keys_of (entries_after same_triple kept_change (have_states have) es) ≡ have_kept have (keys_of es)
    go (haves.Login origin status) = refl
    go (haves.Kept triple) = keys_insert same_triple triple es
    go (haves.Silent origin) = refl
    go (haves.Cookie url field) = refl

-- and of flags
pub have_marks : (cookies : List CookieChange) (have : Have) (es : List (Origin × ⊤))
    → keys_of (entries_after same_origin flag_change (cookie_effects cookies ++ have_states have) es) ≡ have_flags have (keys_of es)
have_marks cookies have es =
    ap keys_of (entries_after-append same_origin flag_change (cookie_effects cookies) (have_states have) es
    ∙ ap (entries_after same_origin flag_change (have_states have))
    (entries_silent same_origin flag_change (cookie_effects cookies) es (silent_map flag_change Cookie (λ c. refl) cookies)))
    ∙ go have
  where
    go : (have : Have) → keys_of (entries_after same_origin flag_change (have_states have) es) ≡ have_flags have (keys_of es)
    go (haves.Login origin status) = refl
    go (haves.Kept triple) = refl
    go (haves.Silent origin) = keys_insert same_origin origin es
    go (haves.Cookie url field) = refl

-- a page that sets the flag of its origin
pub page_marks : (found : Option Origin) (es : List (Origin × ⊤))
    → keys_of (entries_after same_origin flag_change (page_says found (λ origin. Flag origin true)) es) ≡ flags_set found (keys_of es)
page_marks None es = refl
page_marks (Some origin) es = go (is_trustworthy origin)
  where
    go : (trusted : Bool) → keys_of (entries_after same_origin flag_change (standing_says trusted (Flag origin true)) es)
        ≡ standing_flags trusted origin (keys_of es)
    go true = keys_insert same_origin origin es
    go false = refl
