-- What is read of effects and of what stands, where a part has the same of two lists of rows.
use Rattle.std.proofs.Common.{◌≡◌, ℕ, Bool, true, false, cond, nat_eq, List, [], Option, Some, None, filter, refl, sym, ap, ◌∙◌}
use Rattle.std.proofs.Common.{arith}
use Rattle.std.proofs.lemmas.Bool.Decides.{nat_tests}
use Rattle.std.specs.Prelude.{option_and_then, option_map, unwrap_or, if◌then◌else◌}
use Rattle.std.specs.List.{filter_map}
use Rattle.fed_origin.specs.declared.stage.Stage.{Stage}
use Rattle.fed_origin.specs.declared.stage.Stage.TheVariants as stages
use Rattle.fed_origin.specs.Origin.{same_origin}
use Rattle.fed_origin.specs.Status.{same_triple}
use Rattle.fed_jar.specs.Changes.{CookieChange, domain_of}
use Rattle.fed_status.proofs.lists.Same.{same_origin_is, same_triple_is}
use Rattle.fed_trace.specs.Begun.{CallKind, GetCall, DisconnectCall, kind_asked, of_get}
use Rattle.fed_trace.specs.Effect.{Effect, page_change, login_change, kept_change, flag_change, call_change, get_change, stage_change}
use Rattle.fed_trace.specs.Effect.{window_change, time_of, cookie_change, begun_by, begins, key_change, unless_ended}
use Rattle.fed_trace.specs.Effect as does
use Rattle.fed_trace.specs.Keyed.{Change, entries_after, says}
use Rattle.fed_trace.specs.Trace.{Row, standing, last_value, all_said, last_in}
use Rattle.fed_slice.specs.Part.{Part, has, has_origin, has_triple}
use Rattle.fed_slice_laws.specs.Mine.{is_mine, mine, view}
use Rattle.fed_twin.proofs.seen.Seen.{last_at, last_in-seen, last_value-seen, standing-seen, all_said-seen}
use Rattle.fed_slice_laws.proofs.lists.Keep.{kept_if, filter_all_said, only, keep_key, Respects, standing_among}

-- ---- a reading that says nothing of what the part has not

abbrev pub IsOwn : {A : Type 0} → Part → (Effect → Option A) → Type 0
IsOwn p said = (e : Effect) → is_mine p e ≡ false → said e ≡ None

pub reads : {A : Type 0} (p : Part) (said : Effect → Option A) → IsOwn p said → (e : Effect) → said e ≡ option_and_then said (mine p e)
reads p said own e = go (is_mine p e) refl
  where
    go : (b : Bool) → is_mine p e ≡ b → said e ≡ option_and_then said (cond b (Some e) None)
    go true is = refl
    go false is = own e is

map_same : {A : Type 0} (o : Option A) → option_map (λ x. x) o ≡ o
map_same None = refl
map_same (Some x) = refl

map_twice : {A : Type 0} (o : Option (Option A)) → option_map (option_map (λ x. x)) o ≡ o
map_twice None = refl
map_twice (Some None) = refl
map_twice (Some (Some x)) = refl

module _ (p : Part) (xs ys : List Row) (same : view p xs ≡ view p ys) where
  pub last_same : {A : Type 0} (said : Effect → Option A) → IsOwn p said → last_in said xs ≡ last_in said ys
  last_same said own =
      last_in-seen (mine p) said said (reads p said own) xs ∙ ap (last_at said) same
      ∙ sym (last_in-seen (mine p) said said (reads p said own) ys)

  pub value_same : {K V : Type 0} (eq : K → K → Bool) (change : Effect → Option (Change K V)) (k : K)
      → IsOwn p (λ e. says eq k (change e)) → last_value eq change k xs ≡ last_value eq change k ys
  value_same eq change k own =
      by xs ∙ ap (λ v. unwrap_or (last_at (λ e. says eq k (change e)) v) None) same ∙ sym (by ys)
    where
      by : (rows : List Row) → last_value eq change k rows ≡ unwrap_or (last_at (λ e. says eq k (change e)) (view p rows)) None
      by rows =
          sym (map_same (last_value eq change k rows))
          ∙ last_value-seen (mine p) eq change k (λ x. x) (λ e. says eq k (change e))
          (λ e. map_twice (says eq k (change e)) ∙ reads p (λ x. says eq k (change x)) own e) rows

  pub standing_same : {K V : Type 0} (eq : K → K → Bool) (keep : K → Bool) (change : Effect → Option (Change K V))
      → Respects eq keep → IsOwn p (λ e. only keep (change e))
      → filter (keep_key keep) (standing eq change xs) ≡ filter (keep_key keep) (standing eq change ys)
  standing_same eq keep change r own =
      by xs ∙ ap (λ v. entries_after eq (λ e. only keep (change e)) v []) same ∙ sym (by ys)
    where
      by : (rows : List Row)
          → filter (keep_key keep) (standing eq change rows) ≡ entries_after eq (λ e. only keep (change e)) (view p rows) []
      by rows =
          standing_among eq keep r change rows
          ∙ standing-seen (mine p) eq (λ e. only keep (change e)) (λ e. only keep (change e)) (reads p (λ e. only keep (change e)) own) rows

  pub said_same : {A : Type 0} (q : A → Bool) (said : Effect → Option A) → IsOwn p (λ e. kept_if q (said e))
      → filter q (all_said said xs) ≡ filter q (all_said said ys)
  said_same q said own =
      by xs ∙ ap (filter_map (λ e. kept_if q (said e))) same ∙ sym (by ys)
    where
      by : (rows : List Row) → filter q (all_said said rows) ≡ filter_map (λ e. kept_if q (said e)) (view p rows)
      by rows =
          filter_all_said q said rows
          ∙ all_said-seen (mine p) (λ e. kept_if q (said e)) (λ e. kept_if q (said e)) (reads p (λ e. kept_if q (said e)) own) rows

-- ---- each reading

off : {A : Type 0} (b : Bool) (x : A) → b ≡ false → (if b then Some x else None) ≡ None
off true x h = absurd (cc)
off false x h = refl

pub own_time : (p : Part) → IsOwn p time_of
own_time p (does.Time time) out = absurd (let no : true ≡ false = out in cc)
own_time p _ out = refl

-- numbers that are equal are on one side
other_number : {A : Type 0} (side : ℕ → Bool) (q n : ℕ) (x : Option A) → side q ≡ true → side n ≡ false
    → cond (nat_eq q n) (Some x) None ≡ None
other_number side q n x inside out = go (nat_eq q n) refl
  where
    go : (b : Bool) → nat_eq q n ≡ b → cond b (Some x) None ≡ None
    go false is = refl
    go true is =
        let one : q ≡ n = grind (arith, nat_tests, is) in
        absurd (let no : true ≡ false = sym inside ∙ ap side one ∙ out in cc)

pub own_page : (p : Part) (q : ℕ) → p.pages q ≡ true → IsOwn p (λ e. says nat_eq q (page_change e))
own_page p q inside (does.Page page origin) out = other_number p.pages q page (Some origin) inside out
own_page p q inside (does.Closed page) out = other_number p.pages q page None inside out
own_page p q inside _ out = refl

pub own_stage : (p : Part) (q : ℕ) → p.calls q ≡ true → IsOwn p (λ e. says nat_eq q (stage_change e))
own_stage p q inside (does.Move kind call stage) out = other_number p.calls q call (Some stage) inside out
own_stage p q inside _ out = refl

other_begins : {A : Type 0} (side : ℕ → Bool) (q n : ℕ) (x : A) → side q ≡ true → side n ≡ false
    → (if nat_eq q n then Some x else None) ≡ None
other_begins side q n x inside out = go (nat_eq q n) refl
  where
    go : (b : Bool) → nat_eq q n ≡ b → cond b (Some x) None ≡ None
    go false is = refl
    go true is =
        let one : q ≡ n = grind (arith, nat_tests, is) in
        absurd (let no : true ≡ false = sym inside ∙ ap side one ∙ out in cc)

pub own_begins : (p : Part) (q : ℕ) → p.calls q ≡ true → IsOwn p (begins q)
own_begins p q inside (does.Begin b) out = other_begins p.calls q b.call b inside out
own_begins p q inside _ out = refl

pub own_begun : (p : Part) → IsOwn p (λ e. kept_if p.calls (begun_by e))
own_begun p (does.Begin b) out = off (p.calls b.call) b.call out
own_begun p _ out = refl

-- a cookie of a party of the part stands or goes
abbrev pub their_cookie : Part → CookieChange → Bool
their_cookie p change = has p (domain_of change)

pub own_cookie : (p : Part) → IsOwn p (λ e. kept_if (their_cookie p) (cookie_change e))
own_cookie p (does.Cookie change) out = off (has p (domain_of change)) change out
own_cookie p _ out = refl

pub own_login : (p : Part) → IsOwn p (λ e. only (has_origin p) (login_change e))
own_login p (does.Login origin status) out = off (has p origin.host) (origin, Some status) out
own_login p _ out = refl

only_key : {K : Type 0} (keep : K → Bool) (k : K) (stays : Bool) → keep k ≡ false → only keep (Some (key_change k stays)) ≡ None
only_key keep k true out = off (keep k) (k, Some tt) out
only_key keep k false out = off (keep k) (k, None) out

pub own_kept : (p : Part) → IsOwn p (λ e. only (has_triple p) (kept_change e))
own_kept p (does.Kept triple stays) out = only_key (has_triple p) triple stays out
own_kept p _ out = refl

pub own_flag : (p : Part) → IsOwn p (λ e. only (has_origin p) (flag_change e))
own_flag p (does.Flag origin stays) out = only_key (has_origin p) origin stays out
own_flag p _ out = refl

ended_out : {V : Type 0} (keep : ℕ → Bool) (call : ℕ) (stage : Stage) → keep call ≡ false
    → only {V = V} keep (unless_ended call stage) ≡ None
ended_out keep call stages.Ended out = off (keep call) (call, None) out
ended_out keep call _ out = refl

pub own_call : (p : Part) → IsOwn p (λ e. only p.calls (call_change e))
own_call p (does.Begin b) out = off (p.calls b.call) (b.call, Some (does.pending_from b)) out
own_call p (does.Move kind call stage) out = ended_out p.calls call stage out
own_call p _ out = refl

get_out : {V : Type 0} (keep : ℕ → Bool) (kind : CallKind) (c : Option (Change ℕ V)) → only keep c ≡ None → only keep (of_get kind c) ≡ None
get_out keep GetCall c out = out
get_out keep DisconnectCall c out = refl

pub own_get : (p : Part) → IsOwn p (λ e. only p.calls (get_change e))
own_get p (does.Begin b) out =
    get_out p.calls (kind_asked b.options) (Some (b.call, Some b.page)) (off (p.calls b.call) (b.call, Some b.page) out)
own_get p (does.Move kind call stage) out = get_out p.calls kind (unless_ended call stage) (ended_out p.calls call stage out)
own_get p _ out = refl

pub own_window : (p : Part) → IsOwn p (λ e. only p.calls (window_change e))
own_window p (does.Move kind call stage) out = only_key p.calls call (does.is_window stage) out
own_window p _ out = refl

-- ---- keys that are equal are on one side

pub respects_origin : (p : Part) → Respects same_origin (has_origin p)
respects_origin p a b is = ap (λ o. has p o.host) (same_origin_is a b is)

pub respects_triple : (p : Part) → Respects same_triple (has_triple p)
respects_triple p a b is = ap (has_triple p) (same_triple_is a b is)

pub respects_number : (side : ℕ → Bool) → Respects nat_eq side
respects_number side a b is = let one : a ≡ b = grind (arith, nat_tests, is) in ap side one
