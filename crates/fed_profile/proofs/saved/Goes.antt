-- A saved session goes on as the session itself.
use Rattle.std.proofs.Common.{◌≡◌, ℕ, Bool, true, false, nat_eq, cond, inr, List, [], ◌∷◌, ◌++◌, map, Option, Some, None, refl}
use Rattle.std.proofs.Common.{sym, ap, ap₂, subst, ◌∙◌}
use Rattle.std.proofs.Common.{arith}
use Rattle.std.proofs.lemmas.Bool.Decides.{nat_tests}
use Rattle.std.proofs.lemmas.List.Elements.{filter_map-append}
use Rattle.std.proofs.lemmas.List.{append-nil}
use Rattle.std.specs.Prelude.{unwrap_or}
use Rattle.std.specs.Option.{option_or}
use Rattle.std.specs.Map.{lookup}
use Rattle.std.specs.List.{filter_map, list_any, AllByRecursion, IsDistinct}
use Rattle.fed_origin.specs.declared.origin.Origin.{Origin}
use Rattle.fed_origin.specs.declared.status.LoginStatus.{LoginStatus}
use Rattle.fed_origin.specs.declared.status.Triple.{Triple}
use Rattle.fed_origin.specs.Origin.{same_origin}
use Rattle.fed_origin.specs.Status.{same_triple}
use Rattle.fed_jar.specs.Changes.{CookieChange, Stored, standing as jar_standing}
use Rattle.fed_jar.specs.Cookie.{StoredCookie, AreDistinct}
use Rattle.fed_jar.specs.Send.{is_fresh}
use Rattle.fed_status.proofs.lists.Same.{same_origin_is, same_origin_self, same_triple_is, same_triple_self}
use Rattle.fed_script.specs.declared.event.Numbered.{Numbered}
use Rattle.fed_trace.specs.Effect.{Effect, Page, Cookie, Login, Kept, Flag, page_change, login_change, kept_change, flag_change}
use Rattle.fed_trace.specs.Effect.{call_change}
use Rattle.fed_trace.specs.Effect.{get_change, stage_change, window_change, time_of, cookie_change, begun_by}
use Rattle.fed_trace.specs.Keyed.{Change, entries_after}
use Rattle.fed_trace.specs.Known.{is_begun}
use Rattle.fed_trace.specs.OfCall.{call_at}
use Rattle.fed_trace.specs.Row.{IsRun, effects_of, with_event}
use Rattle.fed_trace.specs.Trace.{Row, Trace, logins, kept, flags, cookies, pages, pending, gets, now_at, standing, last_value, last_in}
use Rattle.fed_trace.specs.Trace.{all_said, begun, cookie_changes}
use Rattle.fed_trace.proofs.calls.Pending.{changes_are_said, any_append}
use Rattle.fed_trace.proofs.effects.Silent.{AllSilent, entries_silent, silent_append, silent_map, said_silent}
use Rattle.fed_trace.proofs.calls.Gets.{gets_among}
use Rattle.fed_trace.proofs.keyed.Keyed.{lookup-standing}
use Rattle.fed_trace.proofs.runs.Gets.{gets_are, unbegun_unknown}
use Rattle.fed_profile.proofs.seen.Seen.{last_at, last_in-seen, standing-seen, all_said-seen}
use Rattle.fed_profile.specs.Item.{Item, LoginItem, KeptItem, FlagItem, CookieItem, PageItem, item_again, cookie_again}
use Rattle.fed_profile.specs.Laws.{SavedGoesOn}
use Rattle.fed_profile.specs.Saved.{BringsBack, items_at, effect_of, all_done, does_after, GoOn, events_of}
use Rattle.fed_profile.proofs.saved.Jar.{SameJar, SameUntil, same_self}
use Rattle.fed_profile.proofs.saved.Same.{SameState, effects_same}
use Rattle.fed_profile.proofs.saved.Steps.{grow}
use Rattle.fed_profile.proofs.saved.Base.{distinct_standing, built, skip_front, skip_back, map_keys, distinct_changes, written_anew}
use Rattle.fed_profile.proofs.saved.Base.{distinct_same}
use Rattle.fed_profile.proofs.saved.Pending.{none_wait, unbegun_stage, unbegun_last}

-- ---- the effects of all items, kind by kind

-- the effects that bring back what stands, with these cookies
abbrev restored : Trace → List StoredCookie → List Effect
restored T cs =
    map (λ login. Login login.0 login.1) (logins T) ++ (map (λ triple. Kept triple true) (kept T)
    ++ (map (λ origin. Flag origin true) (flags T) ++ (map Cookie (map Stored cs) ++ map (λ page. Page page.0 page.1) (pages T))))

abbrev pub brought : Trace → List StoredCookie
brought T = map (cookie_again (now_at T)) (cookies T)

split_map : {X : Type 0} (f : Item → Effect) (g : X → Item) (xs : List X) (rest : List Item)
    → map f (map g xs ++ rest) ≡ map (λ x. f (g x)) xs ++ map f rest
split_map f g [] rest = refl
split_map f g (x ∷ xs) rest = ap (λ l. f (g x) ∷ l) (split_map f g xs rest)

map_twice : {X : Type 0} (f : Item → Effect) (g : X → Item) (xs : List X) → map f (map g xs) ≡ map (λ x. f (g x)) xs
map_twice f g [] = refl
map_twice f g (x ∷ xs) = ap (λ l. f (g x) ∷ l) (map_twice f g xs)

stored_again : (now : ℕ) (cs : List StoredCookie)
    → map (λ c. effect_of (item_again now (CookieItem c))) cs ≡ map Cookie (map Stored (map (cookie_again now) cs))
stored_again now [] = refl
stored_again now (c ∷ cs) = ap (λ l. Cookie (Stored (cookie_again now c)) ∷ l) (stored_again now cs)

kind_by_kind : (T : Trace) → map (λ item. effect_of (item_again (now_at T) item)) (items_at T) ≡ restored T (brought T)
kind_by_kind T =
    let does : Item → Effect = λ item. effect_of (item_again (now_at T) item) in
    let ps = map (λ page. PageItem page.0 page.1) (pages T) in
    let cs = map CookieItem (cookies T) ++ ps in
    let fs = map FlagItem (flags T) ++ cs in
    let ks = map KeptItem (kept T) ++ fs in
    split_map does (λ login. LoginItem login.0 login.1) (logins T) ks
    ∙ ap (λ l. map (λ login. Login login.0 login.1) (logins T) ++ l)
    (split_map does KeptItem (kept T) fs
    ∙ ap (λ l. map (λ triple. Kept triple true) (kept T) ++ l)
    (split_map does FlagItem (flags T) cs
    ∙ ap (λ l. map (λ origin. Flag origin true) (flags T) ++ l)
    (split_map does CookieItem (cookies T) ps
    ∙ ap₂ (λ l m. l ++ m) (stored_again (now_at T) (cookies T))
    (map_twice does (λ page. PageItem page.0 page.1) (pages T)))))

-- a cookie that is brought back is the same until then
again_same : (now : ℕ) (c : StoredCookie) → SameUntil now c (cookie_again now c)
again_same now c = go (is_fresh now c.expiry) refl
  where
    go : (t : Bool) → is_fresh now c.expiry ≡ t → SameUntil now c (cond t c (record c { expiry = Some 0 }))
    go true e = same_self now c
    go false e = record { rest = refl; expiry = inr (e, grind (arith, nat_tests)) }

pub all_again : (now : ℕ) (cs : List StoredCookie) → SameJar now cs (map (cookie_again now) cs)
all_again now [] = tt
all_again now (c ∷ cs) = (again_same now c, all_again now cs)

-- ---- readings of all that is done

done_standing : {K V : Type 0} (same : K → K → Bool) (change : Effect → Option (Change K V)) (rows : List Row)
    → standing same change rows ≡ entries_after same change (all_done rows) []
done_standing same change rows = standing-seen (λ e. Some e) same change change (λ e. refl) rows

done_said : {A : Type 0} (said : Effect → Option A) (rows : List Row) → all_said said rows ≡ filter_map said (all_done rows)
done_said said rows = all_said-seen (λ e. Some e) said said (λ e. refl) rows

done_last : {A : Type 0} (said : Effect → Option A) (rows : List Row) → last_in said rows ≡ last_at said (all_done rows)
done_last said rows = last_in-seen (λ e. Some e) said said (λ e. refl) rows

-- of silence nothing is said last
last_silent_at : {A : Type 0} (said : Effect → Option A) (es : List Effect) → AllSilent said es → last_at said es ≡ None
last_silent_at said [] h = refl
last_silent_at said (e ∷ es) h = ap (λ o. option_or o (said e)) (last_silent_at said es h.1) ∙ h.0

pub distinct_cookies : (changes : List CookieChange) → AreDistinct (jar_standing changes)
unfolding jar_standing IsDistinct
distinct_cookies changes = distinct_changes changes [] tt

pub stands_anew : (cs : List StoredCookie) → AreDistinct cs → jar_standing (map Stored cs) ≡ cs
unfolding jar_standing
stands_anew cs apart = written_anew cs apart

module _ (T U : Trace) (saved : BringsBack T U) where
  does : all_done U.rows ≡ restored T (brought T)
  does = saved.does ∙ kind_by_kind T

  abbrev A : List Effect
  A = map (λ login. Login login.0 login.1) (logins T)

  abbrev B : List Effect
  B = map (λ triple. Kept triple true) (kept T)

  abbrev C : List Effect
  C = map (λ origin. Flag origin true) (flags T)

  abbrev D : List Effect
  D = map Cookie (map Stored (brought T))

  abbrev E : List Effect
  E = map (λ page. Page page.0 page.1) (pages T)

  -- a reading that is silent on all of them
  all_silent : {X : Type 0} (said : Effect → Option X) → ((o : Origin) (s : LoginStatus) → said (Login o s) ≡ None)
      → ((t : Triple) → said (Kept t true) ≡ None) → ((o : Origin) → said (Flag o true) ≡ None)
      → ((c : CookieChange) → said (Cookie c) ≡ None) → ((page : ℕ) (o : Origin) → said (Page page o) ≡ None)
      → AllSilent said (restored T (brought T))
  all_silent said a b c d e =
      silent_append said A (B ++ (C ++ (D ++ E))) (silent_map said (λ login. Login login.0 login.1) (λ l. a l.0 l.1) (logins T))
      (silent_append said B (C ++ (D ++ E)) (silent_map said (λ triple. Kept triple true) b (kept T))
      (silent_append said C (D ++ E) (silent_map said (λ origin. Flag origin true) c (flags T))
      (silent_append said D E (silent_map said Cookie d (map Stored (brought T)))
      (silent_map said (λ page. Page page.0 page.1) (λ p. e p.0 p.1) (pages T)))))

  pub same_logins : logins U ≡ logins T
  same_logins =
      done_standing same_origin login_change U.rows ∙ ap (λ es. entries_after same_origin login_change es []) does
      ∙ skip_back same_origin login_change A (B ++ (C ++ (D ++ E)))
      (silent_append login_change B (C ++ (D ++ E)) (silent_map login_change (λ triple. Kept triple true) (λ t. refl) (kept T))
      (silent_append login_change C (D ++ E) (silent_map login_change (λ origin. Flag origin true) (λ o. refl) (flags T))
      (silent_append login_change D E (silent_map login_change Cookie (λ c. refl) (map Stored (brought T)))
      (silent_map login_change (λ page. Page page.0 page.1) (λ p. refl) (pages T)))))
      ∙ built same_origin same_origin_is same_origin_self login_change (λ login. Login login.0 login.1) (λ e. refl) (logins T)
      (distinct_standing same_origin same_origin_is same_origin_self login_change T.rows)

  pub same_kept : standing same_triple kept_change U.rows ≡ standing same_triple kept_change T.rows
  same_kept =
      done_standing same_triple kept_change U.rows ∙ ap (λ es. entries_after same_triple kept_change es []) does
      ∙ skip_front same_triple kept_change A (B ++ (C ++ (D ++ E)))
      (silent_map kept_change (λ login. Login login.0 login.1) (λ l. refl) (logins T))
      ∙ skip_back same_triple kept_change B (C ++ (D ++ E))
      (silent_append kept_change C (D ++ E) (silent_map kept_change (λ origin. Flag origin true) (λ o. refl) (flags T))
      (silent_append kept_change D E (silent_map kept_change Cookie (λ c. refl) (map Stored (brought T)))
      (silent_map kept_change (λ page. Page page.0 page.1) (λ p. refl) (pages T))))
      ∙ ap (λ es. entries_after same_triple kept_change es [])
      (map_keys (λ triple. Kept triple true) (standing same_triple kept_change T.rows))
      ∙ built same_triple same_triple_is same_triple_self kept_change (λ e. Kept e.0 true) (λ e. refl)
      (standing same_triple kept_change T.rows)
      (distinct_standing same_triple same_triple_is same_triple_self kept_change T.rows)

  pub same_flags : standing same_origin flag_change U.rows ≡ standing same_origin flag_change T.rows
  same_flags =
      done_standing same_origin flag_change U.rows ∙ ap (λ es. entries_after same_origin flag_change es []) does
      ∙ skip_front same_origin flag_change A (B ++ (C ++ (D ++ E)))
      (silent_map flag_change (λ login. Login login.0 login.1) (λ l. refl) (logins T))
      ∙ skip_front same_origin flag_change B (C ++ (D ++ E)) (silent_map flag_change (λ triple. Kept triple true) (λ t. refl) (kept T))
      ∙ skip_back same_origin flag_change C (D ++ E)
      (silent_append flag_change D E (silent_map flag_change Cookie (λ c. refl) (map Stored (brought T)))
      (silent_map flag_change (λ page. Page page.0 page.1) (λ p. refl) (pages T)))
      ∙ ap (λ es. entries_after same_origin flag_change es [])
      (map_keys (λ origin. Flag origin true) (standing same_origin flag_change T.rows))
      ∙ built same_origin same_origin_is same_origin_self flag_change (λ e. Flag e.0 true) (λ e. refl)
      (standing same_origin flag_change T.rows)
      (distinct_standing same_origin same_origin_is same_origin_self flag_change T.rows)

  number_is : (a b : ℕ) → nat_eq a b ≡ true → a ≡ b
  number_is a b h = grind (arith, nat_tests, h)

  number_self : (a : ℕ) → nat_eq a a ≡ true
  number_self a = grind (arith, nat_tests)

  pub same_pages : pages U ≡ pages T
  same_pages =
      done_standing nat_eq page_change U.rows ∙ ap (λ es. entries_after nat_eq page_change es []) does
      ∙ skip_front nat_eq page_change A (B ++ (C ++ (D ++ E)))
      (silent_map page_change (λ login. Login login.0 login.1) (λ l. refl) (logins T))
      ∙ skip_front nat_eq page_change B (C ++ (D ++ E)) (silent_map page_change (λ triple. Kept triple true) (λ t. refl) (kept T))
      ∙ skip_front nat_eq page_change C (D ++ E) (silent_map page_change (λ origin. Flag origin true) (λ o. refl) (flags T))
      ∙ skip_front nat_eq page_change D E (silent_map page_change Cookie (λ c. refl) (map Stored (brought T)))
      ∙ built nat_eq number_is number_self page_change (λ page. Page page.0 page.1) (λ e. refl) (pages T)
      (distinct_standing nat_eq number_is number_self page_change T.rows)

  -- nothing else stands
  nothing : {K V : Type 0} (same : K → K → Bool) (change : Effect → Option (Change K V)) → AllSilent change (restored T (brought T))
      → standing same change U.rows ≡ []
  nothing same change h =
      done_standing same change U.rows ∙ ap (λ es. entries_after same change es []) does
      ∙ entries_silent same change (restored T (brought T)) [] h

  none_said : {X : Type 0} (said : Effect → Option X) → AllSilent said (restored T (brought T)) → all_said said U.rows ≡ []
  none_said said h = done_said said U.rows ∙ ap (filter_map said) does ∙ said_silent said (restored T (brought T)) h

  none_last : {X : Type 0} (said : Effect → Option X) → AllSilent said (restored T (brought T)) → last_in said U.rows ≡ None
  none_last said h = done_last said U.rows ∙ ap (last_at said) does ∙ last_silent_at said (restored T (brought T)) h

  pub same_now : now_at U ≡ now_at T
  same_now =
      ap (λ o. unwrap_or o U.header.now)
      (none_last time_of (all_silent time_of (λ o s. refl) (λ t. refl) (λ o. refl) (λ c. refl) (λ p o. refl))) ∙ saved.now

  pub its_changes : cookie_changes U ≡ map Stored (brought T)
  its_changes =
      done_said cookie_change U.rows ∙ ap (filter_map cookie_change) does
      ∙ filter_map-append cookie_change A (B ++ (C ++ (D ++ E)))
      ∙ ap (λ xs. xs ++ filter_map cookie_change (B ++ (C ++ (D ++ E))))
      (said_silent cookie_change A (silent_map cookie_change (λ login. Login login.0 login.1) (λ l. refl) (logins T)))
      ∙ filter_map-append cookie_change B (C ++ (D ++ E))
      ∙ ap (λ xs. xs ++ filter_map cookie_change (C ++ (D ++ E)))
      (said_silent cookie_change B (silent_map cookie_change (λ triple. Kept triple true) (λ t. refl) (kept T)))
      ∙ filter_map-append cookie_change C (D ++ E)
      ∙ ap (λ xs. xs ++ filter_map cookie_change (D ++ E))
      (said_silent cookie_change C (silent_map cookie_change (λ origin. Flag origin true) (λ o. refl) (flags T)))
      ∙ filter_map-append cookie_change D E
      ∙ ap₂ (λ xs ys. xs ++ ys) (changes_are_said (map Stored (brought T)))
      (said_silent cookie_change E (silent_map cookie_change (λ page. Page page.0 page.1) (λ p. refl) (pages T)))
      ∙ append-nil (map Stored (brought T))

  same_jar : SameJar (now_at T) (cookies T) (cookies U)
  same_jar =
      let again = all_again (now_at T) (cookies T) in
      let apart = distinct_same (now_at T) (cookies T) (brought T) again (distinct_cookies (cookie_changes T)) in
      subst (SameJar (now_at T) (cookies T)) (sym (ap jar_standing its_changes ∙ stands_anew (brought T) apart)) again

  module _ (run : IsRun T.header T.rows) (none : pending T ≡ []) where
    last_none : (q : ℕ) → last_value nat_eq stage_change q U.rows ≡ None
    last_none q =
        sym (lookup-standing stage_change q U.rows)
        ∙ ap (lookup (nat_eq q))
        (nothing nat_eq stage_change (all_silent stage_change (λ o s. refl) (λ t. refl) (λ o. refl) (λ c. refl) (λ p o. refl)))

    -- how a call began that never did
    began_none : (rows : List Row) (q : ℕ) → list_any (nat_eq q) (begun rows) ≡ false → call_at rows q ≡ None
    began_none [] q new = refl
    began_none (row ∷ rows) q new =
        let parts = any_append q (begun rows) (filter_map begun_by row.effects) new in
        ap₂ option_or (unbegun_last q row.effects parts.1) (began_none rows q parts.0)

    begun_none : begun U.rows ≡ []
    begun_none = none_said begun_by (all_silent begun_by (λ o s. refl) (λ t. refl) (λ o. refl) (λ c. refl) (λ p o. refl))

    unbegun : (q : ℕ) → list_any (nat_eq q) (begun U.rows) ≡ false
    unbegun q = ap (list_any (nat_eq q)) begun_none

    pub base : SameState (is_begun T) T U
    base =
        record {
          rules = sym saved.rules;
          now = sym same_now;
          logins = sym same_logins;
          kept = sym same_kept;
          flags = sym same_flags;
          pages = sym same_pages;
          pending =
              none ∙ sym (nothing nat_eq call_change (all_silent call_change (λ o s. refl) (λ t. refl) (λ o. refl) (λ c. refl)
              (λ p o. refl)));
          gets = sym (gets_are T.header T.rows run) ∙ ap gets_among none
              ∙ sym (nothing nat_eq get_change (all_silent get_change (λ o s. refl) (λ t. refl) (λ o. refl) (λ c. refl) (λ p o. refl)));
          windows = none_wait T run none
              ∙ sym (nothing nat_eq window_change (all_silent window_change (λ o s. refl) (λ t. refl) (λ o. refl) (λ c. refl)
              (λ p o. refl)));
          waits = subst (λ ws. AllByRecursion (λ w. is_begun T w.0 ≡ false) ws) (sym (none_wait T run none)) tt;
          jar = same_jar;
          calls = λ q new.
              record {
                known = unbegun_unknown T.header T.rows q new ∙ sym (unbegun_unknown U.header U.rows q (unbegun q));
                stage = unbegun_stage T.header T.rows q run new ∙ sym (last_none q);
                began = began_none T.rows q new ∙ sym (began_none U.rows q (unbegun q));
                begun = new ∙ sym (unbegun q);
              };
        }

-- ---- further events

walk : (old : ℕ → Bool) (x y : List Numbered) (T U : Trace) → SameState old T U → events_of x ≡ events_of y → GoOn old T x
    → does_after T x ≡ does_after U y
walk old [] [] T U h same on = refl
walk old [] (m ∷ y) T U h same on = absurd (cc)
walk old (n ∷ x) [] T U h same on = absurd (cc)
walk old (n ∷ x) (m ∷ y) T U h same on =
    let head : n.event ≡ m.event = cc in
    let tail : events_of x ≡ events_of y = cc in
    subst (λ e. does_after T (n ∷ x) ≡ effects_of U e ∷ does_after (with_event U m.line e) y) head
    (ap₂ (λ es rest. es ∷ rest) (effects_same old T U h n.event on.0)
    (walk old x y (with_event T n.line n.event) (with_event U m.line n.event) (grow old T U h n.line m.line n.event on.0 on.1) tail on.2))

pub saved_goes_on_lem : SavedGoesOn
saved_goes_on_lem T U run none saved x y same on = walk (is_begun T) x y T U (base T U saved run none) same on
