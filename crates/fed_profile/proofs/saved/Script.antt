-- The lines that are saved are read as a script.
use Rattle.std.proofs.Common.{◌≡◌, ℕ, suc, ◌+◌, ◌<◌, ◌≤◌, Bool, true, false, cond, nat_lt, not, List, [], ◌∷◌, ◌++◌, map, length}
use Rattle.std.proofs.Common.{Option, Some, None, Result, Ok, Err, refl, sym, ap, ap₂, subst, ◌∙◌, append_assoc, arith}
use Rattle.std.proofs.lemmas.Bool.Decides.{nat_tests}
use Rattle.std.specs.Prelude.{⊤, option_map}
use Rattle.std.specs.List.{AllZip, AllByRecursion}
use Rattle.serde_json.specs.Data.{object}
use Rattle.url.specs.Parts.{Parts}
use Rattle.fed_origin.specs.WebUrl.{origin_of}
use Rattle.fed_suffix.specs.Rule.{RuleSet}
use Rattle.fed_jar.specs.Cookie.{StoredCookie}
use Rattle.fed_script.specs.declared.cause.LineCause.{LineCause}
use Rattle.fed_script.specs.declared.cause.LineCause.TheVariants.{CallTwice, HaveLate, TimeBack, TooManyEvents}
use Rattle.fed_script.specs.declared.event.Event.{Event}
use Rattle.fed_script.specs.declared.event.Event.TheVariants as events
use Rattle.fed_script.specs.declared.event.Have.{Have}
use Rattle.fed_script.specs.declared.event.Have.TheVariants as haves
use Rattle.fed_script.specs.declared.event.Header.{Header}
use Rattle.fed_script.specs.declared.event.Numbered.{Numbered}
use Rattle.fed_script.specs.Line.{header_of, event_named, event_of, allowed}
use Rattle.fed_script.specs.Member.{◌>>=◌, unless}
use Rattle.fed_script.specs.Script.{Script, Events, lines_of, events_of, after_line, script_of, script_of_lines, script_after, ended_by}
use Rattle.fed_script.specs.Used.{UsedState, unused, used_after, is_used, is_late, is_back, started_after}
use Rattle.fed_script.proofs.lines.Line.{lines_of-line}
use Rattle.fed_session.specs.declared.view.View.{View}
use Rattle.fed_trace.specs.Row.{cookie_from}
use Rattle.fed_profile.specs.Continues.{with_ends}
use Rattle.fed_profile.specs.Item.{Item, LoginItem, KeptItem, FlagItem, CookieItem, PageItem, item_of, item_had, item_again}
use Rattle.fed_profile.specs.Lines.{header_members, item_members, bare_line}
use Rattle.fed_suffix.specs.RulesText.{rules_text}
use Rattle.fed_profile.specs.Save.{items_of, saved_of}
use Rattle.fed_profile.specs.Saved as saved
use Rattle.fed_profile.specs.Scripts.{SavedIsScript}
use Rattle.fed_profile.proofs.read.Events.{after, names_it}
use Rattle.fed_profile.proofs.read.Items.{is_page_item, some_item}
use Rattle.fed_profile.proofs.read.Json.{has_lf, value_has_none}
use Rattle.fed_profile.proofs.saved.Continues.{events_all, whole_text}

-- ---- the lines of the text

abbrev AreLines : List (List ℕ) → Type 0
AreLines lines = AllByRecursion (λ line. has_lf line ≡ false) lines

lines_in : (lines : List (List ℕ)) → AreLines lines → lines_of (with_ends lines) ≡ lines
lines_in [] h = refl
lines_in (line ∷ lines) h =
    ap lines_of (append_assoc line (10 ∷ []) (with_ends lines)) ∙ lines_of-line line (with_ends lines) h.0
    ∙ ap (λ l. line ∷ l) (lines_in lines h.1)

abbrev pub line_at : ℕ → Item → List ℕ
line_at now item = bare_line (item_members now item)

abbrev pub first_of : View → RuleSet → List ℕ
first_of view rules = bare_line (header_members view.now (rules_text rules))

items_are : (now : ℕ) (items : List Item) → AreLines (map (line_at now) items)
items_are now [] = tt
items_are now (x ∷ xs) = (value_has_none (object (item_members now x)), items_are now xs)

pub saved_lines : (view : View) (rules : RuleSet)
    → lines_of (saved_of view rules) ≡ first_of view rules ∷ map (line_at view.now) (items_of view)
saved_lines view rules =
    ap lines_of (whole_text view rules)
    ∙ lines_in (first_of view rules ∷ map (line_at view.now) (items_of view))
    (value_has_none (object (header_members view.now (rules_text rules))), items_are view.now (items_of view))

-- ---- what a script was read from

pub record ReadsTo (first : List ℕ) (lines : List (List ℕ)) (script : Script) : Type 0 where
  pub header_is : header_of first ≡ Ok script.header
  pub good : (events_of (unused script.header.now) 2 lines).good ≡ script.events
  pub none : (events_of (unused script.header.now) 2 lines).bad ≡ None

ended : (h : Header) (good : List Numbered) (bad : Option (ℕ × LineCause)) (script : Script) → ended_by h good bad ≡ Ok script
    → (h ≡ script.header) × (good ≡ script.events) × (bad ≡ None)
ended h good None script is =
    let header_is : h ≡ script.header = cc in
    let events_are : good ≡ script.events = cc in
    (header_is, events_are, refl)
ended h good (Some bad) script is = absurd (cc)

pub reads_to : (first : List ℕ) (lines : List (List ℕ)) (script : Script) → script_of_lines (first ∷ lines) ≡ Ok script
    → ReadsTo first lines script
reads_to first lines script is = go (header_of first) refl is
  where
    go : (r : Result Header LineCause) → header_of first ≡ r → script_after r lines ≡ Ok script → ReadsTo first lines script
    go (Err cause) at is = absurd (cc)
    go (Ok h) at is =
        let found = events_of (unused h.now) 2 lines in
        let e = ended h found.good found.bad script is in
        record {
          header_is = at ∙ ap Ok e.0;
          good = ap (λ (x : Header). (events_of (unused x.now) 2 lines).good) (sym e.0) ∙ e.1;
          none = ap (λ (x : Header). (events_of (unused x.now) 2 lines).bad) (sym e.0) ∙ e.2;
        }

-- ---- lines that name events

abbrev AllNamed : ℕ → List Item → List Event → Type 0
AllNamed now items es = AllZip (λ line event. event_named line ≡ Ok event) (map (line_at now) items) es

reads_it : (used : UsedState) (line : List ℕ) (event e : Event) → event_named line ≡ Ok event → event_of line used ≡ Ok e → e ≡ event
reads_it used line event e named is = let same : Ok e ≡ Ok event = sym (names_it line used e is) ∙ named in cc

-- where none is bad, they are read as these
pub good_events : (now : ℕ) (items : List Item) (es : List Event) (used : UsedState) (n : ℕ) → AllNamed now items es
    → (events_of used n (map (line_at now) items)).bad ≡ None → saved.events_of (events_of used n (map (line_at now) items)).good ≡ es
good_events now [] [] used n named none = refl
good_events now [] (e ∷ es) used n named none = absurd named
good_events now (x ∷ xs) [] used n named none = absurd named
good_events now (x ∷ xs) (e ∷ es) used n named none =
    go (event_of (line_at now x) used) refl (λ after. good_events now xs es after (n + 1) named.1) none
  where
    rest : UsedState → Events
    rest after = events_of after (n + 1) (map (line_at now) xs)

    go : (r : Result Event LineCause) → event_of (line_at now x) used ≡ r
        → ((after : UsedState) → (rest after).bad ≡ None → saved.events_of (rest after).good ≡ es)
        → (after_line n used r rest).bad ≡ None → saved.events_of (after_line n used r rest).good ≡ e ∷ es
    go (Ok event) at later none = ap₂ (λ a l. a ∷ l) (reads_it used (line_at now x) e event named.0 at) (later (used_after event used) none)
    go (Err cause) at later none = absurd (cc)

-- ---- lines that are allowed

-- whether a page may come after what came
abbrev Ordered : Bool → List Item → Type 0
Ordered started [] = ⊤
Ordered true (x ∷ xs) = (is_page_item x ≡ true) × Ordered true xs
Ordered false (x ∷ xs) = Ordered (is_page_item x) xs

-- the event of an item
record IsOf (item : Item) (event : Event) : Type 0 where
  once : (used : UsedState) → is_used used event ≡ false
  onward : (used : UsedState) → is_back used event ≡ false
  late : (used : UsedState) → is_late used event ≡ cond (is_page_item item) false used.started
  starts : (started : Bool) → started_after event started ≡ cond (is_page_item item) true started

kind_again : (now : ℕ) (item : Item) → is_page_item (item_again now item) ≡ is_page_item item
kind_again now (LoginItem o s) = refl
kind_again now (KeptItem t) = refl
kind_again now (FlagItem o) = refl
kind_again now (CookieItem c) = refl
kind_again now (PageItem p o) = refl

of_have : (have : Have) (item : Item) → is_page_item item ≡ false → IsOf item (events.Have have)
of_have have item other =
    record {
      once = λ used. refl;
      onward = λ used. refl;
      late = λ used. ap (λ t. cond t false used.started) (sym other);
      starts = λ started. ap (λ t. cond t true started) (sym other);
    }

of_page : (page : ℕ) (url : Parts) (item : Item) → is_page_item item ≡ true → IsOf item (events.Load page url None)
of_page page url item is =
    record {
      once = λ used. refl;
      onward = λ used. refl;
      late = λ used. ap (λ t. cond t false used.started) (sym is);
      starts = λ started. ap (λ t. cond t true started) (sym is);
    }

had_kind : (rules : RuleSet) (now : ℕ) (have : Have) (item : Item) → item_had rules now have ≡ Some item → is_page_item item ≡ false
had_kind rules now (haves.Login o s) item is = ap is_page_item (sym (some_item (LoginItem o s) item is))
had_kind rules now (haves.Kept t) item is = ap is_page_item (sym (some_item (KeptItem t) item is))
had_kind rules now (haves.Silent o) item is = ap is_page_item (sym (some_item (FlagItem o) item is))
had_kind rules now (haves.Cookie url field) item is = go (cookie_from rules url now field) is
  where
    go : (o : Option StoredCookie) → option_map CookieItem o ≡ Some item → is_page_item item ≡ false
    go (Some c) is = ap is_page_item (sym (some_item (CookieItem c) item is))
    go None is = absurd (cc)

is_of : (rules : RuleSet) (now : ℕ) (item : Item) (event : Event) → item_of rules now event ≡ Some (item_again now item) → IsOf item event
is_of rules now item (events.Have have) is =
    of_have have item (sym (kind_again now item) ∙ had_kind rules now have (item_again now item) is)
is_of rules now item (events.Load page url None) is =
    of_page page url item (sym (kind_again now item)
    ∙ ap is_page_item (sym (some_item (PageItem page (origin_of url)) (item_again now item) is)))
is_of rules now item (events.Load page url (Some raw)) is = absurd (cc)
is_of rules now item (events.At time) is = absurd (cc)
is_of rules now item (events.ClosePage page) is = absurd (cc)
is_of rules now item (events.Get page call options) is = absurd (cc)
is_of rules now item (events.Abort call) is = absurd (cc)
is_of rules now item (events.GoOn call) is = absurd (cc)
is_of rules now item (events.Cancel call) is = absurd (cc)
is_of rules now item (events.SignIn call) is = absurd (cc)
is_of rules now item (events.ShutWindow call) is = absurd (cc)
is_of rules now item (events.Reply call provider kind raw) is = absurd (cc)
is_of rules now item (events.Choose call provider account) is = absurd (cc)
is_of rules now item (events.IdpClose page) is = absurd (cc)
is_of rules now item (events.Prevent page) is = absurd (cc)
is_of rules now item (events.SetStatus page status) is = absurd (cc)
is_of rules now item (events.Disconnect page call config client hint) is = absurd (cc)

four_pass : (a b c d : Bool) → a ≡ false → b ≡ false → c ≡ false → d ≡ false
    → (unless a CallTwice >>= λ x. unless b HaveLate >>= λ y. unless c TimeBack >>= λ z. unless d TooManyEvents) ≡ Ok tt
four_pass a b c d p q r s = rw (p, q, r, s) refl

may_follow : (used : UsedState) (event : Event) → is_used used event ≡ false → is_late used event ≡ false → is_back used event ≡ false
    → used.events < 1000000 → allowed used event ≡ Ok tt
may_follow used event once early onward few =
    let below : nat_lt used.events 1000000 ≡ true = grind (arith, nat_tests, few) in
    four_pass (is_used used event) (is_late used event) (is_back used event) (not (nat_lt used.events 1000000)) once early onward
    (ap not below)

-- it is early where no page came
early : (item : Item) (event : Event) (used : UsedState) → IsOf item event
    → (used.started ≡ false) → is_late used event ≡ false
early item event used so fresh = so.late used ∙ go (is_page_item item)
  where
    go : (t : Bool) → cond t false used.started ≡ false
    go true = refl
    go false = fresh

early_page : (item : Item) (event : Event) (used : UsedState) → IsOf item event → is_page_item item ≡ true → is_late used event ≡ false
early_page item event used so page = so.late used ∙ ap (λ t. cond t false used.started) page

read_as : (line : List ℕ) (used : UsedState) (event : Event) → event_named line ≡ Ok event → allowed used event ≡ Ok tt
    → event_of line used ≡ Ok event
read_as line used event named ok = ap (λ r. r >>= after used) named ∙ ap (λ r. r >>= λ good. Ok event) ok

module _ (rules : RuleSet) (now : ℕ) where
  abbrev AllBring : List Item → List Event → Type 0
  AllBring items es = AllZip (λ item event. item_of rules now event ≡ Some (item_again now item)) items es

  all_good : (items : List Item) (es : List Event) (used : UsedState) (n : ℕ) (started : Bool) → used.started ≡ started
      → Ordered started items → AllNamed now items es → AllBring items es → used.events + length items ≤ 1000000
      → (events_of used n (map (line_at now) items)).bad ≡ None
  all_good [] es used n started at order named bring few = refl
  all_good (x ∷ xs) [] used n started at order named bring few = absurd named
  all_good (x ∷ xs) (e ∷ es) used n true at order named bring few =
      let so = is_of rules now x e bring.0 in
      let ok = may_follow used e (so.once used) (early_page x e used so order.0) (so.onward used) (omega (arith, few)) in
      ap (λ r. (after_line n used r (λ after. events_of after (n + 1) (map (line_at now) xs))).bad)
      (read_as (line_at now x) used e named.0 ok)
      ∙ all_good xs es (used_after e used) (n + 1) true (so.starts used.started
      ∙ ap (λ t. cond t true used.started) order.0) order.1 named.1
      bring.1 (omega (arith, few))
  all_good (x ∷ xs) (e ∷ es) used n false at order named bring few =
      let so = is_of rules now x e bring.0 in
      let ok = may_follow used e (so.once used) (early x e used so at) (so.onward used) (omega (arith, few)) in
      ap (λ r. (after_line n used r (λ after. events_of after (n + 1) (map (line_at now) xs))).bad)
      (read_as (line_at now x) used e named.0 ok)
      ∙ all_good xs es (used_after e used) (n + 1) (is_page_item x)
      (so.starts used.started ∙ ap (λ s. cond (is_page_item x) true s) at ∙ go (is_page_item x)) order named.1 bring.1 (omega (arith, few))
    where
      go : (t : Bool) → cond t true false ≡ t
      go true = refl
      go false = refl

-- ---- pages come last

front : {X : Type 0} (g : X → Item) → ((x : X) → is_page_item (g x) ≡ false) → (xs : List X) (rest : List Item) → Ordered false rest
    → Ordered false (map g xs ++ rest)
front g other [] rest h = h
front g other (x ∷ xs) rest h = subst (λ t. Ordered t (map g xs ++ rest)) (sym (other x)) (front g other xs rest h)

pages_on : {X : Type 0} (g : X → Item) → ((x : X) → is_page_item (g x) ≡ true) → (xs : List X) → Ordered true (map g xs)
pages_on g is [] = tt
pages_on g is (x ∷ xs) = (is x, pages_on g is xs)

pages_last : {X : Type 0} (g : X → Item) → ((x : X) → is_page_item (g x) ≡ true) → (xs : List X) → Ordered false (map g xs)
pages_last g is [] = tt
pages_last g is (x ∷ xs) = subst (λ t. Ordered t (map g xs)) (sym (is x)) (pages_on g is xs)

in_order : (view : View) → Ordered false (items_of view)
in_order view =
    front (λ login. LoginItem login.0 login.1) (λ x. refl) view.login _
    (front KeptItem (λ x. refl) view.kept _
    (front FlagItem (λ x. refl) view.silent _
    (front CookieItem (λ x. refl) view.cookies _ (pages_last (λ page. PageItem page.0 page.1) (λ x. refl) view.pages))))

pub saved_is_script_lem : SavedIsScript
saved_is_script_lem view rules text saves few =
    let all = events_all rules view.now (items_of view) (λ k. saves.1 (suc k)) in
    let lines = map (line_at view.now) (items_of view) in
    let header : Header = record { rules = rules; now = view.now } in
    let found = events_of (unused view.now) 2 lines in
    let none : found.bad ≡ None =
    all_good rules view.now (items_of view) all.events (unused view.now) 2 false refl (in_order view) all.named all.bring
    (omega (arith, few)) in
    record {
      script = record { header = header; events = found.good };
      reads =
          ap script_of (saves.2) ∙ ap script_of_lines (saved_lines view rules) ∙ ap (λ r. script_after r lines) (saves.1 0)
          ∙ ap (ended_by header found.good) none;
      header = refl;
      brings =
          subst (AllZip (λ item event. item_of rules view.now event ≡ Some (item_again view.now item)) (items_of view))
          (sym (good_events view.now (items_of view) all.events (unused view.now) 2 all.named none)) all.bring;
    }
