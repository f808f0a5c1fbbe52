-- Events of a script: those that stand in it, and the calls that they begin.
use Rattle.std.proofs.Common.{◌≡◌, ℕ, Bool, true, false, nat_eq, ◌||◌, ◌&&◌, List, [], ◌∷◌, ◌++◌, Option, Some, None, refl, sym, ap, ap₂}
use Rattle.std.proofs.Common.{◌∙◌}
use Rattle.std.proofs.Common.{arith}
use Rattle.std.proofs.lemmas.Bool.Decides.{nat_tests}
use Rattle.std.proofs.lemmas.List.Folds.{list_any-append}
use Rattle.std.specs.List.{list_any, AllByRecursion}
use Rattle.fed_script.specs.declared.event.Event.{Event}
use Rattle.fed_script.specs.declared.event.Event.TheVariants as events
use Rattle.fed_script.specs.declared.event.Numbered.{Numbered}
use Rattle.fed_script.specs.Script.{AreRead}
use Rattle.fed_script.specs.Used.{UsedState, is_used, calls_after, used_after}
use Rattle.fed_slice.specs.Slice.{begins_on, call_on}

-- the event stands among these
pub data In (n : Numbered) : List Numbered → Type 0 where
  Here : (ns : List Numbered) → In n (n ∷ ns)
  There : (m : Numbered) → (ns : List Numbered) → In n ns → In n (m ∷ ns)

pub each : (P : Numbered → Type 0) (ns : List Numbered) → ((n : Numbered) → In n ns → P n) → AllByRecursion P ns
each P [] h = tt
each P (n ∷ ns) h = (h n (Here ns), each P ns (λ m at. h m (There n ns at)))

pub any_in : (test : Numbered → Bool) (n : Numbered) {ns : List Numbered} → In n ns → test n ≡ true → list_any test ns ≡ true
any_in test n (Here ns) h = ap (λ b. b || list_any test ns) h
any_in test n (There m ns at) h = go (test m) (any_in test n at h)
  where
    go : (b : Bool) → list_any test ns ≡ true → (b || list_any test ns) ≡ true
    go true rest = refl
    go false rest = rest

pub none_in : (test : Numbered → Bool) (ns : List Numbered) → ((n : Numbered) → In n ns → test n ≡ false) → list_any test ns ≡ false
none_in test [] h = refl
none_in test (n ∷ ns) h =
    ap₂ (λ a b. a || b) (h n (Here ns)) (none_in test ns (λ m at. h m (There n ns at)))

-- ---- the call that an event begins, and its page

pub record Beginning : Type 0 where
  pub call : ℕ
  pub page : ℕ

abbrev pub beginning_of : Event → Option Beginning
beginning_of (events.Get page call options) = Some (record { call = call; page = page })
beginning_of (events.Disconnect page call config client hint) = Some (record { call = call; page = page })
beginning_of _ = None

-- its number is among those
abbrev pub is_taken : List ℕ → Option Beginning → Bool
is_taken calls None = false
is_taken calls (Some b) = list_any (nat_eq b.call) calls

pub used_is : (used : UsedState) (e : Event) → is_used used e ≡ is_taken used.calls (beginning_of e)
used_is used (events.Get page call options) = refl
used_is used (events.Disconnect page call config client hint) = refl
used_is used _ = refl

-- a number that is used stays so
stays_used : (q : ℕ) (calls more : List ℕ) → list_any (nat_eq q) calls ≡ true → list_any (nat_eq q) (calls ++ more) ≡ true
stays_used q calls more h = list_any-append (nat_eq q) calls more ∙ ap (λ b. b || list_any (nat_eq q) more) h

used_later : (q : ℕ) (e : Event) (calls : List ℕ) → list_any (nat_eq q) calls ≡ true → list_any (nat_eq q) (calls_after e calls) ≡ true
used_later q (events.Get page call options) calls h = stays_used q calls (call ∷ []) h
used_later q (events.Disconnect page call config client hint) calls h = stays_used q calls (call ∷ []) h
used_later q _ calls h = h

own_number : (q : ℕ) (calls : List ℕ) → list_any (nat_eq q) (calls ++ q ∷ []) ≡ true
own_number q calls =
    list_any-append (nat_eq q) calls (q ∷ []) ∙ go (list_any (nat_eq q) calls)
  where
    go : (b : Bool) → (b || list_any (nat_eq q) (q ∷ [])) ≡ true
    go true = refl
    go false = let one : nat_eq q q ≡ true = grind (arith, nat_tests) in ap (λ b. b || false) one

-- the number of a call is used from its beginning on
now_used : (e : Event) (b : Beginning) (calls : List ℕ) → beginning_of e ≡ Some b → list_any (nat_eq b.call) (calls_after e calls) ≡ true
now_used (events.Get page call options) b calls is =
    let one : call ≡ b.call = cc in ap (λ c. list_any (nat_eq b.call) (calls ++ c ∷ [])) one ∙ own_number b.call calls
now_used (events.Disconnect page call config client hint) b calls is =
    let one : call ≡ b.call = cc in ap (λ c. list_any (nat_eq b.call) (calls ++ c ∷ [])) one ∙ own_number b.call calls
now_used _ b calls is = absurd (cc)

-- no event begins a call whose number is used
not_again : {A : Type 0} (n : Numbered) (used : UsedState) {ns : List Numbered} → AreRead used ns → In n ns → (b : Beginning)
    → beginning_of n.event ≡ Some b → list_any (nat_eq b.call) used.calls ≡ true → A
not_again n used read (Here ns) b is taken =
    absurd (let no : true ≡ false = sym taken ∙ ap (is_taken used.calls) (sym is) ∙ sym (used_is used n.event) ∙ read.0.once in cc)
not_again n used read (There m ns at) b is taken =
    not_again n (used_after m.event used) read.1 at b is (used_later b.call m.event used.calls taken)

-- two events that begin a call of one number are of one page
pub one_page : (n m : Numbered) (used : UsedState) {ns : List Numbered} → AreRead used ns → In n ns → In m ns → (a b : Beginning)
    → beginning_of n.event ≡ Some a → beginning_of m.event ≡ Some b → a.call ≡ b.call → a.page ≡ b.page
one_page n m used read (Here ns) (Here ms) a b is is' same =
    let both : Some a ≡ Some b = sym is ∙ is' in let one : a ≡ b = cc in ap (λ x. x.page) one
one_page n m used read (There k ns at) (There l ms at') a b is is' same =
    one_page n m (used_after k.event used) read.1 at at' a b is is' same
one_page n m used read (Here ns) (There k ms at) a b is is' same =
    not_again m (used_after n.event used) read.1 at b is'
    (ap (λ q. list_any (nat_eq q) (calls_after n.event used.calls)) (sym same) ∙ now_used n.event a used.calls is)
one_page n m used read (There k ns at) (Here ms) a b is is' same =
    not_again n (used_after m.event used) read.1 at a is
    (ap (λ q. list_any (nat_eq q) (calls_after m.event used.calls)) same ∙ now_used m.event b used.calls is')

-- ---- a call number is in a part as the page of its beginning is

on_by : (pages : ℕ → Bool) (q : ℕ) (b : Option Beginning) → Bool
on_by pages q None = false
on_by pages q (Some b) = nat_eq q b.call && pages b.page

begins_is : (pages : ℕ → Bool) (q : ℕ) (e : Event) → begins_on pages q e ≡ on_by pages q (beginning_of e)
unfolding on_by
begins_is pages q (events.Get page call options) = refl
begins_is pages q (events.Disconnect page call config client hint) = refl
begins_is pages q _ = refl

pub call_is : (pages : ℕ → Bool) (used : UsedState) (ns : List Numbered) → AreRead used ns → (n : Numbered) → In n ns → (b : Beginning)
    → beginning_of n.event ≡ Some b → call_on pages ns b.call ≡ pages b.page
unfolding on_by
call_is pages used ns read n at b is = go (pages b.page) refl
  where
    go : (side : Bool) → pages b.page ≡ side → call_on pages ns b.call ≡ pages b.page
    go true on =
        any_in (λ m. begins_on pages b.call m.event) n at
        (begins_is pages b.call n.event ∙ ap (on_by pages b.call) is
        ∙ ap₂ (λ x y. x && y) (let one : nat_eq b.call b.call ≡ true = grind (arith, nat_tests) in one) on)
        ∙ sym on
    go false off =
        none_in (λ m. begins_on pages b.call m.event) ns (λ m at'. begins_is pages b.call m.event ∙ other m at' (beginning_of m.event) refl)
        ∙ sym off
      where
        other : (m : Numbered) → In m ns → (o : Option Beginning) → beginning_of m.event ≡ o → on_by pages b.call o ≡ false
        other m at' None is' = refl
        other m at' (Some c) is' = by (nat_eq b.call c.call) refl
          where
            by : (t : Bool) → nat_eq b.call c.call ≡ t → (t && pages c.page) ≡ false
            by false ne = refl
            by true same =
                let one : b.call ≡ c.call = grind (arith, nat_tests, same) in
                ap pages (sym (one_page n m used read at at' b c is is' one)) ∙ off
