-- The calls that are pending, among those that were taken.
use Rattle.std.proofs.Common.{◌≡◌, ℕ, Bool, true, false, nat_eq, ◌||◌, List, [], ◌∷◌, ◌++◌, Some, None, refl, sym, ap}
use Rattle.std.proofs.Common.{◌∙◌, arith, cond}
use Rattle.std.proofs.lemmas.Bool.Decides.{nat_tests}
use Rattle.std.proofs.lemmas.List.Elements.{filter_map-append}
use Rattle.std.specs.Prelude.{Option}
use Rattle.std.specs.List.{list_any, cons_option}
use Rattle.std.specs.Map.{lookup}
use Rattle.indexmap.specs.IndexMap.{insert_entry, shift_remove_entry}
use Rattle.fed_table.specs.Lists.{has}
use Rattle.fed_trace.specs.Begun.{CallKind}
use Rattle.fed_trace.specs.Call.{Known}
use Rattle.fed_trace.specs.Effect.{Effect, PendingCall, call_change}
use Rattle.fed_trace.specs.Keyed.{entries_after}
use Rattle.fed_trace.specs.Row.{ends_of}
use Rattle.fed_session.specs.Session.{numbers_in, pending_as, pending_call, pending_calls}
use Rattle.fed_trace.proofs.calls.Begins.{AreApart}
use Rattle.fed_trace.proofs.effects.Silent.{AllSilent, entries_silent}
use Rattle.fed_trace.proofs.keyed.Keyed.{IsAbsent}
use Rattle.fed_trace.proofs.keyed.Entries.{insert_absent, remove_absent}

-- ---- what is known of a call

abbrev pub KnownBy : Type 0
KnownBy = ℕ → Option Known

-- of this call this is known, and of the others what was
abbrev pub changes : ℕ → Option Known → KnownBy → KnownBy
changes call known before = λ other. cond (nat_eq call other) known (before other)

-- of these calls nothing is known
abbrev pub loses : List ℕ → KnownBy → KnownBy
loses gone before = λ other. cond (has other gone) None (before other)

-- what is said of each pending call is the same
pub pending_same : (f g : KnownBy) → ((call : ℕ) → pending_call call (f call) ≡ pending_call call (g call)) → (calls : List ℕ)
    → pending_calls f calls ≡ pending_calls g calls
pending_same f g same [] = refl
pending_same f g same (c ∷ calls) = λ i. cons_option (same c i) (pending_same f g same calls i)

-- the same where it is said of the calls among these alone
pending_within : (call : ℕ) (f g : KnownBy) → ((other : ℕ) → nat_eq call other ≡ false → f other ≡ g other) → (calls : List ℕ)
    → list_any (nat_eq call) calls ≡ false → pending_calls f calls ≡ pending_calls g calls
pending_within call f g same [] h = refl
pending_within call f g same (c ∷ calls) h =
    let here : nat_eq call c ≡ false = grind (arith, h) in
    let tail : list_any (nat_eq call) calls ≡ false = grind (arith, h) in
    let is : f c ≡ g c = same c here in
    λ i. cons_option (pending_call c (is i)) (pending_within call f g same calls tail i)

-- what is known of a call that is none of these
changes_other : (call : ℕ) (known : Option Known) (before : KnownBy) (other : ℕ) → nat_eq call other ≡ false
    → changes call known before other ≡ before other
changes_other call known before other ne = ap (λ b. cond b known (before other)) ne

-- ---- a call that is none of those that were taken

absent_first : (k : ℕ) (call : ℕ) (known : Option Known) (rest : List (ℕ × PendingCall)) → nat_eq k call ≡ false → IsAbsent k rest
    → IsAbsent k (cons_option (pending_call call known) rest)
absent_first k call None rest ne h = h
absent_first k call (Some known) rest ne h = ap (λ b. cond b (Some (pending_as known)) (lookup (nat_eq k) rest)) ne ∙ h

pub absent_pending_calls : (k : ℕ) (f : KnownBy) (calls : List ℕ) → list_any (nat_eq k) calls ≡ false → IsAbsent k (pending_calls f calls)
absent_pending_calls k f [] h = refl
absent_pending_calls k f (c ∷ calls) h =
    let here : nat_eq k c ≡ false = grind (arith, h) in
    let tail : list_any (nat_eq k) calls ≡ false = grind (arith, h) in
    absent_first k c (f c) (pending_calls f calls) here (absent_pending_calls k f calls tail)

-- one more call
pending_more : (f : KnownBy) (call : ℕ) (calls : List ℕ)
    → pending_calls f (calls ++ call ∷ []) ≡ pending_calls f calls ++ pending_calls f (call ∷ [])
pending_more f call calls = filter_map-append (λ call. pending_call call (f call)) calls (call ∷ [])

append_none : (xs : List (ℕ × PendingCall)) → xs ++ [] ≡ xs
append_none [] = refl
append_none (x ∷ xs) = ap (λ ys. x ∷ ys) (append_none xs)

-- a call that begins and ends at once
pub pending_over : (call : ℕ) (f : KnownBy) (calls : List ℕ) → f call ≡ None → pending_calls f (calls ++ call ∷ []) ≡ pending_calls f calls
pending_over call f calls none =
    pending_more f call calls ∙ ap (λ o. pending_calls f calls ++ cons_option (pending_call call o) []) none
    ∙ append_none (pending_calls f calls)

-- a call that begins and goes on
pub pending_new : (call : ℕ) (known : Known) (f : KnownBy) (calls : List ℕ) → list_any (nat_eq call) calls ≡ false
    → pending_calls (changes call (Some known) f) (calls ++ call ∷ [])
    ≡ insert_entry nat_eq (pending_calls f calls) call (pending_as known)
pending_new call known f calls h =
    let own : nat_eq call call ≡ true = grind (arith, nat_tests) in
    pending_more (changes call (Some known) f) call calls
    ∙ ap (λ xs. xs ++ pending_calls (changes call (Some known) f) (call ∷ []))
    (pending_within call (changes call (Some known) f) f (changes_other call (Some known) f) calls h)
    ∙ ap (λ b. pending_calls f calls ++ cons_option (pending_call call (cond b (Some known) (f call))) []) own
    ∙ sym (insert_absent call (pending_as known) (pending_calls f calls) (absent_pending_calls call f calls h))

-- a call that stays pending
pub pending_stays : (call : ℕ) (known after : Known) (f : KnownBy) (calls : List ℕ) → f call ≡ Some known
    → pending_as after ≡ pending_as known → pending_calls (changes call (Some after) f) calls ≡ pending_calls f calls
pending_stays call known after f calls found same =
    pending_same (changes call (Some after) f) f (λ other. go other (nat_eq call other) refl) calls
  where
    go : (other : ℕ) (b : Bool) → nat_eq call other ≡ b
        → pending_call other (cond b (Some after) (f other)) ≡ pending_call other (f other)
    go other true is =
        let key : call ≡ other = grind (arith, nat_tests, is) in
        let at : f other ≡ Some known = ap f (sym key) ∙ found in
        ap (λ x. Some (other, x)) same ∙ sym (ap (pending_call other) at)
    go other false is = refl

-- a call that ends
pub pending_ends : (call : ℕ) (f : KnownBy) (calls : List ℕ) → AreApart calls
    → pending_calls (changes call None f) calls ≡ shift_remove_entry (nat_eq call) (pending_calls f calls)
pending_ends call f [] h = refl
pending_ends call f (c ∷ calls) h = go (nat_eq call c) refl (f c) (pending_ends call f calls h.1)
  where
    left : List (ℕ × PendingCall)
    left = pending_calls f calls

    go : (b : Bool) → nat_eq call c ≡ b → (known : Option Known)
        → pending_calls (changes call None f) calls ≡ shift_remove_entry (nat_eq call) left
        → cons_option (pending_call c (cond b None known)) (pending_calls (changes call None f) calls)
        ≡ shift_remove_entry (nat_eq call) (cons_option (pending_call c known) left)
    go true is None rest = rest
    go true is (Some known) rest =
        let key : c ≡ call = grind (arith, nat_tests, is) in
        let apart : list_any (nat_eq call) calls ≡ false = ap (λ k. list_any (nat_eq k) calls) (sym key) ∙ h.0 in
        rest ∙ remove_absent call left (absent_pending_calls call f calls apart)
        ∙ sym (ap (λ b. cond b left ((c, pending_as known) ∷ shift_remove_entry (nat_eq call) left)) is)
    go false is None rest = rest
    go false is (Some known) rest =
        ap (λ xs. (c, pending_as known) ∷ xs) rest
        ∙ sym (ap (λ b. cond b left ((c, pending_as known) ∷ shift_remove_entry (nat_eq call) left)) is)

-- ---- calls that end together

-- one call after the other
loses_one : (call : ℕ) (more : List ℕ) (f : KnownBy) (other : ℕ)
    → loses (call ∷ more) f other ≡ loses more (changes call None f) other
loses_one call more f other =
    let flip : nat_eq other call ≡ nat_eq call other = grind (arith, nat_tests) in
    ap (λ b. cond (b || has other more) None (f other)) flip ∙ go (nat_eq call other) (has other more)
  where
    go : (a b : Bool) → cond (a || b) None (f other) ≡ cond b None (cond a None (f other))
    go true true = refl
    go true false = refl
    go false true = refl
    go false false = refl

pub pending_loses : (ended : List (ℕ × CallKind)) (rest : List Effect) (f : KnownBy) (calls : List ℕ) → AreApart calls
    → AllSilent call_change rest
    → pending_calls (loses (numbers_in ended) f) calls ≡ entries_after nat_eq call_change (ends_of ended ++ rest) (pending_calls f calls)
pending_loses [] rest f calls apart silent = sym (entries_silent nat_eq call_change rest (pending_calls f calls) silent)
pending_loses (c ∷ ended) rest f calls apart silent =
    pending_same (loses (c.0 ∷ numbers_in ended) f) (loses (numbers_in ended) (changes c.0 None f))
    (λ other. ap (pending_call other) (loses_one c.0 (numbers_in ended) f other)) calls
    ∙ pending_loses ended rest (changes c.0 None f) calls apart silent
    ∙ ap (entries_after nat_eq call_change (ends_of ended ++ rest)) (pending_ends c.0 f calls apart)
