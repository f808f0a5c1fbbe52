-- The lines that the loops keep.
use Rattle.std.proofs.Common.{◌≡◌, ℕ, ◌+◌, Bool, true, false, ◌||◌, ◌&&◌, cond, nat_eq, List, [], ◌∷◌, ◌++◌, filter}
use Rattle.std.proofs.Common.{None, refl, sym, ap, subst, ◌∙◌, append_assoc, append-nil}
use Rattle.std.specs.List.{list_any}
use Rattle.std.specs.Prelude.{⊤, Result, Ok, Err, OnOk}
use Rattle.fed_suffix.specs.Rule.{RuleSet}
use Rattle.fed_script.specs.declared.event.Event.{Event}
use Rattle.fed_script.specs.declared.event.Numbered.{Numbered}
use Rattle.fed_script.specs.Script.{Script, first_line, lines_of}
use Rattle.fed_slice.specs.declared.part.ScriptPart.{ScriptPart}
use Rattle.fed_slice.specs.Gather.{AreThose, IsPartOf, is_kept, part_kept}
use Rattle.fed_slice.specs.Lines.{has_line, lines_kept, slice_text, text_of, with_header}
use Rattle.fed_slice.specs.Linked.{is_number}
use Rattle.fed_slice.specs.Slice.{in_slice, slice_of}
use Rattle.fed_slice.proofs.gathered.Parts.{tells}

-- ---- numbers of lines

-- the line of an event that passes is one of those of the events that pass
passing : (passes : Event → Bool) (ns : List Numbered) (number : ℕ)
    → list_any (λ n. passes n.event && nat_eq number n.line) ns ≡ has_line (filter (λ n. passes n.event) ns) number
passing passes [] number = refl
passing passes (n ∷ ns) number = go (passes n.event) (passing passes ns number)
  where
    go : (b : Bool) → list_any (λ n. passes n.event && nat_eq number n.line) ns ≡ has_line (filter (λ n. passes n.event) ns) number
        → ((b && nat_eq number n.line) || list_any (λ n. passes n.event && nat_eq number n.line) ns)
        ≡ has_line (cond b (n ∷ filter (λ n. passes n.event) ns) (filter (λ n. passes n.event) ns)) number
    go true rest = ap (λ b. nat_eq number n.line || b) rest
    go false rest = rest

kept_is : (s : Script) (parties : List (List ℕ)) (p : ScriptPart) (lines : List ℕ) → IsPartOf s parties p
    → AreThose (is_kept (part_kept s.header.rules p) s.events) lines → is_number lines ≡ has_line (slice_of s parties)
kept_is s parties p lines h kept =
    λ i number.
    (kept number
    ∙ ap {A = Event → Bool} (λ f. list_any (λ n. f n.event && nat_eq number n.line) s.events) (λ j e. tells s parties p h e j)
    ∙ passing (in_slice s parties) s.events number) i

-- the text of the lines that are kept
pub text_is : (s : Script) (parties : List (List ℕ)) (p : ScriptPart) (rules : RuleSet) (events : List Numbered) (lines : List ℕ)
    (bytes text : List ℕ) → IsPartOf s parties p → rules ≡ s.header.rules → events ≡ s.events
    → AreThose (is_kept (part_kept rules p) events) lines → text ≡ text_of (with_header (is_number lines) (lines_of bytes))
    → text ≡ slice_text s parties bytes
text_is s parties p rules events lines bytes text h same_rules same_events kept is =
    is
    ∙ ap (λ f. text_of (with_header f (lines_of bytes)))
    (kept_is s parties p lines h
    (subst (λ r. AreThose (is_kept (part_kept r p) s.events) lines) same_rules
    (subst (λ es. AreThose (is_kept (part_kept rules p) es) lines) same_events kept)))

-- ---- the walk over the lines

-- a line, where it is kept
pub kept_put : (kept : ℕ → Bool) (number : ℕ) (line old new : List ℕ) (b : Bool) → kept number ≡ b
    → new ≡ cond b (old ++ line ++ 10 ∷ []) old → new ≡ old ++ text_of (lines_kept kept number (line ∷ []))
kept_put kept number line old new b is put =
    put ∙ go b ∙ sym (ap (λ t. old ++ text_of (cond t (line ∷ []) [])) is)
  where
    go : (b : Bool) → cond b (old ++ line ++ 10 ∷ []) old ≡ old ++ text_of (cond b (line ∷ []) [])
    go true = append_assoc old line (10 ∷ []) ∙ ap (λ l. old ++ l) (sym (append-nil (line ++ 10 ∷ [])))
    go false = sym (append-nil old)

pub put_ok : {E : Type 0} (r : Result ⊤ E) (kept : ℕ → Bool) (number : ℕ) (line old new : List ℕ) → kept number ≡ true
    → OnOk r (new ≡ old ++ line ++ 10 ∷ []) → OnOk r (new ≡ old ++ text_of (lines_kept kept number (line ∷ [])))
put_ok (Ok x) kept number line old new is put = kept_put kept number line old new true is put
put_ok (Err e) kept number line old new is put = tt

-- line 1, and those after it
pub header_put : (kept : ℕ → Bool) (bytes line further none first new : List ℕ) → none ≡ [] → lines_of bytes ≡ line ∷ lines_of further
    → first ≡ none ++ line ++ 10 ∷ [] → new ≡ first ++ text_of (lines_kept kept 2 (lines_of further))
    → new ≡ text_of (with_header kept (lines_of bytes))
header_put kept bytes line further none first new empty lines put is =
    is ∙ ap (λ t. t ++ text_of (lines_kept kept 2 (lines_of further))) (put ∙ ap (λ t. t ++ line ++ 10 ∷ []) empty)
    ∙ sym (ap (λ ls. text_of (with_header kept ls)) lines)

-- one line more
text_more : (kept : ℕ → Bool) (number : ℕ) (line : List ℕ) (lines : List (List ℕ))
    → text_of (lines_kept kept number (line ∷ lines))
    ≡ text_of (lines_kept kept number (line ∷ [])) ++ text_of (lines_kept kept (number + 1) lines)
text_more kept number line lines = go (kept number)
  where
    go : (b : Bool)
        → text_of (cond b (line ∷ lines_kept kept (number + 1) lines) (lines_kept kept (number + 1) lines))
        ≡ text_of (cond b (line ∷ []) []) ++ text_of (lines_kept kept (number + 1) lines)
    go true = ap (λ l. l ++ text_of (lines_kept kept (number + 1) lines)) (sym (append-nil (line ++ 10 ∷ [])))
    go false = refl

-- the text after the lines that were passed, and those that are left
pub passes_line : (kept : ℕ → Bool) (number : ℕ) (rest line further text new whole : List ℕ) → lines_of rest ≡ line ∷ lines_of further
    → new ≡ text ++ text_of (lines_kept kept number (line ∷ []))
    → text ++ text_of (lines_kept kept number (lines_of rest)) ≡ whole
    → new ++ text_of (lines_kept kept (number + 1) (lines_of further)) ≡ whole
passes_line kept number rest line further text new whole lines put is =
    ap (λ t. t ++ text_of (lines_kept kept (number + 1) (lines_of further))) put
    ∙ append_assoc text (text_of (lines_kept kept number (line ∷ []))) (text_of (lines_kept kept (number + 1) (lines_of further)))
    ∙ sym (ap (λ t. text ++ t) (text_more kept number line (lines_of further)))
    ∙ sym (ap (λ ls. text ++ text_of (lines_kept kept number ls)) lines)
    ∙ is

-- no byte is left
no_lines : (rest : List ℕ) → first_line rest ≡ None → lines_of rest ≡ []
no_lines [] none = refl
no_lines (b ∷ rest) none = absurd (cc)

pub ends_text : (kept : ℕ → Bool) (number : ℕ) (rest text whole : List ℕ) → first_line rest ≡ None
    → text ++ text_of (lines_kept kept number (lines_of rest)) ≡ whole → text ≡ whole
ends_text kept number rest text whole none is =
    sym (append-nil text) ∙ sym (ap (λ ls. text ++ text_of (lines_kept kept number ls)) (no_lines rest none)) ∙ is

pub no_text : (kept : ℕ → Bool) (bytes : List ℕ) → first_line bytes ≡ None → [] ≡ text_of (with_header kept (lines_of bytes))
no_text kept bytes none = sym (ap (λ ls. text_of (with_header kept ls)) (no_lines bytes none))
