-- The values of the fields of a reply are bytes, where the reply is.
use Rattle.std.proofs.Common.{ℕ, Bool, true, false, cond, ◌&&◌, ◌==◌, nat_lt, nat_le, List, [], ◌∷◌, ◌++◌, length, map, Option, Some, None}
use Rattle.std.specs.Prelude.{⊤, bytes_eq, Result, Ok, Err}
use Rattle.std.specs.List.{AllByRecursion, list_all}
use Rattle.std.proofs.lemmas.Bool.{cond_both}
use Rattle.httparse.specs.Grammar.{is_ows, is_token_byte, is_value_byte, skip_ows, trim_ows}
use Rattle.http_header.specs.FieldValue.{FieldValue, plain_value}
use Rattle.http_header.specs.HeaderMap.{append, append_all, get_all}
use Rattle.fed_head.specs.Head.{HeadParts, first_line, head_of, status_of, within}
use Rattle.fed_head.specs.Section.{FieldPair, field_of, is_blank, name_and_trimmed, name_split, section_from, section_of, without_cr}
use Rattle.fed_reply.specs.declared.step.ReplyStep.{ReplyStep}
use Rattle.fed_reply.specs.Fields.{Fields, kept_field}
use Rattle.fed_reply.specs.Steps.{with_ok}
use Rattle.fed_reply.specs.Reply.{FrontOf, HeadOf, is_taken_head, reply_with, taken_head}
use Rattle.fed_trace.specs.Row.{load_values, values_in}
use Rattle.fed_own.proofs.json.Values.{IfSo}
use Rattle.fed_own.proofs.plain.Results.{IfOk, all_both, some_mapped, some_then}
use Rattle.fed_own.proofs.plain.Lists.{AreBytes, reversed_all}

-- the value of a field is bytes
abbrev HasBytes : FieldPair → Type 0
HasBytes p = AreBytes p.1

cut_bytes : (xs : List ℕ) → AreBytes xs → AreBytes (without_cr xs)
unfolding without_cr
cut_bytes [] all = tt
cut_bytes (b ∷ []) all = cond_both (b == 13) [] (b ∷ []) AreBytes (λ t. tt) (λ f. all)
cut_bytes (b ∷ c ∷ bs) all = (all.0, cut_bytes (c ∷ bs) all.1)

split_bytes : (xs : List ℕ) → AreBytes xs → IfSo HasBytes (name_split xs)
unfolding name_split
split_bytes [] all = tt
split_bytes (b ∷ bs) all =
    cond_both (b == 58) (Some ([], bs)) _ (IfSo HasBytes) (λ t. all.1)
    (λ f. cond_both (is_token_byte b) _ None (IfSo HasBytes)
    (λ t. some_mapped HasBytes HasBytes _ (name_split bs) (split_bytes bs all.1) (λ p h. h)) (λ g. tt))

field_bytes : (line : List ℕ) → AreBytes line → IfSo HasBytes (field_of line)
unfolding field_of
field_bytes line all =
    some_then HasBytes HasBytes _ (name_split line) (split_bytes line all)
    (λ p h. cond_both (nat_lt 0 (length p.0) && list_all is_value_byte p.1) (Some p) None (IfSo HasBytes) (λ t. h) (λ f. tt))

abbrev AllBytes : List FieldPair → Type 0
AllBytes = AllByRecursion HasBytes

abbrev Found : List FieldPair × List ℕ → Type 0
Found s = AllBytes s.0

section_bytes : (line bs : List ℕ) → AreBytes line → AreBytes bs → IfSo Found (section_from line bs)
unfolding section_from
section_bytes line [] own all = tt
section_bytes line (b ∷ bs) own all =
    cond_both (b == 10) _ _ (IfSo Found)
    (λ t. cond_both (is_blank (without_cr line)) (Some ([], bs)) _ (IfSo Found) (λ u. tt)
    (λ u. some_then HasBytes Found _ (field_of (without_cr line)) (field_bytes (without_cr line) (cut_bytes line own))
    (λ f h. some_mapped Found Found _ (section_from [] bs) (section_bytes [] bs tt all.1) (λ r g. (h, g)))))
    (λ f. section_bytes (line ++ b ∷ []) bs (all_both _ line (b ∷ []) own (all.0, tt)) all.1)

abbrev Rest : List ℕ × List ℕ → Type 0
Rest l = AreBytes l.1

first_bytes : (line bs : List ℕ) → AreBytes bs → IfSo Rest (first_line line bs)
unfolding first_line
first_bytes line [] all = tt
first_bytes line (b ∷ bs) all =
    cond_both (b == 10) _ _ (IfSo Rest)
    (λ t. cond_both (is_blank (without_cr line)) (first_line [] bs) (Some (without_cr line, bs)) (IfSo Rest)
    (λ u. first_bytes [] bs all.1) (λ u. all.1))
    (λ f. first_bytes (line ++ b ∷ []) bs all.1)

abbrev GoodHead : HeadParts → Type 0
GoodHead h = AllBytes h.fields

head_bytes : (raw : List ℕ) → AreBytes raw → IfSo GoodHead (head_of raw)
unfolding head_of
head_bytes raw all =
    some_then Rest GoodHead _ (first_line [] raw) (first_bytes [] raw all)
    (λ l h. some_then (λ code. ⊤) GoodHead _ (status_of l.0) (any (status_of l.0))
    (λ code u. some_mapped Found GoodHead _ (section_of l.1) (section_bytes [] l.1 tt h) (λ s g. g)))
  where
    any : (o : Option ℕ) → IfSo (λ code. ⊤) o
    any None = tt
    any (Some code) = tt

front_bytes : (raw : List ℕ) → AreBytes raw → IfOk GoodHead (FrontOf raw)
unfolding FrontOf
front_bytes raw all = go (head_of raw) (head_bytes raw all)
  where
    go : (o : Option HeadParts) → IfSo GoodHead o → IfOk {E = ReplyStep} GoodHead (taken_head (within 128 o))
    go None h = tt
    go (Some head) h =
        cond_both (nat_le (length head.fields) 128) (Some head) None (λ o. IfOk {E = ReplyStep} GoodHead (taken_head o))
        (λ t. cond_both (is_taken_head head) _ _ (IfOk {E = ReplyStep} GoodHead) (λ u. h) (λ u. tt)) (λ f. tt)

-- ---- the multimap of its fields

abbrev GoodValue : FieldValue → Type 0
GoodValue v = AreBytes v.bytes

abbrev GoodEntries : Fields → Type 0
GoodEntries = AllByRecursion (λ e. AllByRecursion GoodValue e.1)

skipped_bytes : (xs : List ℕ) → AreBytes xs → AreBytes (skip_ows xs)
skipped_bytes [] all = tt
skipped_bytes (x ∷ xs) all = cond_both (is_ows x) (skip_ows xs) (x ∷ xs) AreBytes (λ t. skipped_bytes xs all.1) (λ f. all)

trimmed_bytes : (xs : List ℕ) → AreBytes xs → AreBytes (trim_ows xs)
unfolding trim_ows
trimmed_bytes xs all = reversed_all _ _ (skipped_bytes _ (reversed_all _ _ (skipped_bytes xs all)))

appended : (m : Fields) (name : List ℕ) (v : FieldValue) → GoodEntries m → GoodValue v → GoodEntries (append m name v)
appended [] name v m g = ((g, tt), tt)
appended (e ∷ m) name v h g = go (bytes_eq e.0 name) (appended m name v h.1 g)
  where
    go : (b : Bool) → GoodEntries (append m name v)
        → GoodEntries (cond b ((e.0, e.1 ++ v ∷ []) ∷ m) (e ∷ append m name v))
    go true rest = (all_both GoodValue e.1 (v ∷ []) h.0 (g, tt), h.1)
    go false rest = (h.0, rest)

all_appended : (m : Fields) (pairs : List FieldPair) → GoodEntries m → AllBytes pairs
    → GoodEntries (append_all m (map kept_field (map name_and_trimmed pairs)))
all_appended m [] h all = h
all_appended m (p ∷ pairs) h all =
    all_appended (append m (kept_field (name_and_trimmed p)).0 (kept_field (name_and_trimmed p)).1) pairs
    (appended m (kept_field (name_and_trimmed p)).0 (plain_value (trim_ows p.1)) h (trimmed_bytes p.1 all.0)) all.1

got : (m : Fields) (name : List ℕ) → GoodEntries m → AllByRecursion GoodValue (get_all m name)
got [] name h = tt
got (e ∷ m) name h = cond_both (bytes_eq e.0 name) e.1 (get_all m name) (AllByRecursion GoodValue) (λ t. h.0) (λ f. got m name h.1)

listed : (vs : List FieldValue) → AllByRecursion GoodValue vs → AllByRecursion AreBytes (map (λ v. v.bytes) vs)
listed [] h = tt
listed (v ∷ vs) h = (h.0, listed vs h.1)

-- the values of the fields of a name in a load's reply
pub load_bytes : (name : List ℕ) (raw : Option (List ℕ)) → IfSo AreBytes raw → AllByRecursion AreBytes (load_values name raw)
unfolding HeadOf
load_bytes name None h = tt
load_bytes name (Some raw) h = go (FrontOf raw) (front_bytes raw h)
  where
    go : (r : Result HeadParts ReplyStep) → IfOk GoodHead r
        → AllByRecursion AreBytes (values_in name (with_ok (λ h. reply_with h []) r))
    go (Ok head) g = listed (get_all _ name) (got _ name (all_appended [] head.fields tt g))
    go (Err step) g = tt
