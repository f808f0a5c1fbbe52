-- Cookies of good fields can stand in a head, and what a jar sends of them can.
use Rattle.std.proofs.Common.{◌≡◌, ℕ, zero, suc, ◌+◌, ◌-◌, ◌^◌, ◌<◌, ◌≤◌, Bool, true, false, cond, not, ◌==◌, List, [], ◌∷◌, ◌++◌}
use Rattle.std.proofs.Common.{append-nil, append_assoc, length, length-drop, reverse, take, drop, take-append-drop, Option, Some, None}
use Rattle.std.proofs.Common.{refl, sym, ap, subst, ◌∙◌, arith}
use Rattle.std.specs.Prelude.{⊤, codes, filter, flat_map, option_map}
use Rattle.std.specs.List.{AllByRecursion, cons_option, list_all, list_any, onto_first, position, prefix_len, slice_split, suffix_len}
use Rattle.std.proofs.lemmas.Bool.{and_from, cond_both, or_parts}
use Rattle.std.proofs.lemmas.Bool.Decides.{nat_tests}
use Rattle.std.proofs.lemmas.List.{length-reverse, reverse-append, take_at}
use Rattle.url.specs.Parts.{Parts}
use Rattle.httparse.specs.Grammar.{is_ows, is_value_byte, skip_ows, trim_ows}
use Rattle.fed_io.specs.Trim.{is_blank, trimmed, trimmed_front}
use Rattle.fed_suffix.specs.Rule.{RuleSet}
use Rattle.fed_cookie.specs.Fields.{Attributes, attributes_of, cookie_of_parts, cookie_with, is_refused, named_cookie, named_value}
use Rattle.fed_cookie.specs.Fields.{no_attributes}
use Rattle.fed_cookie.specs.Fields.{set_cookie_of}
use Rattle.fed_cookie.specs.SetCookie.{SetCookie}
use Rattle.fed_jar.specs.Changes.{CookieChange, CookieKey, Gone, Stored, changed, changed_by, is_key, standing}
use Rattle.fed_jar.specs.Cookie.{StoredCookie, same_key, with_cookie}
use Rattle.fed_jar.specs.Limit.{changes_from, changes_with}
use Rattle.fed_jar.specs.Send.{cookies_sent, in_order, is_sent, jar_text, next_text, pair_text, pairs_text, put_by}
use Rattle.fed_jar.specs.Store.{cookie_from as stored_from, cookie_of, scope_of}
use Rattle.fed_trace.specs.Row.{cookie_from, cookies_from}
use Rattle.fed_own.proofs.json.Values.{IfSo}
use Rattle.fed_own.proofs.plain.Results.{all_both, all_kept, some_then}
use Rattle.fed_own.proofs.plain.Lists.{AreBytes, IsField, twice}

-- ---- bytes of values

pub record IsPen (b : ℕ) : Type 0 where
  pub value : is_value_byte b ≡ true
  pub byte : b < 2 ^ 8

abbrev pub ArePen : List ℕ → Type 0
ArePen = AllByRecursion IsPen

-- it begins with no white space, if it begins
abbrev pub IsSolid : List ℕ → Type 0
IsSolid [] = ⊤
IsSolid (b ∷ bytes) = is_ows b ≡ false

-- it begins, and with no white space
abbrev pub Begins : List ℕ → Type 0
Begins [] = ⊥
Begins (b ∷ bytes) = is_ows b ≡ false

pub record IsPart (text : List ℕ) : Type 0 where
  pub pen : ArePen text
  pub front : IsSolid text
  pub back : IsSolid (reverse text)

pub record GoodCookie (cookie : StoredCookie) : Type 0 where
  pub named : Begins cookie.name
  pub name : IsPart cookie.name
  pub value : IsPart cookie.value

-- ---- such a text is a field's value

skipped : (xs : List ℕ) → IsSolid xs → skip_ows xs ≡ xs
skipped [] solid = refl
skipped (x ∷ xs) solid = ap (λ t. cond t (skip_ows xs) (x ∷ xs)) solid

seen : (xs : List ℕ) → ArePen xs → list_all is_value_byte xs ≡ true
seen [] pen = refl
seen (x ∷ xs) pen = and_from (is_value_byte x) (list_all is_value_byte xs) pen.0.value (seen xs pen.1)

pen_bytes : (xs : List ℕ) → ArePen xs → AreBytes xs
pen_bytes [] pen = tt
pen_bytes (x ∷ xs) pen = (pen.0.byte, pen_bytes xs pen.1)

pub part_field : (text : List ℕ) → IsPart text → IsField text
unfolding trim_ows
part_field text p =
    record {
      value = record {
        visible = seen text p.pen;
        trimmed =
            ap (λ l. reverse (skip_ows (reverse l))) (skipped text p.front)
            ∙ ap reverse (skipped (reverse text) p.back) ∙ twice text;
      };
      bytes = pen_bytes text p.pen;
    }

-- ---- ends

solid_of : (xs : List ℕ) → Begins xs → IsSolid xs
solid_of [] b = absurd b
solid_of (x ∷ xs) b = b

front_more : (xs ys : List ℕ) → Begins xs → Begins (xs ++ ys)
front_more [] ys b = absurd b
front_more (x ∷ xs) ys b = b

back_more : (xs ys : List ℕ) → Begins (reverse ys) → Begins (reverse (xs ++ ys))
back_more xs ys b = subst Begins (sym (reverse-append xs ys)) (front_more (reverse ys) (reverse xs) b)

both_pen : (xs ys : List ℕ) → ArePen xs → ArePen ys → ArePen (xs ++ ys)
both_pen xs ys a b = all_both IsPen xs ys a b

-- ---- pairs

equals_pen : IsPen 61
equals_pen = record { value = refl; byte = omega arith }

pair_pen : (c : StoredCookie) → GoodCookie c → ArePen (pair_text c)
unfolding pair_text
pair_pen c g = both_pen c.name (61 ∷ c.value) g.name.pen (equals_pen, g.value.pen)

pair_front : (c : StoredCookie) → GoodCookie c → Begins (pair_text c)
unfolding pair_text
pair_front c g = front_more c.name (61 ∷ c.value) g.named

after_equals : (r : List ℕ) → IsSolid r → Begins (r ++ 61 ∷ [])
after_equals [] solid = refl
after_equals (x ∷ r) solid = solid

pair_back : (c : StoredCookie) → GoodCookie c → Begins (reverse (pair_text c))
unfolding pair_text
pair_back c g =
    back_more c.name (61 ∷ c.value)
    (subst Begins (sym (reverse-append (61 ∷ []) c.value)) (after_equals (reverse c.value) g.value.back))

lead_pen : ArePen (codes "; ")
lead_pen = (record { value = refl; byte = omega arith }, (record { value = refl; byte = omega arith }, tt))

next_pen : (c : StoredCookie) → GoodCookie c → ArePen (next_text c)
unfolding next_text
next_pen c g = both_pen (codes "; ") (pair_text c) lead_pen (pair_pen c g)

next_back : (c : StoredCookie) → GoodCookie c → Begins (reverse (next_text c))
unfolding next_text
next_back c g = back_more (codes "; ") (pair_text c) (pair_back c g)

abbrev AllGood : List StoredCookie → Type 0
AllGood = AllByRecursion GoodCookie

more_pen : (cs : List StoredCookie) → AllGood cs → ArePen (flat_map next_text cs)
more_pen [] g = tt
more_pen (c ∷ cs) g = both_pen (next_text c) (flat_map next_text cs) (next_pen c g.0) (more_pen cs g.1)

more_back : (xs : List ℕ) (cs : List StoredCookie) → Begins (reverse xs) → AllGood cs → Begins (reverse (xs ++ flat_map next_text cs))
more_back xs [] b g = subst (λ l. Begins (reverse l)) (sym (append-nil xs)) b
more_back xs (c ∷ cs) b g =
    subst (λ l. Begins (reverse l)) (append_assoc xs (next_text c) (flat_map next_text cs))
    (more_back (xs ++ next_text c) cs (back_more xs (next_text c) (next_back c g.0)) g.1)

pairs_part : (cs : List StoredCookie) → AllGood cs → IsPart (pairs_text cs)
pairs_part [] g = record { pen = tt; front = tt; back = tt }
pairs_part (c ∷ cs) g =
    record {
      pen = both_pen (pair_text c) (flat_map next_text cs) (pair_pen c g.0) (more_pen cs g.1);
      front = solid_of _ (front_more (pair_text c) (flat_map next_text cs) (pair_front c g.0));
      back = solid_of _ (more_back (pair_text c) cs (pair_back c g.0) g.1);
    }

put_good : (goes : StoredCookie → StoredCookie → Bool) (c : StoredCookie) (cs : List StoredCookie) → GoodCookie c → AllGood cs
    → AllGood (put_by goes c cs)
put_good goes c [] g h = (g, tt)
put_good goes c (x ∷ xs) g h = go (goes c x) (put_good goes c xs g h.1)
  where
    go : (b : Bool) → AllGood (put_by goes c xs) → AllGood (cond b (c ∷ x ∷ xs) (x ∷ put_by goes c xs))
    go true rest = (g, h)
    go false rest = (h.0, rest)

order_good : (goes : StoredCookie → StoredCookie → Bool) (cs : List StoredCookie) → AllGood cs → AllGood (in_order goes cs)
order_good goes [] h = tt
order_good goes (x ∷ xs) h = put_good goes x (in_order goes xs) h.0 (order_good goes xs h.1)

-- what a jar of good cookies sends
pub sent_part : (rules : RuleSet) (url : Parts) (now : ℕ) (cs : List StoredCookie) → AllByRecursion GoodCookie cs
    → IsPart (jar_text rules url now cs)
unfolding jar_text
sent_part rules url now cs g =
    pairs_part (cookies_sent rules url now cs)
    (order_good _ (filter (is_sent rules url now) cs) (all_kept GoodCookie (is_sent rules url now) cs g))

-- ---- a jar

abbrev pub GoodChange : CookieChange → Type 0
GoodChange (Stored cookie) = GoodCookie cookie
GoodChange (Gone key) = ⊤

with_good : (cs : List StoredCookie) (c : StoredCookie) → AllGood cs → GoodCookie c → AllGood (with_cookie cs c)
with_good [] c h g = (g, tt)
with_good (x ∷ xs) c h g = go (same_key c x) (with_good xs c h.1 g)
  where
    go : (b : Bool) → AllGood (with_cookie xs c) → AllGood (cond b (c ∷ xs) (x ∷ with_cookie xs c))
    go true rest = (g, h.1)
    go false rest = (h.0, rest)

changed_good : (cs : List StoredCookie) (change : CookieChange) → AllGood cs → GoodChange change → AllGood (changed cs change)
changed_good cs (Stored cookie) h g = with_good cs cookie h g
changed_good cs (Gone key) h g = all_kept GoodCookie (λ c. not (is_key key c)) cs h

by_good : (cs : List StoredCookie) (changes : List CookieChange) → AllGood cs → AllByRecursion GoodChange changes
    → AllGood (changed_by cs changes)
by_good cs [] h g = h
by_good cs (change ∷ changes) h g = by_good (changed cs change) changes (changed_good cs change h g.0) g.1

pub standing_good : (changes : List CookieChange) → AllByRecursion GoodChange changes → AllByRecursion GoodCookie (standing changes)
unfolding standing
standing_good changes g = by_good [] changes tt g

gone_good : (o : Option CookieKey) → AllByRecursion GoodChange (cons_option (option_map Gone o) [])
gone_good None = tt
gone_good (Some key) = (tt, tt)

pub changes_good : (rules : RuleSet) (now : ℕ) (cs new : List StoredCookie) → AllByRecursion GoodCookie new
    → AllByRecursion GoodChange (changes_from rules now cs new)
changes_good rules now cs [] g = tt
changes_good rules now cs (c ∷ more) g =
    all_both GoodChange (changes_with rules now cs c) (changes_from rules now (changed_by cs (changes_with rules now cs c)) more)
    (g.0, gone_good _) (changes_good rules now (changed_by cs (changes_with rules now cs c)) more g.1)

-- ---- what is read of a field

taken_all : {A : Type 0} (P : A → Type 0) (n : ℕ) (xs : List A) → AllByRecursion P xs → AllByRecursion P (take n xs)
taken_all P zero xs h = tt
taken_all P (suc n) [] h = tt
taken_all P (suc n) (x ∷ xs) h = (h.0, taken_all P n xs h.1)

dropped_all : {A : Type 0} (P : A → Type 0) (n : ℕ) (xs : List A) → AllByRecursion P xs → AllByRecursion P (drop n xs)
dropped_all P zero xs h = h
dropped_all P (suc n) [] h = tt
dropped_all P (suc n) (x ∷ xs) h = dropped_all P n xs h.1

solid_taken : (n : ℕ) (xs : List ℕ) → IsSolid xs → IsSolid (take n xs)
solid_taken zero xs s = tt
solid_taken (suc n) [] s = tt
solid_taken (suc n) (x ∷ xs) s = s

solid_dropped : (xs : List ℕ) → IsSolid (drop (prefix_len is_blank xs) xs)
solid_dropped [] = tt
solid_dropped (x ∷ xs) = go (is_blank x) refl (solid_dropped xs)
  where
    go : (b : Bool) → is_blank x ≡ b → IsSolid (drop (prefix_len is_blank xs) xs)
        → IsSolid (drop (cond b (1 + prefix_len is_blank xs) 0) (x ∷ xs))
    go true is rest =
        let next : suc (prefix_len is_blank xs) ≡ 1 + prefix_len is_blank xs = omega arith in
        subst (λ n. IsSolid (drop n (x ∷ xs))) next rest
    go false is rest = is

within : (xs : List ℕ) → prefix_len is_blank xs ≤ length xs
within [] = omega arith
within (x ∷ xs) = go (is_blank x) (within xs)
  where
    go : (b : Bool) → prefix_len is_blank xs ≤ length xs → cond b (1 + prefix_len is_blank xs) 0 ≤ suc (length xs)
    go true h = omega (arith, h)
    go false h = omega arith

-- what is left without the end, from behind
from_behind : (ys : List ℕ) (k : ℕ) → k ≤ length ys → reverse (take (length ys - k) ys) ≡ drop k (reverse ys)
from_behind ys k few =
    let xs : List ℕ = reverse ys in
    let len : length (reverse (drop k xs)) ≡ length ys - k =
    length-reverse (drop k xs) ∙ length-drop k xs ∙ ap (λ n. n - k) (length-reverse ys) in
    let whole : ys ≡ reverse (drop k xs) ++ reverse (take k xs) =
    sym (twice ys) ∙ ap reverse (sym (take-append-drop k xs)) ∙ reverse-append (take k xs) (drop k xs) in
    ap reverse (ap (λ l. take (length ys - k) l) whole ∙ take_at (reverse (drop k xs)) (reverse (take k xs)) (length ys - k) len)
    ∙ twice (drop k xs)

trimmed_part : (xs : List ℕ) → ArePen xs → IsPart (trimmed xs)
unfolding trimmed
trimmed_part xs pen =
    let ys : List ℕ = trimmed_front xs in
    let k : ℕ = suffix_len is_blank ys in
    let few : k ≤ length ys = subst (λ n. k ≤ n) (length-reverse ys) (within (reverse ys)) in
    record {
      pen = taken_all IsPen (length ys - k) ys (dropped_all IsPen (prefix_len is_blank xs) xs pen);
      front = solid_taken (length ys - k) ys (solid_dropped xs);
      back = subst IsSolid (sym (from_behind ys k few)) (solid_dropped (reverse ys));
    }

split_all : (p : ℕ → Bool) (xs : List ℕ) → ArePen xs → AllByRecursion ArePen (slice_split p xs)
split_all p [] pen = (tt, tt)
split_all p (x ∷ xs) pen = go (p x) (split_all p xs pen.1)
  where
    onto : (ys : List (List ℕ)) → AllByRecursion ArePen ys → AllByRecursion ArePen (onto_first x ys)
    onto [] h = ((pen.0, tt), tt)
    onto (y ∷ ys) h = ((pen.0, h.0), h.1)

    go : (b : Bool) → AllByRecursion ArePen (slice_split p xs)
        → AllByRecursion ArePen (cond b ([] ∷ slice_split p xs) (onto_first x (slice_split p xs)))
    go true rest = (tt, rest)
    go false rest = onto (slice_split p xs) rest

record GoodSet (raw : SetCookie) : Type 0 where
  named : Begins raw.name
  name : IsPart raw.name
  value : IsPart raw.value

record IsPair (r : List ℕ × List ℕ) : Type 0 where
  name : IsPart r.0
  value : IsPart r.1

pair_read : (pair : List ℕ) → ArePen pair → IfSo IsPair (named_value pair)
pair_read pair pen = go (position (λ b. b == 61) pair)
  where
    go : (o : Option ℕ) → IfSo IsPair (option_map (λ (r : List ℕ × List ℕ). (trimmed r.0, trimmed r.1))
        (option_map (λ i. (take i pair, drop (i + 1) pair)) o))
    go None = tt
    go (Some i) =
        record {
          name = trimmed_part (take i pair) (taken_all IsPen i pair pen);
          value = trimmed_part (drop (i + 1) pair) (dropped_all IsPen (i + 1) pair pen);
        }

begins_some : (xs : List ℕ) → (length xs == 0) ≡ false → IsSolid xs → Begins xs
begins_some [] some solid = let no : true ≡ false = some in absurd (cc)
begins_some (x ∷ xs) some solid = solid

cookie_read : (pair : List ℕ) (said : Attributes) → ArePen pair → IfSo GoodSet (named_cookie pair said)
cookie_read pair said pen =
    some_then IsPair GoodSet _ (named_value pair) (pair_read pair pen)
    (λ r p. cond_both (length r.0 == 0) None (Some (cookie_with r.0 r.1 said)) (IfSo GoodSet) (λ t. tt)
    (λ f. record { named = begins_some r.0 f p.name.front; name = p.name; value = p.value }))

parts_read : (parts : List (List ℕ)) → AllByRecursion ArePen parts → IfSo GoodSet (cookie_of_parts parts)
parts_read [] pen = tt
parts_read (pair ∷ parts) pen = cookie_read pair (attributes_of no_attributes parts) pen.0

taken_byte : (b : ℕ) → b < 2 ^ 8 → is_refused b ≡ false → IsPen b
taken_byte b small is = record { value = grind (arith, nat_tests); byte = small }

taken_bytes : (xs : List ℕ) → AreBytes xs → list_any is_refused xs ≡ false → ArePen xs
taken_bytes [] all is = tt
taken_bytes (x ∷ xs) all is =
    let both = or_parts (is_refused x) (list_any is_refused xs) is in (taken_byte x all.0 both.0, taken_bytes xs all.1 both.1)

field_read : (field : List ℕ) → AreBytes field → IfSo GoodSet (set_cookie_of field)
field_read field all =
    cond_both (list_any is_refused field) None _ (IfSo GoodSet) (λ t. tt)
    (λ f. parts_read (slice_split (λ b. b == 59) field) (split_all (λ b. b == 59) field (taken_bytes field all f)))

stored_read : (rules : RuleSet) (url : Parts) (now : ℕ) (raw : SetCookie) → GoodSet raw → IfSo GoodCookie (cookie_of rules url now raw)
unfolding stored_from
stored_read rules url now raw g = go (scope_of rules url raw)
  where
    go : (o : Option Bool) → IfSo GoodCookie (option_map (stored_from url now raw) o)
    go None = tt
    go (Some host_only) = record { named = g.named; name = g.name; value = g.value }

one_read : (rules : RuleSet) (url : Parts) (now : ℕ) (field : List ℕ) → AreBytes field → IfSo GoodCookie (cookie_from rules url now field)
one_read rules url now field all =
    some_then GoodSet GoodCookie (cookie_of rules url now) (set_cookie_of field) (field_read field all)
    (λ raw g. stored_read rules url now raw g)

-- the cookies that fields of bytes store
pub fields_read : (rules : RuleSet) (url : Parts) (now : ℕ) (fields : List (List ℕ)) → AllByRecursion AreBytes fields
    → AllByRecursion GoodCookie (cookies_from rules url now fields)
fields_read rules url now [] all = tt
fields_read rules url now (field ∷ fields) all =
    go (cookie_from rules url now field) (one_read rules url now field all.0) (fields_read rules url now fields all.1)
  where
    go : (o : Option StoredCookie) → IfSo GoodCookie o → AllByRecursion GoodCookie (cookies_from rules url now fields)
        → AllByRecursion GoodCookie (cons_option o (cookies_from rules url now fields))
    go None g rest = rest
    go (Some c) g rest = (g, rest)
