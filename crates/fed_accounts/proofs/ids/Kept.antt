-- What is kept of entries, one after another.
use Rattle.std.proofs.Common.{◌≡◌, ℕ, Bool, true, false, cond, not, List, [], ◌∷◌, ◌++◌, ◌||◌, ◌==◌, map, length}
use Rattle.std.proofs.Common.{refl, sym, ap, ◌∙◌}
use Rattle.std.proofs.Common.{append_assoc, append-nil, arith}
use Rattle.std.specs.Prelude.{bytes_eq, filter, codes, Option, Some, None, option_map, ok_or, Result, Ok, Err, if◌then◌else◌}
use Rattle.std.specs.List.{list_any, IsDistinct}
use Rattle.std.proofs.lemmas.List.{map-append}
use Rattle.std.proofs.lemmas.List.Elements.{filter-append}
use Rattle.indexmap.specs.IndexSet.{insert_key}
use Rattle.serde_json.specs.Data.{Data, Items, no_items, item}
use Rattle.fed_reply.specs.declared.member.Member.{Member}
use Rattle.fed_reply.specs.declared.member.Member.TheVariants.{Absent, Wrong, Is}
use Rattle.fed_reply.specs.declared.step.ReplyStep.{ReplyStep}
use Rattle.fed_reply.specs.declared.step.ReplyStep.TheVariants.{Json}
use Rattle.fed_reply.specs.Json.{ReplyJsonOf}
use Rattle.fed_reply.specs.Members.{list_under}
use Rattle.fed_reply.specs.Shape.{required}
use Rattle.fed_reply.specs.Steps.{◌>>=◌, and_then, with_ok, with_step}
use Rattle.fed_accounts.specs.declared.account.Account.{Account}
use Rattle.fed_accounts.specs.declared.read.Kept.{Kept}
use Rattle.fed_accounts.specs.declared.step.AccountsStep.{AccountsStep}
use Rattle.fed_accounts.specs.declared.step.AccountsStep.TheVariants.{Reply, Shape, Empty}
use Rattle.fed_accounts.specs.Accounts.{same_id, first_of_each_id}
use Rattle.fed_accounts.specs.Hints.{is_hinted, some_left, Hinted, HintedOf}
use Rattle.fed_accounts.specs.Kept.{kept_of, kept_entries, kept_in, settled}
use Rattle.fed_accounts.specs.Read.{each, account_of, with_some, AccountsOf}
use Rattle.fed_accounts.proofs.ids.Distinct.{some_distinct}
use Rattle.fed_accounts.proofs.ids.Firsts.{firsts_more}

-- the ids are those of the accounts that were found, what is kept is kept of them, and entries are left
pub record Keeps (login domain : Option (List ℕ)) (all : Items) (keys : List (List ℕ)) (accounts : List Account) (left : Items) : Type 0
  where
    pub found : List Account
    pub is : each account_of all ≡ with_ok (λ more. found ++ more) (each account_of left)
    pub ids : keys ≡ map (λ f. f.id) (first_of_each_id found)
    pub kept : accounts ≡ filter (is_hinted login domain) (first_of_each_id found)

nothing_more : (r : Result (List Account) AccountsStep) → r ≡ with_ok (λ more. [] ++ more) r
nothing_more (Ok more) = refl
nothing_more (Err step) = refl

pub keeps_begin : (login domain : Option (List ℕ)) (all : Items) {ids : List (List ℕ)} {kept : List Account} → ids ≡ []
    → kept ≡ []
    → Keeps login domain all ids kept all
keeps_begin login domain all i k = record { found = []; is = nothing_more (each account_of all); ids = i; kept = k }

one_more : (found : List Account) (a : Account) (r : Result (List Account) AccountsStep)
    → with_ok (λ more. found ++ more) (with_ok (λ more. a ∷ more) r) ≡ with_ok (λ more. (found ++ a ∷ []) ++ more) r
one_more found a (Ok more) = ap (λ l. Ok l) (sym (append_assoc found (a ∷ []) more))
one_more found a (Err step) = refl

chained : (a : Account) (r : Result (List Account) AccountsStep) → (r >>= (λ more. Ok (a ∷ more))) ≡ with_ok (λ more. a ∷ more) r
chained a (Ok more) = refl
chained a (Err step) = refl

read_first : (d : Data) (left : Items) (a : Account) → Ok a ≡ account_of d
    → each account_of (item d left) ≡ with_ok (λ more. a ∷ more) (each account_of left)
read_first d left a is =
    ap (λ r. r >>= (λ b. each account_of left >>= (λ more. Ok (b ∷ more)))) (sym is) ∙ chained a (each account_of left)

refused_first : (d : Data) (left : Items) (step : AccountsStep) → Err step ≡ account_of d → each account_of (item d left) ≡ Err step
refused_first d left step is = ap (λ r. r >>= (λ b. each account_of left >>= (λ more. Ok (b ∷ more)))) (sym is)

-- an entry with no account gives its step
pub keeps_refused : {login domain : Option (List ℕ)} {all left rest : Items} {ids : List (List ℕ)} {kept : List Account} {d : Data}
    {step : AccountsStep}
    → Keeps login domain all ids kept left → left ≡ item d rest → Err step ≡ account_of d
    → kept_entries login domain all ≡ Err step
keeps_refused {login = login} {domain = domain} {rest = rest} {d = d} {step = step} here first is =
    ap (with_ok (kept_of login domain)) (here.is ∙ ap (λ l. with_ok (λ more. here.found ++ more) (each account_of l)) first
    ∙ ap (with_ok (λ more. here.found ++ more)) (refused_first d rest step is))

among : (a : Account) (found : List Account) → list_any (bytes_eq a.id) (map (λ f. f.id) found) ≡ list_any (same_id a) found
among a [] = refl
among a (f ∷ found) = ap (λ b. bytes_eq a.id f.id || b) (among a found)

read_one : (all left rest : Items) (d : Data) (a : Account) (found : List Account)
    → each account_of all ≡ with_ok (λ more. found ++ more) (each account_of left)
    → left ≡ item d rest → Ok a ≡ account_of d → each account_of all
    ≡ with_ok (λ more. (found ++ a ∷ []) ++ more) (each account_of rest)
read_one all left rest d a found here first is =
    here ∙ ap (λ l. with_ok (λ more. found ++ more) (each account_of l)) first
    ∙ ap (with_ok (λ more. found ++ more)) (read_first d rest a is)
    ∙ one_more found a (each account_of rest)

-- ---- the ids, as the code holds them

among_ids : {B : Type 0} (now : B → List ℕ) (v : B) (keys : List B)
    → list_any (bytes_eq (now v)) (map now keys) ≡ list_any (λ k. bytes_eq (now v) (now k)) keys
among_ids now v [] = refl
among_ids now v (k ∷ keys) = ap (λ b. bytes_eq (now v) (now k) || b) (among_ids now v keys)

inserted_id : {B : Type 0} (now : B → List ℕ) (v : B) (keys : List B) (b : Bool)
    → list_any (λ k. bytes_eq (now v) (now k)) keys ≡ b
    → map now (insert_key (λ x y. bytes_eq (now x) (now y)) keys v) ≡ cond b (map now keys) (map now keys ++ now v ∷ [])
inserted_id now v keys true is = ap (λ b. map now (cond b keys (keys ++ v ∷ []))) is
inserted_id now v keys false is = ap (λ b. map now (cond b keys (keys ++ v ∷ []))) is ∙ map-append now keys (v ∷ [])

not_false : (b : Bool) → not b ≡ true → b ≡ false
not_false true e = cc
not_false false e = refl

not_true : (b : Bool) → not b ≡ false → b ≡ true
not_true true e = refl
not_true false e = cc

-- an account has the id of a first one where its id is among those that the code holds
first_has : {B : Type 0} (now : B → List ℕ) (v : B) (keys : List B) (a : Account) (found : List Account)
    → map now keys ≡ map (λ f. f.id) (first_of_each_id found)
    → now v ≡ a.id → list_any (same_id a) (first_of_each_id found) ≡ list_any (λ k. bytes_eq (now v) (now k)) keys
first_has now v keys a found ids id =
    sym (among a (first_of_each_id found)) ∙ ap (λ i. list_any (bytes_eq i) (map (λ f. f.id) (first_of_each_id found))) (sym id)
    ∙ ap (list_any (bytes_eq (now v))) (sym ids) ∙ among_ids now v keys

-- an account whose id is new
pub keeps_new : {B : Type 0} (now : B → List ℕ) (v : B) {login domain : Option (List
    ℕ)} {all left rest : Items} (keys : List B) {new_keys : List B}
    → {kept new_kept : List Account} {d : Data} {a : Account} → Keeps login domain all (map now keys) kept left → left ≡ item d rest
    → Ok a ≡ account_of d → now v ≡ a.id
    → new_keys ≡ insert_key (λ x y. bytes_eq (now x) (now y)) keys v → not (list_any (λ k. bytes_eq (now v) (now k)) keys) ≡ true
    → new_kept ≡ kept ++ filter (is_hinted login domain) (a ∷ []) → Keeps login domain all (map now new_keys) new_kept rest
keeps_new now v {login = login} {domain = domain} {all = all} {left = left} {rest = rest} keys {d = d} {a =
    a} here first is id inserted added pushed =
    record {
      found = here.found ++ a ∷ [];
      is = read_one all left rest d a here.found here.is first is;
      ids =
          ap (map now) inserted ∙ inserted_id now v keys false other ∙ ap (λ l. l ++ now v ∷ []) here.ids
          ∙ ap (λ i. map (λ f. f.id) firsts ++ i ∷ []) id ∙ sym (map-append (λ f. f.id) firsts (a ∷ []))
          ∙ ap (map (λ f. f.id)) (sym grown);
      kept =
          pushed ∙ ap (λ l. l ++ filter hinted (a ∷ [])) here.kept ∙ sym (filter-append hinted firsts (a ∷ []))
          ∙ ap (filter hinted) (sym grown);
    }
  where
    hinted : Account → Bool
    hinted = is_hinted login domain

    firsts : List Account
    firsts = first_of_each_id here.found

    other : list_any (λ k. bytes_eq (now v) (now k)) keys ≡ false
    other = not_false (list_any (λ k. bytes_eq (now v) (now k)) keys) added

    none : list_any (same_id a) firsts ≡ false
    none = first_has now v keys a here.found here.ids id ∙ other

    grown : first_of_each_id (here.found ++ a ∷ []) ≡ firsts ++ a ∷ []
    grown = firsts_more here.found a ∙ ap (λ b. cond b firsts (firsts ++ a ∷ [])) none

-- an account whose id was found
pub keeps_known : {B : Type 0} (now : B → List ℕ) (v : B) {login domain : Option (List
    ℕ)} {all left rest : Items} (keys : List B) {new_keys : List B}
    → {kept : List Account} {d : Data} {a : Account} → Keeps login domain all (map now keys) kept left → left ≡ item d rest
    → Ok a ≡ account_of d → now v ≡ a.id
    → new_keys ≡ insert_key (λ x y. bytes_eq (now x) (now y)) keys v → not (list_any (λ k. bytes_eq (now v) (now k)) keys) ≡ false
    → Keeps login domain all (map now new_keys) kept rest
keeps_known now v {login = login} {domain = domain} {all = all} {left = left} {rest = rest} keys {d = d} {a =
    a} here first is id inserted known =
    record {
      found = here.found ++ a ∷ [];
      is = read_one all left rest d a here.found here.is first is;
      ids = ap (map now) inserted ∙ inserted_id now v keys true one ∙ here.ids ∙ ap (map (λ f. f.id)) (sym same);
      kept = here.kept ∙ ap (filter (is_hinted login domain)) (sym same);
    }
  where
    firsts : List Account
    firsts = first_of_each_id here.found

    one : list_any (λ k. bytes_eq (now v) (now k)) keys ≡ true
    one = not_true (list_any (λ k. bytes_eq (now v) (now k)) keys) known

    same : first_of_each_id (here.found ++ a ∷ []) ≡ firsts
    same =
        firsts_more here.found a ∙ ap (λ b. cond b firsts (firsts ++ a ∷ [])) (first_has now v keys a here.found here.ids id ∙ one)

not_none : {X : Type 0} (x : X) (xs : List X) → (length (x ∷ xs) == 0) ≡ false
not_none x xs = grind arith

some_ids : (found : List Account) → not (length (map (λ f. f.id) (first_of_each_id found)) == 0) ≡ not (length found == 0)
some_ids [] = refl
some_ids (f ∷ found) =
    ap not (not_none f.id (map (λ a. a.id) (filter (λ b. not (same_id b f)) (first_of_each_id found))) ∙ sym (not_none f found))

-- when no entry is left
pub keeps_end : {login domain : Option (List ℕ)} {all left : Items} {ids : List (List ℕ)} {kept : List Account} {some : Bool}
    → Keeps login domain all ids kept left → left ≡ no_items → some ≡ not (length ids == 0)
    → kept_entries login domain all ≡ Ok (record { some = some; accounts = kept })
keeps_end {login = login} {domain = domain} {kept = kept} {some = some} here none is =
    ap (with_ok (kept_of login domain)) (here.is ∙ ap (λ l. with_ok (λ more. here.found ++ more) (each account_of l)) none
    ∙ ap (λ l. Ok l) (append-nil here.found))
    ∙ ap (λ k. Ok (record { some = not (length here.found == 0); accounts = k })) (sym here.kept)
    ∙ ap (λ s. Ok (record { some = s; accounts = kept })) (sym (is ∙ ap (λ l. not (length l == 0)) here.ids ∙ some_ids here.found))

pub keeps_distinct : {login domain : Option (List ℕ)} {all left : Items} {ids : List (List ℕ)} {kept : List Account}
    → Keeps login domain all ids kept left → IsDistinct same_id kept
keeps_distinct {login = login} {domain = domain} here = rw here.kept (some_distinct (is_hinted login domain) here.found)

-- ---- the whole answer

some_settled : (login domain : Option (List ℕ)) (accounts : List Account)
    → (with_some accounts >>= (λ some. Hinted some login domain)) ≡ settled (kept_of login domain accounts)
unfolding Hinted
some_settled login domain [] = refl
some_settled login domain (a ∷ accounts) =
    ap (λ b. if not b then some_left (filter (is_hinted login domain) (first_of_each_id (a ∷ accounts))) else Err Empty)
    (sym (not_none a accounts))

settles : (login domain : Option (List ℕ)) (r : Result (List Account) AccountsStep)
    → ((r >>= with_some) >>= (λ some. Hinted some login domain)) ≡ and_then settled (with_ok (kept_of login domain) r)
settles login domain (Ok accounts) = some_settled login domain accounts
settles login domain (Err step) = refl

settles_under : (login domain : Option (List ℕ)) (m : Member Items)
    → ((required Shape m >>= (λ es. each account_of es >>= with_some)) >>= (λ some. Hinted some login domain))
    ≡ and_then settled (required Shape m >>= kept_entries login domain)
settles_under login domain Absent = refl
settles_under login domain Wrong = refl
settles_under login domain (Is entries) = settles login domain (each account_of entries)

-- what is kept of a file is the answer
pub hinted_by : (raw : List ℕ) (login domain : Option (List ℕ)) (file : Data) (kept : Result Kept AccountsStep)
    → ReplyJsonOf raw ≡ Ok file → kept_in login domain file ≡ kept → HintedOf raw login domain ≡ and_then settled kept
unfolding HintedOf AccountsOf
hinted_by raw login domain file kept read is =
    ap (λ r. (with_step Reply r >>= (λ f. required Shape (list_under (codes "accounts") f) >>= (λ es. each account_of es >>= with_some)))
    >>= (λ some. Hinted some login domain)) read
    ∙ settles_under login domain (list_under (codes "accounts") file) ∙ ap (and_then settled) is

-- the step of the reply is the answer
pub reply_refused : (raw : List ℕ) (login domain : Option (List ℕ)) (step : ReplyStep) → ReplyJsonOf raw ≡ Err step
    → HintedOf raw login domain ≡ Err (Reply step)
unfolding HintedOf AccountsOf
reply_refused raw login domain step read =
    ap (λ r. (with_step Reply r >>= (λ f. required Shape (list_under (codes "accounts") f) >>= (λ es. each account_of es >>= with_some)))
    >>= (λ some. Hinted some login domain)) read

some_whole : (login domain : Option (List ℕ)) (whole : Option Data) (kept : Result Kept AccountsStep)
    → option_map (kept_in login domain) whole ≡ Some kept → (file : Data) × (whole ≡ Some file) × (kept_in login domain file ≡ kept)
some_whole login domain None kept e = absurd (cc)
some_whole login domain (Some file) kept e = (file, refl, cc)

-- the same by the text that the reply opens
pub hinted_whole : (raw : List ℕ) (login domain : Option (List ℕ)) (whole : Option Data) (kept : Result Kept AccountsStep)
    → ReplyJsonOf raw ≡ ok_or whole Json → option_map (kept_in login domain) whole ≡ Some kept
    → HintedOf raw login domain ≡ and_then settled kept
hinted_whole raw login domain whole kept opened is =
    let file = some_whole login domain whole kept is in
    hinted_by raw login domain file.0 kept (opened ∙ ap (λ o. ok_or o Json) file.1) file.2

pub hinted_none : (raw : List ℕ) (login domain : Option (List ℕ)) (whole : Option Data) → ReplyJsonOf raw ≡ ok_or whole Json
    → whole ≡ None
    → HintedOf raw login domain ≡ Err (Reply Json)
hinted_none raw login domain whole opened none = reply_refused raw login domain Json (opened ∙ ap (λ o. ok_or o Json) none)

-- ---- without hints

all_left : (accounts : List Account) → filter (is_hinted None None) accounts ≡ accounts
all_left [] = refl
all_left (a ∷ accounts) = ap (λ l. a ∷ l) (all_left accounts)

all_some : (r : Result (List Account) AccountsStep) → ((r >>= with_some) >>= (λ some. Hinted some None None)) ≡ (r >>= with_some)
unfolding Hinted
all_some (Ok []) = refl
all_some (Ok (a ∷ accounts)) = ap (λ l. Ok (a ∷ l)) (all_left (filter (λ b. not (same_id b a)) (first_of_each_id accounts)))
all_some (Err step) = refl

all_listed : (m : Member Items)
    → ((required Shape m >>= (λ es. each account_of es >>= with_some)) >>= (λ some. Hinted some None None))
    ≡ (required Shape m >>= (λ es. each account_of es >>= with_some))
all_listed Absent = refl
all_listed Wrong = refl
all_listed (Is entries) = all_some (each account_of entries)

all_read : (r : Result Data ReplyStep)
    → ((with_step Reply r >>= (λ f. required Shape (list_under (codes "accounts") f) >>= (λ es. each account_of es >>= with_some))) >>=
    (λ some. Hinted some None None))
    ≡ (with_step Reply r >>= (λ f. required Shape (list_under (codes "accounts") f) >>= (λ es. each account_of es >>= with_some)))
all_read (Ok file) = all_listed (list_under (codes "accounts") file)
all_read (Err step) = refl

-- with no hint all accounts are kept
pub no_hints : (raw : List ℕ) → HintedOf raw None None ≡ AccountsOf raw
unfolding HintedOf AccountsOf
no_hints raw = all_read (ReplyJsonOf raw)
