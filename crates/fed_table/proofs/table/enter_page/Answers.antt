use Rattle.std.proofs.Common.{◌≡◌, ◌++◌, ℕ, List, [], ◌∷◌, Option, Some, None, Result, Ok, Err, OnErr, option_to_list, IfNone, sym, ◌∙◌}
use Rattle.std.proofs.lemmas.List.{same_from_push, append-nil}
use Rattle.fed_table.proofs.table.enter_page.Goals as goal

-- a list with one more that is taken out is the list
taken_back : (left pages : List ℕ) (page : ℕ) (last : Option ℕ) → IfNone last (pages ++ page ∷ [] ≡ [])
    → pages ++ page ∷ [] ≡ left ++ option_to_list last → left ≡ pages
taken_back left [] page None none parts = cc
taken_back left (first ∷ pages) page None none parts = cc
taken_back left pages page (Some number) none parts = sym (same_from_push pages left page number parts).0

whatever : {T E P : Type 0} (r : Result T E) → P → OnErr r P
whatever (Ok value) p = tt
whatever (Err error) p = p

pub returns-then-is_err-clause-err_keys : goal.returns-then-is_err-clause-err_keys
returns-then-is_err-clause-err_keys g c =
    whatever c.add_page_list-added.result
    (taken_back c.take_last.new.self c.args.pages.now c.args.page c.take_last.result
    (rw (sym c.in_ok-insert.ensures.ok) c.take_last.ensures.none)
    (sym c.in_ok-insert.ensures.ok ∙ c.take_last.ensures.left))
