-- Two origins have one number exactly where they agree with all that was named before.
use Rattle.std.proofs.Common.{◌≡◌, ℕ, Bool, true, false, cond, not, ◌+◌, ◌&&◌, ◌||◌, ◌↔◌, List, [], ◌∷◌}
use Rattle.std.proofs.Common.{◌++◌, map, refl, sym, ap, ap₂}
use Rattle.std.proofs.Common.{subst, ◌∙◌, arith}
use Rattle.std.proofs.lemmas.Bool.Decides.{nat_tests}
use Rattle.std.specs.Prelude.{⊤, Option, Some, None, IfSome, option_to_list}
use Rattle.std.specs.List.{AllByRecursion, list_any, position_or_len}
use Rattle.std.specs.Option.{option_map_or}
use Rattle.fed_origin.specs.declared.origin.Origin.{Origin}
use Rattle.fed_origin.specs.Origin.{same_origin}
use Rattle.fed_status.proofs.lists.Same.{same_origin_is, same_origin_self}
use Rattle.fed_twin.specs.Twin.{AreOneToOne}
use Rattle.fed_twin.specs.Origins.{Named, nobody, and_named, have_one_number, all_have, NumbersDecide, Agree}

abbrev pub Pair : Type 0
Pair = Origin × Origin

flip_origin : (a b : Origin) → same_origin a b ≡ same_origin b a
flip_origin a b = go (same_origin a b) (same_origin b a) refl refl
  where
    go : (x y : Bool) → same_origin a b ≡ x → same_origin b a ≡ y → x ≡ y
    go true true e k = refl
    go false false e k = refl
    go true false e k = sym (subst (λ o. same_origin o a ≡ true) (same_origin_is a b e) (same_origin_self a)) ∙ k
    go false true e k = sym e ∙ subst (λ o. same_origin o b ≡ true) (same_origin_is b a k) (same_origin_self b)

-- ---- members

pub data Member (q : Pair) : List Pair → Type 0 where
  Here : (D : List Pair) → Member q (q ∷ D)
  There : (d : Pair) → (D : List Pair) → Member q D → Member q (d ∷ D)

pub all_at : (P : Pair → Type 0) (q : Pair) {D : List Pair} → AllByRecursion P D → Member q D → P q
all_at P q h (Here D) = h.0
all_at P q h (There d D m) = all_at P q h.1 m

in_front : (q : Pair) {D : List Pair} (E : List Pair) → Member q D → Member q (D ++ E)
in_front q E (Here D) = Here (D ++ E)
in_front q E (There d D m) = There d (D ++ E) (in_front q E m)

at_end : (p : Pair) (D : List Pair) → Member p (D ++ p ∷ [])
at_end p [] = Here []
at_end p (d ∷ D) = There d (D ++ p ∷ []) (at_end p D)

pub each : {P Q : Pair → Type 0} → ((q : Pair) → P q → Q q) → (ps : List Pair) → AllByRecursion P ps → AllByRecursion Q ps
each f [] h = tt
each f (p ∷ ps) h = (f p h.0, each f ps h.1)

all_append : (P : Pair → Type 0) (xs ys : List Pair) → AllByRecursion P xs → AllByRecursion P ys → AllByRecursion P (xs ++ ys)
all_append P [] ys h k = k
all_append P (x ∷ xs) ys h k = (h.0, all_append P xs ys h.1 k)

-- ---- pairs that differ on both sides

abbrev pub Differ : Pair → Pair → Type 0
Differ p q = (same_origin p.0 q.0 ≡ false) × (same_origin p.1 q.1 ≡ false)

abbrev pub AreApart : List Pair → Type 0
AreApart [] = ⊤
AreApart (d ∷ D) = AllByRecursion (Differ d) D × AreApart D

abbrev pub firsts : List Pair → List Origin
firsts D = map (λ d. d.0) D

abbrev pub seconds : List Pair → List Origin
seconds D = map (λ d. d.1) D

abbrev pub place_first : Pair → List Pair → ℕ
place_first p D = position_or_len (same_origin p.0) (firsts D)

abbrev pub place_second : Pair → List Pair → ℕ
place_second p D = position_or_len (same_origin p.1) (seconds D)

-- who agrees with all has one number
agree_number : (p : Pair) (D : List Pair) → AllByRecursion (Agree p) D → place_first p D ≡ place_second p D
agree_number p [] h = refl
agree_number p (d ∷ D) h = ap₂ (λ b n. cond (not b) (1 + n) 0) h.0 (agree_number p D h.1)

-- and who has one number agrees with all
number_agrees : (p : Pair) (D : List Pair) → AreApart D → place_first p D ≡ place_second p D → AllByRecursion (Agree p) D
number_agrees p [] apart h = tt
number_agrees p (d ∷ D) apart h = go (same_origin p.0 d.0) (same_origin p.1 d.1) refl refl h (λ k. number_agrees p D apart.1 k)
  where
    go : (b c : Bool) → same_origin p.0 d.0 ≡ b → same_origin p.1 d.1 ≡ c
        → cond (not b) (1 + place_first p D) 0 ≡ cond (not c) (1 + place_second p D) 0
        → (place_first p D ≡ place_second p D → AllByRecursion (Agree p) D) → AllByRecursion (Agree p) (d ∷ D)
    go true true e k h' rest = (
      e ∙ sym k,
      each (λ q differ. (ap (λ o. same_origin o q.0) (same_origin_is p.0 d.0 e) ∙ differ.0) ∙ sym
          (ap (λ o. same_origin o q.1) (same_origin_is p.1 d.1 k) ∙ differ.1)) D apart.0,
    )
    go true false e k h' rest = absurd (omega (arith, h'))
    go false true e k h' rest = absurd (omega (arith, h'))
    go false false e k h' rest = (e ∙ sym k, rest (omega (arith, h')))

-- ---- the names of the pairs

abbrev pub named : List Pair → Named
named D = record { first = firsts D; second = seconds D }

number_decides : (p : Pair) (D : List Pair) → AreApart D → (have_one_number (named D) p ≡ true) ↔ AllByRecursion (Agree p) D
number_decides p D apart = (
  λ h. number_agrees p D apart (let e : place_first p D ≡ place_second p D = grind (arith, nat_tests, h) in e),
  λ h. let e = agree_number p D h in grind (arith, nat_tests, e),
)

any_agree : (p : Pair) (D : List Pair) → AllByRecursion (Agree p) D
    → list_any (same_origin p.0) (firsts D) ≡ list_any (same_origin p.1) (seconds D)
any_agree p [] h = refl
any_agree p (d ∷ D) h = ap₂ (λ a b. a || b) h.0 (any_agree p D h.1)

-- a pair that agrees with all, and whose first origin is named, is one of them
found : (p : Pair) (D : List Pair) → AllByRecursion (Agree p) D → list_any (same_origin p.0) (firsts D) ≡ true → Member p D
found p [] h is = absurd (let no : false ≡ true = is in cc)
found p (d ∷ D) h is = go (same_origin p.0 d.0) refl is (λ k. found p D h.1 k)
  where
    go : (b : Bool) → same_origin p.0 d.0 ≡ b → b || list_any (same_origin p.0) (firsts D) ≡ true
        → (list_any (same_origin p.0) (firsts D) ≡ true → Member p D) → Member p (d ∷ D)
    go true e k rest =
        let one : p ≡ d = λ i. (same_origin_is p.0 d.0 e i, same_origin_is p.1 d.1 (sym h.0 ∙ e) i) in
        subst (λ x. Member p (x ∷ D)) one (Here D)
    go false e k rest = There d D (rest k)

none_found : (p : Pair) (D : List Pair) → AllByRecursion (Agree p) D → list_any (same_origin p.0) (firsts D) ≡ false
    → AllByRecursion (λ d. Differ d p) D
none_found p [] h is = tt
none_found p (d ∷ D) h is = go (same_origin p.0 d.0) refl is (λ k. none_found p D h.1 k)
  where
    go : (b : Bool) → same_origin p.0 d.0 ≡ b → b || list_any (same_origin p.0) (firsts D) ≡ false
        → (list_any (same_origin p.0) (firsts D) ≡ false → AllByRecursion (λ d. Differ d p) D)
        → AllByRecursion (λ d. Differ d p) (d ∷ D)
    go true e k rest = absurd (let no : true ≡ false = k in cc)
    go false e k rest = ((flip_origin d.0 p.0 ∙ e, flip_origin d.1 p.1 ∙ sym h.0 ∙ e), rest k)

apart_end : (p : Pair) (D : List Pair) → AreApart D → AllByRecursion (λ d. Differ d p) D → AreApart (D ++ p ∷ [])
apart_end p [] apart h = (tt, tt)
apart_end p (d ∷ D) apart h = (all_append (Differ d) D (p ∷ []) apart.0 (h.0, tt), apart_end p D apart.1 h.1)

map_end : (g : Pair → Origin) (p : Pair) (D : List Pair) → map g (D ++ p ∷ []) ≡ map g D ++ g p ∷ []
map_end g p [] = refl
map_end g p (d ∷ D) = ap (λ os. g d ∷ os) (map_end g p D)

-- the pairs that stand for all that were named before
pub record StandFor (before D : List Pair) : Type 0 where
  pub apart : AreApart D
  pub covers : AllByRecursion (λ q. Member q D) before
  pub within : AllByRecursion (λ d. Member d before) D

record Next (before D : List Pair) (p : Pair) : Type 0 where
  pairs : List Pair
  names : named pairs ≡ and_named (named D) p
  stand : StandFor (p ∷ before) pairs

next : (before D : List Pair) → StandFor before D → (p : Pair) → AllByRecursion (Agree p) D → Next before D p
next before D s p h = go (list_any (same_origin p.0) (firsts D)) refl
  where
    go : (b : Bool) → list_any (same_origin p.0) (firsts D) ≡ b → Next before D p
    go true is =
        record {
          pairs = D;
          names = λ i. record {
            first = sym (ap (λ t. cond t (firsts D) (firsts D ++ p.0 ∷ [])) is) i;
            second = sym (ap (λ t. cond t (seconds D) (seconds D ++ p.1 ∷ [])) (sym (any_agree p D h) ∙ is)) i;
          };
          stand = record { apart = s.apart; covers = (found p D h is, s.covers); within = each (λ d m. There p before m) D s.within };
        }
    go false is =
        record {
          pairs = D ++ p ∷ [];
          names = λ i. record {
            first = (map_end (λ d. d.0) p D ∙ sym (ap (λ t. cond t (firsts D) (firsts D ++ p.0 ∷ [])) is)) i;
            second =
                (map_end (λ d. d.1) p D ∙ sym (ap (λ t. cond t (seconds D) (seconds D ++ p.1 ∷ []))
                (sym (any_agree p D h) ∙ is))) i;
          };
          stand = record {
            apart = apart_end p D s.apart (none_found p D h is);
            covers = (at_end p D, each (λ q m. in_front q (p ∷ []) m) before s.covers);
            within = all_append (λ d. Member d (p ∷ before)) D (p ∷ []) (each (λ d m. There p before m) D s.within) (Here before, tt);
          };
        }

-- ---- in turn

-- each pair agrees with those before it
abbrev pub InTurn : List Pair → List Pair → Type 0
InTurn before [] = ⊤
InTurn before (p ∷ ps) = AllByRecursion (Agree p) before × InTurn (p ∷ before) ps

and_both : (a b : Bool) → (a && b) ≡ true → (a ≡ true) × (b ≡ true)
and_both true b h = (refl, h)
and_both false b h = absurd (let no : false ≡ true = h in cc)

both_and : (a b : Bool) → a ≡ true → b ≡ true → (a && b) ≡ true
both_and a b h k = ap (λ x. x && b) h ∙ k

-- one pair more, where the rest is decided
one_more : (before D : List Pair) → StandFor before D → (p : Pair) (ps : List Pair)
    → ((D' : List Pair) → StandFor (p ∷ before) D' → (all_have (named D') ps ≡ true) ↔ InTurn (p ∷ before) ps)
    → (all_have (named D) (p ∷ ps) ≡ true) ↔ InTurn before (p ∷ ps)
one_more before D s p ps rest = (to, from)
  where
    decides : (have_one_number (named D) p ≡ true) ↔ AllByRecursion (Agree p) D
    decides = number_decides p D s.apart

    on : AllByRecursion (Agree p) D → (all_have (and_named (named D) p) ps ≡ true) ↔ InTurn (p ∷ before) ps
    on h = let n = next before D s p h in subst (λ x. (all_have x ps ≡ true) ↔ InTurn (p ∷ before) ps) n.names (rest n.pairs n.stand)

    to : all_have (named D) (p ∷ ps) ≡ true → InTurn before (p ∷ ps)
    to h =
        let parts = and_both (have_one_number (named D) p) (all_have (and_named (named D) p) ps) h in
        let here = decides.0 parts.0 in
        (each (λ q m. all_at (Agree p) q here m) before s.covers, (on here).0 parts.1)

    from : InTurn before (p ∷ ps) → all_have (named D) (p ∷ ps) ≡ true
    from h =
        let here : AllByRecursion (Agree p) D = each (λ d m. all_at (Agree p) d h.0 m) D s.within in
        both_and (have_one_number (named D) p) (all_have (and_named (named D) p) ps) (decides.1 here) ((on here).1 h.1)

in_turn : (ps before D : List Pair) → StandFor before D → (all_have (named D) ps ≡ true) ↔ InTurn before ps
in_turn [] before D s = (λ h. tt, λ h. refl)
in_turn (p ∷ ps) before D s = one_more before D s p ps (λ D' s'. in_turn ps (p ∷ before) D' s')

-- ---- in turn or at once

pub both_all : (P Q : Pair → Type 0) (ps : List Pair) → AllByRecursion P ps → AllByRecursion Q ps
    → AllByRecursion (λ q. P q × Q q) ps
both_all P Q [] h k = tt
both_all P Q (p ∷ ps) h k = ((h.0, k.0), both_all P Q ps h.1 k.1)

agree_flip : (p q : Pair) → Agree p q → Agree q p
agree_flip p q h = flip_origin q.0 p.0 ∙ h ∙ flip_origin p.1 q.1

pub at_once : (before ps : List Pair) → InTurn before ps
    → AllByRecursion (λ p. AllByRecursion (Agree p) before) ps × AllByRecursion (λ p. AllByRecursion (Agree p) ps) ps
at_once before [] h = (tt, tt)
at_once before (p ∷ ps) h =
    let more = at_once (p ∷ before) ps h.1 in (
      (h.0, each (λ q k. k.1) ps more.0),
      (
        (same_origin_self p.0 ∙ sym (same_origin_self p.1), each (λ q k. agree_flip q p k.0) ps more.0),
        each (λ q k. (k.0.0, k.1)) ps
            (both_all (λ q. AllByRecursion (Agree q) (p ∷ before)) (λ q. AllByRecursion (Agree q) ps) ps more.0 more.1),
      ),
    )

pub turn_by_turn : (before ps : List Pair) → AllByRecursion (λ p. AllByRecursion (Agree p) before) ps
    → AllByRecursion (λ p. AllByRecursion (Agree p) ps) ps → InTurn before ps
turn_by_turn before [] h k = tt
turn_by_turn before (p ∷ ps) h k = (
  h.0,
  turn_by_turn (p ∷ before) ps
      (each (λ q x. (x.0.0, x.1)) ps
      (both_all (λ q. AllByRecursion (Agree q)
      (p ∷ ps)) (λ q. AllByRecursion (Agree q) before) ps k.1 h.1)) (each (λ q x. x.1) ps k.1),
)

pub all_nothing : (ps : List Pair) → AllByRecursion (λ p. AllByRecursion (Agree p) []) ps
all_nothing [] = tt
all_nothing (p ∷ ps) = (tt, all_nothing ps)

pub numbers_decide_lem : NumbersDecide
numbers_decide_lem ps =
    let turns = in_turn ps [] [] (record { apart = tt; covers = tt; within = tt }) in
    (λ h. (at_once [] ps (turns.0 h)).1, λ h. turns.1 (turn_by_turn [] ps (all_nothing ps) h))

-- where origins are one to one, each pair has one number in the two scripts
pub one_number : (ps : List Pair) → AreOneToOne ps → (p : Pair) → Member p ps → place_first p ps ≡ place_second p ps
one_number ps h p m = agree_number p ps (all_at (λ q. AllByRecursion (Agree q) ps) p h m)

-- ---- the names that two scripts have so far

-- the names are those of pairs that stand for all that were named before
pub record NamesStandFor (before : List Pair) (n : Named) : Type 0 where
  pub pairs : List Pair
  pub names : named pairs ≡ n
  pub stand : StandFor before pairs

pub nobody_named : NamesStandFor [] nobody
nobody_named = record { pairs = []; names = refl; stand = record { apart = tt; covers = tt; within = tt } }

-- a pair has one number exactly where it agrees with all that were named before
number_agrees_before : (before : List Pair) (n : Named) → NamesStandFor before n → (p : Pair)
    → (have_one_number n p ≡ true) ↔ AllByRecursion (Agree p) before
number_agrees_before before n s p = (
  λ h. each (λ q m. all_at (Agree p) q
      ((number_decides p s.pairs s.stand.apart).0 (ap (λ x. have_one_number x p) s.names ∙ h)) m) before s.stand.covers,
  λ h. sym (ap (λ x. have_one_number x p) s.names)
      ∙ (number_decides p s.pairs s.stand.apart).1 (each (λ d m. all_at (Agree p) d h m) s.pairs s.stand.within),
)

-- and after it is named the names stand for it too
names_more : (before : List Pair) (n : Named) → NamesStandFor before n → (p : Pair) → AllByRecursion (Agree p) before
    → NamesStandFor (p ∷ before) (and_named n p)
names_more before n s p h =
    let more = next before s.pairs s.stand p (each (λ d m. all_at (Agree p) d h m) s.pairs s.stand.within) in
    record { pairs = more.pairs; names = more.names ∙ ap (λ x. and_named x p) s.names; stand = more.stand }

-- the same where perhaps no pair is named
pub agrees_if_named : (before : List Pair) (n : Named) → NamesStandFor before n → (o : Option Pair)
    → IfSome o (λ p. have_one_number n p ≡ true) ↔ IfSome o (λ p. AllByRecursion (Agree p) before)
agrees_if_named before n s None = (λ h. tt, λ h. tt)
agrees_if_named before n s (Some p) = number_agrees_before before n s p

pub names_if_named : (before : List Pair) (n : Named) → NamesStandFor before n → (o : Option Pair)
    → IfSome o (λ p. AllByRecursion (Agree p) before)
    → NamesStandFor (option_to_list o ++ before) (option_map_or (λ p. and_named n p) o n)
names_if_named before n s None h = s
names_if_named before n s (Some p) h = names_more before n s p h
