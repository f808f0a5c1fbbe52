use Rattle.std.proofs.Common.{rules, ◌≡◌, ◌+◌, ℕ, List, Some, None, nat_eq, length, is_some, sym, ap, ◌∙◌}
use Rattle.std.specs.List.{position}
use Rattle.fed_numbers.proofs.rising.Places.{place_left, place_right, none_in_both, is_found}
use Rattle.fed_numbers.proofs.numbers.Numbers.place_of.Goals as goal

-- the place is among those that rise
left : (c : goal.In-Some) → position (nat_eq c.args.number) c.args.self.now ≡ Some c.in-Some.place
left c =
    let rising : List ℕ = c.self.inside.rising.items in
    let others : List ℕ = c.self.inside.others.keys in
    let there : position (nat_eq c.args.number) rising ≡ Some c.in-Some.place = search rules in
    rw (← c.self.view_is) (place_left (nat_eq c.args.number) rising others c.in-Some.place 0 there)

-- or nowhere
nowhere : (c : goal.In-None-place_among) → position (nat_eq c.args.number) c.args.self.now ≡ None
nowhere c =
    let rising : List ℕ = c.self.inside.rising.items in
    let others : List ℕ = c.self.inside.others.keys in
    let none : position (nat_eq c.args.number) rising ≡ None = search rules in
    let other : position (nat_eq c.args.number) others ≡ None = search rules in
    rw (← c.self.view_is) (none_in_both (nat_eq c.args.number) rising others 0 none other)

-- src/numbers.rt:70:5
pub returns-in-Some-clause-place : goal.returns-in-Some-clause-place
returns-in-Some-clause-place c = sym (left c)

-- src/numbers.rt:70:5
pub returns-in-Some-clause-found : goal.returns-in-Some-clause-found
returns-in-Some-clause-found c = ap is_some (sym (left c)) ∙ is_found (nat_eq c.args.number) c.args.self.now

-- src/numbers.rt:70:5
pub returns-in-Some-place_among-clause-place : goal.returns-in-Some-place_among-clause-place
returns-in-Some-place_among-clause-place c =
    let rising : List ℕ = c.self.inside.rising.items in
    let others : List ℕ = c.self.inside.others.keys in
    let none : position (nat_eq c.args.number) rising ≡ None = search rules in
    let there : position (nat_eq c.args.number) others ≡ Some c.in-Some-place_among.place = search rules in
    let long : c.len.result ≡ length rising = search rules in
    let right : position (nat_eq c.args.number) c.args.self.now ≡ Some (c.len.result + c.in-Some-place_among.place) =
    rw (← c.self.view_is, long) (place_right (nat_eq c.args.number) rising others c.in-Some-place_among.place 0 none there) in
    sym right

-- src/numbers.rt:70:5
pub returns-in-Some-place_among-clause-found : goal.returns-in-Some-place_among-clause-found
returns-in-Some-place_among-clause-found c =
    let rising : List ℕ = c.self.inside.rising.items in
    let others : List ℕ = c.self.inside.others.keys in
    let none : position (nat_eq c.args.number) rising ≡ None = search rules in
    let there : position (nat_eq c.args.number) others ≡ Some c.in-Some-place_among.place = search rules in
    let long : c.len.result ≡ length rising = search rules in
    let right : position (nat_eq c.args.number) c.args.self.now ≡ Some (c.len.result + c.in-Some-place_among.place) =
    rw (← c.self.view_is, long) (place_right (nat_eq c.args.number) rising others c.in-Some-place_among.place 0 none there) in
    ap is_some (sym right) ∙ is_found (nat_eq c.args.number) c.args.self.now

-- src/numbers.rt:70:5
pub returns-in-None-place_among-clause-place : goal.returns-in-None-place_among-clause-place
returns-in-None-place_among-clause-place c = sym (nowhere c)

-- src/numbers.rt:70:5
pub returns-in-None-place_among-clause-found : goal.returns-in-None-place_among-clause-found
returns-in-None-place_among-clause-found c = ap is_some (sym (nowhere c)) ∙ is_found (nat_eq c.args.number) c.args.self.now
