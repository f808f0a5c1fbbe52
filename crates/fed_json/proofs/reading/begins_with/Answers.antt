use Rattle.std.proofs.Common.{◌≡◌, sym, arith}
use Rattle.fed_json.proofs.values.Steps.{value_null, value_boolean, value_string, value_number, value_array, value_object}
use Rattle.fed_json.proofs.values.Steps.{no_number, no_array, no_object, no_begin}
use Rattle.fed_json.proofs.reading.begins_with.Goals as goal

pub returns-in-Null-clause-value : goal.returns-in-Null-clause-value
returns-in-Null-clause-value c = λ rest. rw c.in-Null.is (value_null c.args.depth rest)

pub returns-in-Bool-clause-value : goal.returns-in-Bool-clause-value
returns-in-Bool-clause-value c = λ rest. rw c.in-Bool.is (value_boolean c.args.depth c.in-Bool.b rest)

pub returns-then-is_in_range-clause-value : goal.returns-then-is_in_range-clause-value
returns-then-is_in_range-clause-value c =
    λ rest. rw c.in-Number.is (value_number c.args.depth c.in-Number.literal.now rest (sym c.if-is_in_range.ensures))

pub returns-else-is_in_range-clause-value : goal.returns-else-is_in_range-clause-value
returns-else-is_in_range-clause-value c =
    λ rest. rw c.in-Number.is (no_number c.args.depth c.in-Number.literal.now rest (sym c.if-is_in_range.ensures))

pub returns-in-String-clause-value : goal.returns-in-String-clause-value
returns-in-String-clause-value c = λ rest. rw c.in-String.is (value_string c.args.depth c.in-String.text.now rest)

pub returns-in-Some-clause-value : goal.returns-in-Some-clause-value
returns-in-Some-clause-value c =
    λ rest. let h = c.in-Some.ensures in
    rw (c.in-BeginArray.is, h.1) (value_array c.args.depth rest (omega (arith, h.0)))

pub returns-in-None-clause-value : goal.returns-in-None-clause-value
returns-in-None-clause-value c =
    λ rest. let h = c.in-None.ensures in
    let none : c.args.depth ≡ 0 = omega (arith, h) in
    rw (c.in-BeginArray.is, none) (no_array rest)

pub returns-in-Some-checked_sub-clause-value : goal.returns-in-Some-checked_sub-clause-value
returns-in-Some-checked_sub-clause-value c =
    λ rest. let h = c.in-Some-checked_sub.ensures in
    rw (c.in-BeginObject.is, h.1) (value_object c.args.depth rest (omega (arith, h.0)))

pub returns-in-None-checked_sub-clause-value : goal.returns-in-None-checked_sub-clause-value
returns-in-None-checked_sub-clause-value c =
    λ rest. let h = c.in-None-checked_sub.ensures in
    let none : c.args.depth ≡ 0 = omega (arith, h) in
    rw (c.in-BeginObject.is, none) (no_object rest)

pub returns-in-EndArray-clause-value : goal.returns-in-EndArray-clause-value
returns-in-EndArray-clause-value c = λ rest. no_begin c.args.depth c.args.token rest c.in-EndArray.is
