use Rattle.std.proofs.Common.{arith}
use Rattle.fed_slice.proofs.joined.Told.{all_copied, copied}
use Rattle.fed_slice.proofs.parties.copies_of.Goals as goal

pub loop-place-preserved : goal.loop-place-preserved
loop-place-preserved c = record {
  whole =
      copied (λ name. name.items) c.args.names.now c.args.told.now c.loop-place.place c.index-names-place.result
      c.as_slice-name.result.now c.is_told.result c.loop-place.copies.items c.put_told.new.copies.items _ c.loop-place-test.true
      c.index-names-place.is c.as_slice-name.ensures.value c.is_told.ensures c.in_ok-put_told.ensures c.loop-place.invariant.whole;
  within = let lt = c.loop-place-test.true in omega (arith, lt);
}

pub returns : goal.returns
returns c =
    all_copied (λ name. name.items) c.args.names.now c.args.told.now c.loop-place.place c.loop-place.copies.items _
    c.loop-place-test.false c.loop-place.invariant.whole
