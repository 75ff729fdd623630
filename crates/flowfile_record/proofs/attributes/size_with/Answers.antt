use Rattle.std.proofs.Common.{◌≡◌, length, arith}
use Rattle.flowfile_record.proofs.Held.{in_pairs, size_within, size_over, size_new}
use Rattle.flowfile_record.proofs.attributes.size_with.Goals as goal

pub overflow_sub-result : goal.overflow_sub-result
overflow_sub-result c =
    let is = rw c.in-Ok.is at c.requires.found in
    let le = size_within c.args.pairs.now c.in-Ok.place c.index-pairs-place.result (in_pairs _ _ _ is) c.index-pairs-place.is in
    let long : length c.value.result.now ≡ length c.index-pairs-place.result.value = cc in
    omega arith

pub returns-in-Ok : goal.returns-in-Ok
returns-in-Ok c =
    let is = rw c.in-Ok.is at c.requires.found in
    let le = size_within c.args.pairs.now c.in-Ok.place c.index-pairs-place.result (in_pairs _ _ _ is) c.index-pairs-place.is in
    let over = size_over c.args.pairs.now c.args.key.now c.args.value.now c.in-Ok.place c.index-pairs-place.result is (in_pairs _ _ _ is) c.index-pairs-place.is in
    let long : length c.value.result.now ≡ length c.index-pairs-place.result.value = cc in
    omega arith

pub returns-in-Err : goal.returns-in-Err
returns-in-Err c =
    let is = rw c.in-Err.is at c.requires.absent in
    let new = size_new c.args.pairs.now c.args.key.now c.args.value.now c.in-Err.field-0 is in
    omega arith
