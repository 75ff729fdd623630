use Rattle.flowfile_record.proofs.Held.{in_pairs, put_over, put_new}
use Rattle.flowfile_record.proofs.attributes.store.Goals as goal

pub returns-in-Ok : goal.returns-in-Ok
returns-in-Ok c =
    let is = rw c.in-Ok.is at c.requires.found in
    put_over _ _ _ _ c.index_mut.result.now _ is (in_pairs _ _ _ is) c.index_mut.ensures.value c.in_ok-pair.ensures

pub returns-in_ok-insert-in-Err : goal.returns-in_ok-insert-in-Err
returns-in_ok-insert-in-Err c =
    let is = rw c.in-Err.is at c.requires.absent in
    rw c.in_ok-insert-in-Err.ensures.items (put_new _ _ _ _ _ is c.in_ok-pair.ensures)
