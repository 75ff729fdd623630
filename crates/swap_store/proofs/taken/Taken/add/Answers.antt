use Rattle.std.proofs.Common.{sym, ap, subst, ◌∙◌, arith}
use Rattle.swap_store.specs.Batch.{IsSwapBatch}
use Rattle.swap_store.specs.Reading.{last_file_number}
use Rattle.swap_store.proofs.Joining.{batch_grows, last_is}
use Rattle.swap_store.proofs.taken.Taken.add.Goals as goal

pub returns-clause-taken : goal.returns-clause-taken
returns-clause-taken c =
    let file = c.args.active.file in
    let old = c.args.self.now.files.items in
    let was = c.requires.taken in
    let items = c.in_ok-push_file.ensures in
    record {
      batch = subst IsSwapBatch (sym items) (batch_grows file old was.batch c.requires.file.file (omega (arith, c.if-number-self.false, was.last)));
      last = sym (ap last_file_number items ∙ last_is file old);
    }
