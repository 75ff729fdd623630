use Rattle.std.proofs.Common.{◌≡◌, List, [], ◌∷◌, length, true, ap, ◌∙◌, arith, subst, sym, length-append}
use Rattle.std.specs.Prelude.{nat_lt}
use Rattle.std.proofs.lemmas.Bool.Decides.{nat_tests}
use Rattle.flowfile_record.specs.Stored.{kept_of}
use Rattle.flowfile_record.specs.NumberedItems.{item_of, with_item}
use Rattle.flowfile_record.specs.declared.stored.SwapBatch.{SwapBatch}
use Rattle.checkpoint_store.specs.Reading.{last_number}
use Rattle.checkpoint_store.specs.SoFar.{AreNumberedTo}
use Rattle.checkpoint_store.proofs.Numbering.{none_there, joins_last, are_numbered}
use Rattle.checkpoint_store.proofs.so_far.SoFar.add_batch.Goals as goal

pub put-requires-clause-new : goal.put-requires-clause-new
put-requires-clause-new c =
    ap (item_of (λ (b : SwapBatch). b.batch) c.args.batch.batch) c.in_ok-reserve.ensures.items
    ∙ none_there (λ b. b.batch) c.args.batch.batch c.args.self.now.last_batch c.args.self.now.state.batches.items c.requires.so_far.batches.below (omega arith)

pub returns-clause-joined : goal.returns-clause-joined
returns-clause-joined c =
    let are = c.requires.so_far.batches in
    let follows : nat_lt (last_number (λ (b : SwapBatch). b.batch) c.args.self.now.state.batches.items) c.args.batch.batch ≡ true = grind (arith, nat_tests, are.last, c.if-self-batch.false) in
    let items = c.put.ensures.items ∙ ap (with_item (λ (b : SwapBatch). b.batch) c.args.batch) c.in_ok-reserve.ensures.items ∙ joins_last (λ b. b.batch) c.args.batch c.args.self.now.last_batch c.args.self.now.state.batches.items are.below (omega arith) in
    (follows, ap (λ (l : List SwapBatch). record (kept_of c.args.self.now.state) { batches = l }) items)

pub returns-clause-so_far : goal.returns-clause-so_far
returns-clause-so_far c =
    let was = c.requires.so_far in
    let items = c.put.ensures.items ∙ ap (with_item (λ (b : SwapBatch). b.batch) c.args.batch) c.in_ok-reserve.ensures.items ∙ joins_last (λ b. b.batch) c.args.batch c.args.self.now.last_batch c.args.self.now.state.batches.items was.batches.below (omega arith) in
    record {
      files = was.files;
      batches = subst (λ (l : List SwapBatch). AreNumberedTo (λ b. b.batch) l c.args.batch.batch) (sym items)
          (are_numbered (λ b. b.batch) c.args.batch c.args.self.now.last_batch c.args.self.now.state.batches.items was.batches (omega arith) c.requires.batch.batch);
      arrivals = was.arrivals;
      ordered = was.ordered;
      bytes = was.bytes;
      within = was.within;
      few = was.few;
      head_end = was.head_end;
      head_size = was.head_size;
      consistent = λ none. absurd (omega (arith, ap length (sym items ∙ none), length-append c.args.self.now.state.batches.items (c.args.batch ∷ [])));
    }
