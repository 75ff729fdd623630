use Rattle.std.proofs.Common.{List, length, ap, sym, subst, arith, rules}
use Rattle.flowfile_record.specs.declared.stored.ActiveFile.{ActiveFile}
use Rattle.flowfile_record.specs.declared.stored.SwapBatch.{SwapBatch}
use Rattle.record_codec.specs.Snapshot.{kind_code}
use Rattle.record_codec.specs.StoreHead.{head}
use Rattle.record_codec.specs.declared.snapshot.SnapshotKind.TheVariants as kinds
use Rattle.record_codec.proofs.Blocks.{length-block}
use Rattle.checkpoint_store.specs.Consistent.{IsConsistentIn}
use Rattle.checkpoint_store.specs.Reading.{kept_of_head}
use Rattle.checkpoint_store.proofs.so_far.SoFar.new.Goals as goal

pub returns-clause-so_far : goal.returns-clause-so_far
returns-clause-so_far c =
    let h = c.args.head in
    record {
      files = search rules;
      batches = search rules;
      arrivals = search rules;
      ordered = search rules;
      bytes = search rules;
      within = omega arith;
      few = omega (arith, ap length c.new.ensures.items);
      head_end = omega (arith, c.head_size-head_end.ensures, length-block (kind_code kinds.Head) (head h));
      head_size = omega (arith, c.head_size-head_end.ensures, c.requires.consistent.head_size);
      consistent = λ none.
          subst (λ (fs : List ActiveFile). IsConsistentIn h.version (record (kept_of_head h) { files = fs; batches = c.new-2.result.items })) (sym c.new.ensures.items)
          (subst (λ (bs : List SwapBatch). IsConsistentIn h.version (record (kept_of_head h) { batches = bs })) (sym c.new-2.ensures.items) c.requires.consistent);
    }
