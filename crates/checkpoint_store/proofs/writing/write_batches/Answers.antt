use Rattle.std.proofs.Common.{◌≡◌, [], ◌∷◌, ◌++◌, All, refl, sym, ap, ◌∙◌, subst, arith, rules}
use Rattle.std.specs.List.{flat_map}
use Rattle.std.proofs.lemmas.List.{append-nil}
use Rattle.record_codec.specs.Snapshot.{IsBatch}
use Rattle.checkpoint_store.specs.Put.{IsPut}
use Rattle.checkpoint_store.specs.Snapshot.{batch_block}
use Rattle.checkpoint_store.proofs.Puts.{put_block_behind, put_named, put_within, within_named, one_block_more, blocks_within, one_more_taken, all_behind}
use Rattle.checkpoint_store.proofs.writing.write_batches.Goals as goal

pub loop-batch-init : goal.loop-batch-init
loop-batch-init g c =
    let all : c.into_iter-batch-iterator.result ≡ c.args.batches.now.items = c.into_iter-batch-iterator.ensures.into_iter_gives ∙ c.iter-batch-items.ensures in
    record {
      next = search rules;
      finite = search rules;
      taken = [];
      split = sym all;
      rest = subst (All IsBatch) (sym all) c.requires.batches;
      room = c.requires.room;
      reaches = c.requires.reaches;
      same = (refl, refl);
      faults = omega arith;
      put = λ start bytes put. put_named g.D.Disk.tells g.D.Disk.held g.D.Disk.moment g.D.Disk.images c.args.out.now.file start c.args.out.now.file c.args.disk.now c.args.out.now.offset c.args.out.now.piece.items bytes (bytes ++ []) refl (sym (append-nil bytes)) put;
    }

pub loop-batch-preserved : goal.loop-batch-preserved
loop-batch-preserved g c =
    let inv = c.loop-batch.invariant in
    let file = c.args.out.now.file in
    let x = c.in-Some.batch.now in
    record {
      next = search rules;
      finite = search rules;
      taken = inv.taken ++ x ∷ [];
      split = one_more_taken batch_block [] inv.taken x c.next.new.self c.loop-batch.batch-iterator c.args.batches.now.items c.in-Some.ensures.steps inv.split;
      rest = all_behind IsBatch x c.loop-batch.batch-iterator c.next.new.self c.in-Some.ensures.steps inv.rest;
      room = c.in_ok-write_full.ensures.room;
      reaches = c.in_ok-write_full.ensures.reaches;
      same = (c.write_full.ensures.same.0 ∙ c.put_batch.ensures.same.file ∙ inv.same.0, c.write_full.ensures.same.1 ∙ c.put_batch.ensures.same.longest ∙ inv.same.1);
      faults = omega (arith, inv.faults, c.write_full.ensures.cause.never_falls);
      put = λ start bytes put.
          let behind = put_block_behind g.D.Disk.tells g.D.Disk.held g.D.Disk.moment g.D.Disk.images file start c.put_batch.new.self.file c.loop-batch.disk c.loop-batch.out.offset c.put_batch.new.self.offset
          c.loop-batch.out.piece.items c.put_batch.new.self.piece.items (bytes ++ flat_map batch_block inv.taken) (batch_block x)
          (c.put_batch.ensures.same.file ∙ inv.same.0) c.put_batch.ensures.same.offset c.put_batch.ensures.piece (inv.put start bytes put) in
          put_named g.D.Disk.tells g.D.Disk.held g.D.Disk.moment g.D.Disk.images file start c.put_batch.new.self.file c.write_full.new.disk c.write_full.new.self.offset c.write_full.new.self.piece.items _ _
          (c.put_batch.ensures.same.file ∙ inv.same.0) (one_block_more batch_block bytes inv.taken x) (c.in_ok-write_full.ensures.put start _ behind);
    }

pub returns-in_err-write_full-clause-left : goal.returns-in_err-write_full-clause-left
returns-in_err-write_full-clause-left g c start bytes put =
    let inv = c.loop-batch.invariant in
    let file = c.args.out.now.file in
    let x = c.in-Some.batch.now in
    let behind = put_block_behind g.D.Disk.tells g.D.Disk.held g.D.Disk.moment g.D.Disk.images file start c.put_batch.new.self.file c.loop-batch.disk c.loop-batch.out.offset c.put_batch.new.self.offset
    c.loop-batch.out.piece.items c.put_batch.new.self.piece.items (bytes ++ flat_map batch_block inv.taken) (batch_block x)
    (c.put_batch.ensures.same.file ∙ inv.same.0) c.put_batch.ensures.same.offset c.put_batch.ensures.piece (inv.put start bytes put) in
    within_named g.D.Disk.tells g.D.Disk.held g.D.Disk.moment g.D.Disk.images file start c.put_batch.new.self.file c.write_full.new.disk _ _
    (c.put_batch.ensures.same.file ∙ inv.same.0) (blocks_within batch_block bytes inv.taken x c.next.new.self c.args.batches.now.items (inv.split ∙ ap (λ l. inv.taken ++ l) c.in-Some.ensures.steps))
    (c.write_full.ensures.left start _ behind)

pub returns-clause-left : goal.returns-clause-left
returns-clause-left g c start bytes put =
    let inv = c.loop-batch.invariant in
    let file = c.args.out.now.file in
    let all : inv.taken ≡ c.args.batches.now.items = sym (inv.split ∙ ap (λ l. inv.taken ++ l) c.in-None.ensures.steps.0 ∙ append-nil inv.taken) in
    put_within g.D.Disk.tells g.D.Disk.held g.D.Disk.moment g.D.Disk.images file start c.loop-batch.disk c.loop-batch.out.offset c.loop-batch.out.piece.items _
    (subst (λ l. IsPut g.D.Disk.tells g.D.Disk.held g.D.Disk.moment g.D.Disk.images file start c.loop-batch.disk c.loop-batch.out.offset c.loop-batch.out.piece.items (bytes ++ flat_map batch_block l)) all (inv.put start bytes put))
