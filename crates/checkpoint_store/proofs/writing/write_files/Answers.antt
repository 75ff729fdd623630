use Rattle.std.proofs.Common.{◌≡◌, [], ◌∷◌, ◌++◌, All, refl, sym, ap, ◌∙◌, subst, arith, rules}
use Rattle.std.specs.List.{flat_map}
use Rattle.std.proofs.lemmas.List.{append-nil}
use Rattle.record_codec.specs.ActiveFile.{IsActiveFile}
use Rattle.checkpoint_store.specs.Put.{IsPut}
use Rattle.checkpoint_store.specs.Snapshot.{file_block}
use Rattle.checkpoint_store.proofs.Puts.{put_block_behind, put_named, put_within, within_named, one_block_more, blocks_within, one_more_taken, all_behind}
use Rattle.checkpoint_store.proofs.writing.write_files.Goals as goal

pub loop-active-init : goal.loop-active-init
loop-active-init g c =
    let all : c.into_iter-active-iterator.result ≡ c.args.files.now.items = c.into_iter-active-iterator.ensures.into_iter_gives ∙ c.iter-active-items.ensures in
    record {
      next = search rules;
      finite = search rules;
      taken = [];
      split = sym all;
      rest = subst (All IsActiveFile) (sym all) c.requires.files;
      room = c.requires.room;
      reaches = c.requires.reaches;
      same = (refl, refl);
      faults = omega arith;
      put = λ start bytes put. put_named g.D.Disk.tells g.D.Disk.held g.D.Disk.moment g.D.Disk.images c.args.out.now.file start c.args.out.now.file c.args.disk.now c.args.out.now.offset c.args.out.now.piece.items bytes (bytes ++ []) refl (sym (append-nil bytes)) put;
    }

pub loop-active-preserved : goal.loop-active-preserved
loop-active-preserved g c =
    let inv = c.loop-active.invariant in
    let file = c.args.out.now.file in
    let x = c.in-Some.active.now in
    record {
      next = search rules;
      finite = search rules;
      taken = inv.taken ++ x ∷ [];
      split = one_more_taken file_block [] inv.taken x c.next.new.self c.loop-active.active-iterator c.args.files.now.items c.in-Some.ensures.steps inv.split;
      rest = all_behind IsActiveFile x c.loop-active.active-iterator c.next.new.self c.in-Some.ensures.steps inv.rest;
      room = c.in_ok-write_full.ensures.room;
      reaches = c.in_ok-write_full.ensures.reaches;
      same = (c.write_full.ensures.same.0 ∙ c.put_file.ensures.same.file ∙ inv.same.0, c.write_full.ensures.same.1 ∙ c.put_file.ensures.same.longest ∙ inv.same.1);
      faults = omega (arith, inv.faults, c.write_full.ensures.cause.never_falls);
      put = λ start bytes put.
          let behind = put_block_behind g.D.Disk.tells g.D.Disk.held g.D.Disk.moment g.D.Disk.images file start c.put_file.new.self.file c.loop-active.disk c.loop-active.out.offset c.put_file.new.self.offset
          c.loop-active.out.piece.items c.put_file.new.self.piece.items (bytes ++ flat_map file_block inv.taken) (file_block x)
          (c.put_file.ensures.same.file ∙ inv.same.0) c.put_file.ensures.same.offset c.put_file.ensures.piece (inv.put start bytes put) in
          put_named g.D.Disk.tells g.D.Disk.held g.D.Disk.moment g.D.Disk.images file start c.put_file.new.self.file c.write_full.new.disk c.write_full.new.self.offset c.write_full.new.self.piece.items _ _
          (c.put_file.ensures.same.file ∙ inv.same.0) (one_block_more file_block bytes inv.taken x) (c.in_ok-write_full.ensures.put start _ behind);
    }

pub returns-in_err-write_full-clause-left : goal.returns-in_err-write_full-clause-left
returns-in_err-write_full-clause-left g c start bytes put =
    let inv = c.loop-active.invariant in
    let file = c.args.out.now.file in
    let x = c.in-Some.active.now in
    let behind = put_block_behind g.D.Disk.tells g.D.Disk.held g.D.Disk.moment g.D.Disk.images file start c.put_file.new.self.file c.loop-active.disk c.loop-active.out.offset c.put_file.new.self.offset
    c.loop-active.out.piece.items c.put_file.new.self.piece.items (bytes ++ flat_map file_block inv.taken) (file_block x)
    (c.put_file.ensures.same.file ∙ inv.same.0) c.put_file.ensures.same.offset c.put_file.ensures.piece (inv.put start bytes put) in
    within_named g.D.Disk.tells g.D.Disk.held g.D.Disk.moment g.D.Disk.images file start c.put_file.new.self.file c.write_full.new.disk _ _
    (c.put_file.ensures.same.file ∙ inv.same.0) (blocks_within file_block bytes inv.taken x c.next.new.self c.args.files.now.items (inv.split ∙ ap (λ l. inv.taken ++ l) c.in-Some.ensures.steps))
    (c.write_full.ensures.left start _ behind)

pub returns-clause-left : goal.returns-clause-left
returns-clause-left g c start bytes put =
    let inv = c.loop-active.invariant in
    let file = c.args.out.now.file in
    let all : inv.taken ≡ c.args.files.now.items = sym (inv.split ∙ ap (λ l. inv.taken ++ l) c.in-None.ensures.steps.0 ∙ append-nil inv.taken) in
    put_within g.D.Disk.tells g.D.Disk.held g.D.Disk.moment g.D.Disk.images file start c.loop-active.disk c.loop-active.out.offset c.loop-active.out.piece.items _
    (subst (λ l. IsPut g.D.Disk.tells g.D.Disk.held g.D.Disk.moment g.D.Disk.images file start c.loop-active.disk c.loop-active.out.offset c.loop-active.out.piece.items (bytes ++ flat_map file_block l)) all (inv.put start bytes put))
