use Rattle.std.proofs.Common.{◌≡◌, suc, List, length, vec_capacity, drop, sym, ap, subst, arith, rules}
use Rattle.std.proofs.lemmas.Result.{err_from_is_err_and}
use Rattle.std.specs.Prelude.{Ok, Err}
use Rattle.disk_trait.specs.Files.{Files}
use Rattle.flowfile_record.specs.declared.flow_file.FlowFile.{FlowFile}
use Rattle.record_codec.specs.Block.{reading_of}
use Rattle.swap_store.specs.Batch.{swap_file}
use Rattle.swap_store.specs.Reading.{files_from}
use Rattle.swap_store.specs.Memory.{BatchBlockTakes, BatchIsReadTo, JoinsBatch, more, start}
use Rattle.block_file.specs.declared.error.BlockError.TheVariants.{Damaged, Memory}
use Rattle.swap_store.proofs.Takes.{less_takes}
use Rattle.swap_store.proofs.Steps.{comes_first, comes_on, comes_to_end, has_read}
use Rattle.swap_store.proofs.reading.read_batch.Goals as goal

pub loop-taken-init : goal.loop-taken-init
loop-taken-init g c =
    let file = swap_file c.args.batch in
    let bytes = g.D.Disk.held c.args.disk.now file in
    record {
      within = omega arith;
      stays = search rules;
      faults = omega arith;
      size = c.in_ok-size.ensures.size;
      taken = c.new-taken.ensures.taken;
      few = omega (arith, ap length c.new-taken.ensures.none);
      comes = λ told. comes_first file bytes c.new-taken.result.files.items c.new-taken.ensures.none;
      longest = 0;
      room = omega arith;
      read_to = λ told. subst (λ (files : List FlowFile). BatchIsReadTo bytes 0 files 0) (sym c.new-taken.ensures.none) start;
    }

pub loop-taken-preserved : goal.loop-taken-preserved
loop-taken-preserved g c =
    let file = swap_file c.args.batch in
    let bytes = g.D.Disk.held c.args.disk.now file in
    let inv = c.loop-taken.invariant in
    let within = rw c.in-Some.is at c.in_ok-next.ensures.read.within in
    let at = c.loop-taken.at in
    let old = c.loop-taken.taken.files.items in
    let new = c.read_next.new.taken.files.items in
    record {
      within = within.1;
      stays = search rules;
      faults = omega arith;
      size = inv.size;
      taken = c.in_ok-next.ensures.read.taken;
      few = omega (arith, inv.few, within.0, within.2);
      comes = λ told.
          comes_on file bytes at c.in-Some.next old new (inv.comes told) within.2
          (λ most. let step = rw c.in-Some.is at (c.in_ok-next.ensures.read.says told most) in
          subst (λ (f : Files). files_from (suc most) file at old (drop at (f file)) ≡ files_from most file c.in-Some.next new (drop c.in-Some.next (f file))) inv.stays.files step);
      longest = vec_capacity c.read_next.new.buffer;
      room = omega arith;
      read_to = λ told.
          let joins = rw c.in-Some.is at (c.in_ok-next.ensures.read.joins told) in
          more at c.in-Some.next inv.longest (vec_capacity c.read_next.new.buffer) old new (inv.read_to told) (omega (arith, inv.room, c.in_ok-next.ensures.capacity))
          (subst (λ (f : Files). JoinsBatch (f file) (vec_capacity c.read_next.new.buffer) at c.in-Some.next old new) inv.stays.files joins);
    }

pub returns-clause-read : goal.returns-clause-read
returns-clause-read g c =
    let file = swap_file c.args.batch in
    let inv = c.loop-taken.invariant in
    let at = c.loop-taken.at in
    let old = c.loop-taken.taken.files.items in
    let new = c.read_next.new.taken.files.items in
    has_read g.D.Disk.tells (g.D.Disk.held c.args.disk.now) file new c.in_ok-next.ensures.read.taken.batch
    (λ told. comes_to_end file (g.D.Disk.held c.args.disk.now file) at old (Ok new) (inv.comes told) (omega (arith, inv.few, inv.within, inv.size told))
    (λ most. let last = rw c.in_default.is at (c.in_ok-next.ensures.read.says told most) in
    subst (λ (f : Files). files_from (suc most) file at old (drop at (f file)) ≡ Ok new) inv.stays.files last))

pub returns-in_err-next-clause-damaged : goal.returns-in_err-next-clause-damaged
returns-in_err-next-clause-damaged g c damage is told =
    let file = swap_file c.args.batch in
    let inv = c.loop-taken.invariant in
    let at = c.loop-taken.at in
    let old = c.loop-taken.taken.files.items in
    let p = err_from_is_err_and c.from_residual-in_err-next.result c.from_residual-in_err-next.ensures.1 in
    let same : c.in_err-next.field-0.0 ≡ Damaged damage = cc (p.1, p.2, is) in
    comes_to_end file (g.D.Disk.held c.args.disk.now file) at old (Err damage) (inv.comes told) (omega (arith, inv.few, inv.within, inv.size told))
    (λ most. subst (λ (f : Files). files_from (suc most) file at old (drop at (f file)) ≡ Err damage) inv.stays.files
    (c.in_err-next.ensures.damaged damage (ap Err same) told most))

pub returns-in_err-next-clause-memory : goal.returns-in_err-next-clause-memory
returns-in_err-next-clause-memory g c is told =
    let file = swap_file c.args.batch in
    let inv = c.loop-taken.invariant in
    let p = err_from_is_err_and c.from_residual-in_err-next.result c.from_residual-in_err-next.ensures.1 in
    let same : c.in_err-next.field-0.0 ≡ Memory = cc (p.1, p.2, is) in
    let at = c.loop-taken.at in
    let files = c.loop-taken.taken.files.items in
    let capacity = vec_capacity c.loop-taken.buffer in
    record {
      at = at;
      longest = inv.longest;
      files = files;
      before = inv.read_to told;
      takes = less_takes inv.longest capacity files (reading_of (drop at (g.D.Disk.held c.args.disk.now file))) inv.room
          (subst (λ (f : Files). BatchBlockTakes capacity files (reading_of (drop at (f file)))) inv.stays.files (c.in_err-next.ensures.memory (ap Err same) told));
    }
