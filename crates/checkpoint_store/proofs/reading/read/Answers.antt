use Rattle.std.proofs.Common.{◌≡◌, ◌-◌, ℕ, suc, length, drop, vec_capacity, ap, ◌∙◌, subst, inr, arith, rules}
use Rattle.std.proofs.lemmas.Result.{err_from_is_err_and}
use Rattle.std.specs.Prelude.{Ok, Err}
use Rattle.disk_trait.specs.Files.{Files}
use Rattle.flowfile_record.specs.Stored.{kept_of}
use Rattle.record_codec.specs.Block.{reading_of}
use Rattle.checkpoint_store.specs.Consistent.{IsConsistentIn}
use Rattle.checkpoint_store.specs.Memory.{BlockTakes, IsReadTo, Joins, more}
use Rattle.checkpoint_store.specs.Reading.{blocks_from, snapshot_of}
use Rattle.checkpoint_store.specs.Snapshot.{snapshot_file, files_end}
use Rattle.block_file.specs.declared.error.BlockError.TheVariants.{Damaged, Memory}
use Rattle.checkpoint_store.proofs.reading.read.Goals as goal

pub loop-so_far-init : goal.loop-so_far-init
loop-so_far-init g c =
    let file = snapshot_file c.args.number in
    record {
      within = c.in_ok-so_far.ensures.within;
      stays = search rules;
      faults = omega arith;
      size = c.in_ok-size.ensures.size;
      so_far = c.in_ok-so_far.ensures.so_far.0;
      version = c.in_ok-so_far.ensures.so_far.1;
      room = c.in_ok-so_far.ensures.room;
      read_to = λ told.
          subst (λ (f : Files). IsReadTo c.args.version (f file) c.in_ok-so_far.at (kept_of c.in_ok-so_far.so_far.state) (vec_capacity c.read_first.new.buffer))
          c.size.ensures.stays.files (c.in_ok-so_far.ensures.read_to told);
      most = suc (length (g.D.Disk.held c.args.disk.now file));
      enough = λ told. omega (arith, c.in_ok-size.ensures.size told);
      read = λ told.
          subst (λ (f : Files). snapshot_of c.args.version file (f file) ≡ blocks_from (suc (length (f file))) file c.in_ok-so_far.at (kept_of c.in_ok-so_far.so_far.state) (drop c.in_ok-so_far.at (f file)))
          c.size.ensures.stays.files (c.in_ok-so_far.ensures.found told);
    }

pub loop-so_far-preserved : goal.loop-so_far-preserved
loop-so_far-preserved g c =
    let file = snapshot_file c.args.number in
    let inv = c.loop-so_far.invariant in
    let within = rw c.in-Some.is at c.in_ok-next.ensures.read.within in
    record {
      within = within.1;
      stays = search rules;
      faults = omega arith;
      size = inv.size;
      so_far = c.in_ok-next.ensures.read.so_far;
      version = c.in_ok-next.ensures.read.version ∙ inv.version;
      room = omega (arith, inv.room, c.in_ok-next.ensures.capacity);
      read_to = λ told.
          let joins = rw c.in-Some.is at (c.in_ok-next.ensures.read.joins told) in
          more c.loop-so_far.at c.in-Some.next (vec_capacity c.loop-so_far.buffer) (vec_capacity c.read_next.new.buffer) (kept_of c.loop-so_far.so_far.state) (kept_of c.read_next.new.so_far.state)
          (inv.read_to told) c.in_ok-next.ensures.capacity
          (subst (λ (f : Files). Joins (f file) (vec_capacity c.read_next.new.buffer) c.loop-so_far.at c.in-Some.next (kept_of c.loop-so_far.so_far.state) (kept_of c.read_next.new.so_far.state)) inv.stays.files joins);
      most = inv.most - 1;
      enough = λ told. omega (arith, inv.enough told, within.0, inv.within);
      read = λ told.
          let some : inv.most ≡ suc (inv.most - 1) = omega (arith, inv.enough told, inv.within) in
          let step = rw c.in-Some.is at (c.in_ok-next.ensures.read.says told (inv.most - 1)) in
          inv.read told ∙ ap (λ (m : ℕ). blocks_from m file c.loop-so_far.at (kept_of c.loop-so_far.so_far.state) (drop c.loop-so_far.at (g.D.Disk.held c.args.disk.now file))) some
          ∙ subst (λ (f : Files). blocks_from (suc (inv.most - 1)) file c.loop-so_far.at (kept_of c.loop-so_far.so_far.state) (drop c.loop-so_far.at (f file))
          ≡ blocks_from (inv.most - 1) file c.in-Some.next (kept_of c.read_next.new.so_far.state) (drop c.in-Some.next (f file))) inv.stays.files step;
    }

pub returns-clause-read : goal.returns-clause-read
returns-clause-read g c = λ told.
    let file = snapshot_file c.args.number in
    let inv = c.loop-so_far.invariant in
    let some : inv.most ≡ suc (inv.most - 1) = omega (arith, inv.enough told, inv.within) in
    let last = rw c.in_default.is at (c.in_ok-next.ensures.read.says told (inv.most - 1)) in
    inv.read told ∙ ap (λ (m : ℕ). blocks_from m file c.loop-so_far.at (kept_of c.loop-so_far.so_far.state) (drop c.loop-so_far.at (g.D.Disk.held c.args.disk.now file))) some
    ∙ subst (λ (f : Files). blocks_from (suc (inv.most - 1)) file c.loop-so_far.at (kept_of c.loop-so_far.so_far.state) (drop c.loop-so_far.at (f file))
    ≡ Ok (kept_of c.read_next.new.so_far.state)) inv.stays.files last

pub returns-clause-consistent : goal.returns-clause-consistent
returns-clause-consistent g c = λ none.
    let so_far = c.read_next.new.so_far in
    let read = c.in_ok-next.ensures.read in
    subst (λ (v : ℕ). IsConsistentIn v (kept_of so_far.state)) (read.version ∙ c.loop-so_far.invariant.version) (read.so_far.consistent none)

pub returns-clause-place : goal.returns-clause-place
returns-clause-place g c =
    let so_far = c.read_next.new.so_far in
    c.files_end-batches_at.ensures ∙ ap (λ (v : ℕ). files_end v (kept_of so_far.state)) (c.in_ok-next.ensures.read.version ∙ c.loop-so_far.invariant.version)

pub returns-in_err-next-clause-damaged : goal.returns-in_err-next-clause-damaged
returns-in_err-next-clause-damaged g c damage is told =
    let file = snapshot_file c.args.number in
    let inv = c.loop-so_far.invariant in
    let some : inv.most ≡ suc (inv.most - 1) = omega (arith, inv.enough told, inv.within) in
    let p = err_from_is_err_and c.from_residual-in_err-next.result c.from_residual-in_err-next.ensures.1 in
    let same : c.in_err-next.field-0.0 ≡ Damaged damage = cc (p.1, p.2, is) in
    inv.read told ∙ ap (λ (m : ℕ). blocks_from m file c.loop-so_far.at (kept_of c.loop-so_far.so_far.state) (drop c.loop-so_far.at (g.D.Disk.held c.args.disk.now file))) some
    ∙ subst (λ (f : Files). blocks_from (suc (inv.most - 1)) file c.loop-so_far.at (kept_of c.loop-so_far.so_far.state) (drop c.loop-so_far.at (f file)) ≡ Err damage) inv.stays.files
    (c.in_err-next.ensures.damaged damage (ap Err same) told (inv.most - 1))

pub returns-in_err-next-clause-memory : goal.returns-in_err-next-clause-memory
returns-in_err-next-clause-memory g c is told =
    let file = snapshot_file c.args.number in
    let inv = c.loop-so_far.invariant in
    let buffer = c.loop-so_far.buffer in
    let k = kept_of c.loop-so_far.so_far.state in
    let p = err_from_is_err_and c.from_residual-in_err-next.result c.from_residual-in_err-next.ensures.1 in
    let same : c.in_err-next.field-0.0 ≡ Memory = cc (p.1, p.2, is) in
    inr (record {
      at = c.loop-so_far.at;
      longest = vec_capacity buffer;
      kept = k;
      before = inv.read_to told;
      takes = subst (λ (f : Files). BlockTakes (vec_capacity buffer) k (reading_of (drop c.loop-so_far.at (f file)))) inv.stays.files (c.in_err-next.ensures.memory (ap Err same) told);
    })
