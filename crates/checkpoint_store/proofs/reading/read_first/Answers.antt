use Rattle.std.proofs.Common.{rules, arith, ◌≡◌, ◌+◌, ℕ, List, length, Some, subst, vec_capacity}
use Rattle.std.specs.Prelude.{slice_range}
use Rattle.flowfile_record.specs.Stored.{kept_of}
use Rattle.checkpoint_store.specs.Memory.{head}
use Rattle.checkpoint_store.specs.Reading.{first_block_kept}
use Rattle.checkpoint_store.proofs.Parts.{behind_first}
use Rattle.checkpoint_store.proofs.Untaken.{first_size}
use Rattle.checkpoint_store.proofs.reading.read_first.Goals as goal

pub returns-in-Ok-clause-found : goal.returns-in-Ok-clause-found
returns-in-Ok-clause-found g c told =
    let block = c.in_ok-block.block in
    let items = c.read_head_block.new.buffer.items in
    let found = c.in_ok-block.ensures.found in
    let k = kept_of c.in-Ok.so_far.state in
    let payload = slice_range items block.start block.end in
    let first : first_block_kept c.args.version block.kind payload ≡ Some k = subst (λ (l : List ℕ). first_block_kept c.args.version block.kind (slice_range l block.start block.end) ≡ Some k) c.deref.ensures.value c.in-Ok.ensures.found in
    let size : block.next ≡ length payload + 37 = search rules in
    behind_first c.args.version c.args.source.file (g.D.Disk.held c.args.disk.now c.args.source.file) block.kind payload k block.next (found.read told) first size

pub returns-in-Ok-clause-read_to : goal.returns-in-Ok-clause-read_to
returns-in-Ok-clause-read_to g c told =
    let block = c.in_ok-block.block in
    let buffer = c.read_head_block.new.buffer in
    let found = c.in_ok-block.ensures.found in
    let k = kept_of c.in-Ok.so_far.state in
    let payload = slice_range buffer.items block.start block.end in
    let first : first_block_kept c.args.version block.kind payload ≡ Some k = subst (λ (l : List ℕ). first_block_kept c.args.version block.kind (slice_range l block.start block.end) ≡ Some k) c.deref.ensures.value c.in-Ok.ensures.found in
    let size : block.next ≡ length payload + 37 = search rules in
    head block.next (vec_capacity buffer) block.kind payload k (found.read told) first size (omega (arith, found.lies.buffered))

pub returns-in-Ok-clause-room : goal.returns-in-Ok-clause-room
returns-in-Ok-clause-room g c =
    let block = c.in_ok-block.block in
    let buffer = c.read_head_block.new.buffer in
    let found = c.in_ok-block.ensures.found in
    let k = kept_of c.in-Ok.so_far.state in
    let payload = slice_range buffer.items block.start block.end in
    let first : first_block_kept c.args.version block.kind payload ≡ Some k = subst (λ (l : List ℕ). first_block_kept c.args.version block.kind (slice_range l block.start block.end) ≡ Some k) c.deref.ensures.value c.in-Ok.ensures.found in
    let size : block.next ≡ length payload + 37 = search rules in
    omega (arith, found.lies.buffered, first_size c.args.version block.kind payload k first)
