use Rattle.std.proofs.Common.{◌≡◌, ℕ, ◌+◌, List, [], ◌++◌, refl, sym, ap, ◌∙◌, arith}
use Rattle.std.specs.List.{flat_map}
use Rattle.flowfile_record.specs.Stored.{kept_of}
use Rattle.checkpoint_store.specs.Snapshot.{head_block, file_block, batch_block, end_block, blocks_in}
use Rattle.checkpoint_store.proofs.Puts.{put_nothing, put_block_behind, put_named, put_done_named, within_named, parts_within, ascending_count}
use Rattle.checkpoint_store.proofs.writing.write_blocks.Goals as goal

pub returns-in_err-write_full-clause-images : goal.returns-in_err-write_full-clause-images
returns-in_err-write_full-clause-images g c =
    let F = c.args.out.now.file in
    let start = c.args.disk.now in
    let k = kept_of c.args.state.now in
    let named_0 : c.put_head.new.self.file ≡ F = c.put_head.ensures.same.file in
    let head = put_block_behind g.D.Disk.tells g.D.Disk.held g.D.Disk.moment g.D.Disk.images F start c.put_head.new.self.file start 0 c.put_head.new.self.offset [] c.put_head.new.self.piece.items [] (head_block c.args.version k)
    named_0 (c.put_head.ensures.same.offset ∙ c.requires.empty.0) (c.put_head.ensures.piece ∙ ap (λ (l : List ℕ). l ++ head_block c.args.version k) c.requires.empty.1)
    (put_nothing g.D.Disk.tells g.D.Disk.held g.D.Disk.moment g.D.Disk.images F start) in
    let sizes = parts_within (head_block c.args.version k) (flat_map file_block k.files) (flat_map batch_block k.batches) (end_block (blocks_in k)) in
    within_named g.D.Disk.tells g.D.Disk.held g.D.Disk.moment g.D.Disk.images F start c.put_head.new.self.file c.write_full.new.disk _ _ named_0 sizes.0
    (c.write_full.ensures.left start _ head)

pub returns-in_err-write_files-clause-images : goal.returns-in_err-write_files-clause-images
returns-in_err-write_files-clause-images g c =
    let F = c.args.out.now.file in
    let start = c.args.disk.now in
    let k = kept_of c.args.state.now in
    let named_0 : c.put_head.new.self.file ≡ F = c.put_head.ensures.same.file in
    let head = put_block_behind g.D.Disk.tells g.D.Disk.held g.D.Disk.moment g.D.Disk.images F start c.put_head.new.self.file start 0 c.put_head.new.self.offset [] c.put_head.new.self.piece.items [] (head_block c.args.version k)
    named_0 (c.put_head.ensures.same.offset ∙ c.requires.empty.0) (c.put_head.ensures.piece ∙ ap (λ (l : List ℕ). l ++ head_block c.args.version k) c.requires.empty.1)
    (put_nothing g.D.Disk.tells g.D.Disk.held g.D.Disk.moment g.D.Disk.images F start) in
    let named_1 : c.write_full.new.self.file ≡ F = c.write_full.ensures.same.0 ∙ named_0 in
    let behind_head = put_named g.D.Disk.tells g.D.Disk.held g.D.Disk.moment g.D.Disk.images c.write_full.new.self.file start c.put_head.new.self.file c.write_full.new.disk c.write_full.new.self.offset c.write_full.new.self.piece.items (head_block c.args.version k) (head_block c.args.version k)
    (named_0 ∙ sym named_1) refl (c.in_ok-write_full.ensures.put start _ head) in
    let sizes = parts_within (head_block c.args.version k) (flat_map file_block k.files) (flat_map batch_block k.batches) (end_block (blocks_in k)) in
    within_named g.D.Disk.tells g.D.Disk.held g.D.Disk.moment g.D.Disk.images F start c.write_full.new.self.file c.write_files.new.disk _ _ named_1 sizes.1
    (c.write_files.ensures.left start _ behind_head)

pub returns-in_err-write_batches-clause-images : goal.returns-in_err-write_batches-clause-images
returns-in_err-write_batches-clause-images g c =
    let F = c.args.out.now.file in
    let start = c.args.disk.now in
    let k = kept_of c.args.state.now in
    let named_0 : c.put_head.new.self.file ≡ F = c.put_head.ensures.same.file in
    let head = put_block_behind g.D.Disk.tells g.D.Disk.held g.D.Disk.moment g.D.Disk.images F start c.put_head.new.self.file start 0 c.put_head.new.self.offset [] c.put_head.new.self.piece.items [] (head_block c.args.version k)
    named_0 (c.put_head.ensures.same.offset ∙ c.requires.empty.0) (c.put_head.ensures.piece ∙ ap (λ (l : List ℕ). l ++ head_block c.args.version k) c.requires.empty.1)
    (put_nothing g.D.Disk.tells g.D.Disk.held g.D.Disk.moment g.D.Disk.images F start) in
    let named_1 : c.write_full.new.self.file ≡ F = c.write_full.ensures.same.0 ∙ named_0 in
    let behind_head = put_named g.D.Disk.tells g.D.Disk.held g.D.Disk.moment g.D.Disk.images c.write_full.new.self.file start c.put_head.new.self.file c.write_full.new.disk c.write_full.new.self.offset c.write_full.new.self.piece.items (head_block c.args.version k) (head_block c.args.version k)
    (named_0 ∙ sym named_1) refl (c.in_ok-write_full.ensures.put start _ head) in
    let named_2 : c.write_files.new.out.file ≡ F = c.write_files.ensures.same.0 ∙ named_1 in
    let behind_files = put_named g.D.Disk.tells g.D.Disk.held g.D.Disk.moment g.D.Disk.images c.write_files.new.out.file start c.write_full.new.self.file c.write_files.new.disk c.write_files.new.out.offset c.write_files.new.out.piece.items
    (head_block c.args.version k ++ flat_map file_block k.files) (head_block c.args.version k ++ flat_map file_block k.files) (named_1 ∙ sym named_2) refl (c.in_ok-write_files.ensures.put start _ behind_head) in
    let sizes = parts_within (head_block c.args.version k) (flat_map file_block k.files) (flat_map batch_block k.batches) (end_block (blocks_in k)) in
    within_named g.D.Disk.tells g.D.Disk.held g.D.Disk.moment g.D.Disk.images F start c.write_files.new.out.file c.write_batches.new.disk _ _ named_2 sizes.2
    (c.write_batches.ensures.left start _ behind_files)

pub overflow_add-len-2 : goal.overflow_add-len-2
overflow_add-len-2 g c =
    let state = c.requires.state in
    let batches = ascending_count (λ b. b.batch) c.args.state.now.next_batch 0 c.args.state.now.batches.items state.batch_numbers (λ k d lt. (state.batches k d lt).batch) (λ k d lt. omega arith) (omega arith) in
    omega (arith, batches, state.live_files, state.encoded.next_batch, c.len.ensures.len, c.len-2.ensures.len)

pub returns-in_err-write_piece-clause-images : goal.returns-in_err-write_piece-clause-images
returns-in_err-write_piece-clause-images g c =
    let F = c.args.out.now.file in
    let start = c.args.disk.now in
    let k = kept_of c.args.state.now in
    let named_0 : c.put_head.new.self.file ≡ F = c.put_head.ensures.same.file in
    let head = put_block_behind g.D.Disk.tells g.D.Disk.held g.D.Disk.moment g.D.Disk.images F start c.put_head.new.self.file start 0 c.put_head.new.self.offset [] c.put_head.new.self.piece.items [] (head_block c.args.version k)
    named_0 (c.put_head.ensures.same.offset ∙ c.requires.empty.0) (c.put_head.ensures.piece ∙ ap (λ (l : List ℕ). l ++ head_block c.args.version k) c.requires.empty.1)
    (put_nothing g.D.Disk.tells g.D.Disk.held g.D.Disk.moment g.D.Disk.images F start) in
    let named_1 : c.write_full.new.self.file ≡ F = c.write_full.ensures.same.0 ∙ named_0 in
    let behind_head = put_named g.D.Disk.tells g.D.Disk.held g.D.Disk.moment g.D.Disk.images c.write_full.new.self.file start c.put_head.new.self.file c.write_full.new.disk c.write_full.new.self.offset c.write_full.new.self.piece.items (head_block c.args.version k) (head_block c.args.version k)
    (named_0 ∙ sym named_1) refl (c.in_ok-write_full.ensures.put start _ head) in
    let named_2 : c.write_files.new.out.file ≡ F = c.write_files.ensures.same.0 ∙ named_1 in
    let behind_files = put_named g.D.Disk.tells g.D.Disk.held g.D.Disk.moment g.D.Disk.images c.write_files.new.out.file start c.write_full.new.self.file c.write_files.new.disk c.write_files.new.out.offset c.write_files.new.out.piece.items
    (head_block c.args.version k ++ flat_map file_block k.files) (head_block c.args.version k ++ flat_map file_block k.files) (named_1 ∙ sym named_2) refl (c.in_ok-write_files.ensures.put start _ behind_head) in
    let named_3 : c.write_batches.new.out.file ≡ F = c.write_batches.ensures.same.0 ∙ named_2 in
    let behind_batches = put_named g.D.Disk.tells g.D.Disk.held g.D.Disk.moment g.D.Disk.images F start c.write_files.new.out.file c.write_batches.new.disk c.write_batches.new.out.offset c.write_batches.new.out.piece.items
    (head_block c.args.version k ++ flat_map file_block k.files ++ flat_map batch_block k.batches) (head_block c.args.version k ++ flat_map file_block k.files ++ flat_map batch_block k.batches) named_2 refl (c.in_ok-write_batches.ensures.put start _ behind_files) in
    let named_4 : c.put_end.new.self.file ≡ F = c.put_end.ensures.same.file ∙ named_3 in
    let blocks : 1 + c.len.result + c.len-2.result ≡ blocks_in k = omega (arith, c.len.ensures.len, c.len-2.ensures.len) in
    let whole = put_block_behind g.D.Disk.tells g.D.Disk.held g.D.Disk.moment g.D.Disk.images F start c.put_end.new.self.file c.write_batches.new.disk c.write_batches.new.out.offset c.put_end.new.self.offset
    c.write_batches.new.out.piece.items c.put_end.new.self.piece.items (head_block c.args.version k ++ flat_map file_block k.files ++ flat_map batch_block k.batches) (end_block (blocks_in k))
    named_4 c.put_end.ensures.same.offset (c.put_end.ensures.piece ∙ ap (λ (n : ℕ). c.write_batches.new.out.piece.items ++ end_block n) blocks) behind_batches in
    within_named g.D.Disk.tells g.D.Disk.held g.D.Disk.moment g.D.Disk.images F start c.put_end.new.self.file c.write_piece.new.disk _ _ named_4 (omega arith)
    (c.write_piece.ensures.left start _ whole)

pub returns-clause-images : goal.returns-clause-images
returns-clause-images g c =
    let F = c.args.out.now.file in
    let start = c.args.disk.now in
    let k = kept_of c.args.state.now in
    let named_0 : c.put_head.new.self.file ≡ F = c.put_head.ensures.same.file in
    let head = put_block_behind g.D.Disk.tells g.D.Disk.held g.D.Disk.moment g.D.Disk.images F start c.put_head.new.self.file start 0 c.put_head.new.self.offset [] c.put_head.new.self.piece.items [] (head_block c.args.version k)
    named_0 (c.put_head.ensures.same.offset ∙ c.requires.empty.0) (c.put_head.ensures.piece ∙ ap (λ (l : List ℕ). l ++ head_block c.args.version k) c.requires.empty.1)
    (put_nothing g.D.Disk.tells g.D.Disk.held g.D.Disk.moment g.D.Disk.images F start) in
    let named_1 : c.write_full.new.self.file ≡ F = c.write_full.ensures.same.0 ∙ named_0 in
    let behind_head = put_named g.D.Disk.tells g.D.Disk.held g.D.Disk.moment g.D.Disk.images c.write_full.new.self.file start c.put_head.new.self.file c.write_full.new.disk c.write_full.new.self.offset c.write_full.new.self.piece.items (head_block c.args.version k) (head_block c.args.version k)
    (named_0 ∙ sym named_1) refl (c.in_ok-write_full.ensures.put start _ head) in
    let named_2 : c.write_files.new.out.file ≡ F = c.write_files.ensures.same.0 ∙ named_1 in
    let behind_files = put_named g.D.Disk.tells g.D.Disk.held g.D.Disk.moment g.D.Disk.images c.write_files.new.out.file start c.write_full.new.self.file c.write_files.new.disk c.write_files.new.out.offset c.write_files.new.out.piece.items
    (head_block c.args.version k ++ flat_map file_block k.files) (head_block c.args.version k ++ flat_map file_block k.files) (named_1 ∙ sym named_2) refl (c.in_ok-write_files.ensures.put start _ behind_head) in
    let named_3 : c.write_batches.new.out.file ≡ F = c.write_batches.ensures.same.0 ∙ named_2 in
    let behind_batches = put_named g.D.Disk.tells g.D.Disk.held g.D.Disk.moment g.D.Disk.images F start c.write_files.new.out.file c.write_batches.new.disk c.write_batches.new.out.offset c.write_batches.new.out.piece.items
    (head_block c.args.version k ++ flat_map file_block k.files ++ flat_map batch_block k.batches) (head_block c.args.version k ++ flat_map file_block k.files ++ flat_map batch_block k.batches) named_2 refl (c.in_ok-write_batches.ensures.put start _ behind_files) in
    let named_4 : c.put_end.new.self.file ≡ F = c.put_end.ensures.same.file ∙ named_3 in
    let blocks : 1 + c.len.result + c.len-2.result ≡ blocks_in k = omega (arith, c.len.ensures.len, c.len-2.ensures.len) in
    let whole = put_block_behind g.D.Disk.tells g.D.Disk.held g.D.Disk.moment g.D.Disk.images F start c.put_end.new.self.file c.write_batches.new.disk c.write_batches.new.out.offset c.put_end.new.self.offset
    c.write_batches.new.out.piece.items c.put_end.new.self.piece.items (head_block c.args.version k ++ flat_map file_block k.files ++ flat_map batch_block k.batches) (end_block (blocks_in k))
    named_4 c.put_end.ensures.same.offset (c.put_end.ensures.piece ∙ ap (λ (n : ℕ). c.write_batches.new.out.piece.items ++ end_block n) blocks) behind_batches in
    within_named g.D.Disk.tells g.D.Disk.held g.D.Disk.moment g.D.Disk.images F start c.put_end.new.self.file c.write_piece.new.disk _ _ named_4 (omega arith)
    (c.write_piece.ensures.left start _ whole)

pub returns-clause-written : goal.returns-clause-written
returns-clause-written g c told =
    let F = c.args.out.now.file in
    let start = c.args.disk.now in
    let k = kept_of c.args.state.now in
    let named_0 : c.put_head.new.self.file ≡ F = c.put_head.ensures.same.file in
    let head = put_block_behind g.D.Disk.tells g.D.Disk.held g.D.Disk.moment g.D.Disk.images F start c.put_head.new.self.file start 0 c.put_head.new.self.offset [] c.put_head.new.self.piece.items [] (head_block c.args.version k)
    named_0 (c.put_head.ensures.same.offset ∙ c.requires.empty.0) (c.put_head.ensures.piece ∙ ap (λ (l : List ℕ). l ++ head_block c.args.version k) c.requires.empty.1)
    (put_nothing g.D.Disk.tells g.D.Disk.held g.D.Disk.moment g.D.Disk.images F start) in
    let named_1 : c.write_full.new.self.file ≡ F = c.write_full.ensures.same.0 ∙ named_0 in
    let behind_head = put_named g.D.Disk.tells g.D.Disk.held g.D.Disk.moment g.D.Disk.images c.write_full.new.self.file start c.put_head.new.self.file c.write_full.new.disk c.write_full.new.self.offset c.write_full.new.self.piece.items (head_block c.args.version k) (head_block c.args.version k)
    (named_0 ∙ sym named_1) refl (c.in_ok-write_full.ensures.put start _ head) in
    let named_2 : c.write_files.new.out.file ≡ F = c.write_files.ensures.same.0 ∙ named_1 in
    let behind_files = put_named g.D.Disk.tells g.D.Disk.held g.D.Disk.moment g.D.Disk.images c.write_files.new.out.file start c.write_full.new.self.file c.write_files.new.disk c.write_files.new.out.offset c.write_files.new.out.piece.items
    (head_block c.args.version k ++ flat_map file_block k.files) (head_block c.args.version k ++ flat_map file_block k.files) (named_1 ∙ sym named_2) refl (c.in_ok-write_files.ensures.put start _ behind_head) in
    let named_3 : c.write_batches.new.out.file ≡ F = c.write_batches.ensures.same.0 ∙ named_2 in
    let behind_batches = put_named g.D.Disk.tells g.D.Disk.held g.D.Disk.moment g.D.Disk.images F start c.write_files.new.out.file c.write_batches.new.disk c.write_batches.new.out.offset c.write_batches.new.out.piece.items
    (head_block c.args.version k ++ flat_map file_block k.files ++ flat_map batch_block k.batches) (head_block c.args.version k ++ flat_map file_block k.files ++ flat_map batch_block k.batches) named_2 refl (c.in_ok-write_batches.ensures.put start _ behind_files) in
    let named_4 : c.put_end.new.self.file ≡ F = c.put_end.ensures.same.file ∙ named_3 in
    let blocks : 1 + c.len.result + c.len-2.result ≡ blocks_in k = omega (arith, c.len.ensures.len, c.len-2.ensures.len) in
    let whole = put_block_behind g.D.Disk.tells g.D.Disk.held g.D.Disk.moment g.D.Disk.images F start c.put_end.new.self.file c.write_batches.new.disk c.write_batches.new.out.offset c.put_end.new.self.offset
    c.write_batches.new.out.piece.items c.put_end.new.self.piece.items (head_block c.args.version k ++ flat_map file_block k.files ++ flat_map batch_block k.batches) (end_block (blocks_in k))
    named_4 c.put_end.ensures.same.offset (c.put_end.ensures.piece ∙ ap (λ (n : ℕ). c.write_batches.new.out.piece.items ++ end_block n) blocks) behind_batches in
    put_done_named g.D.Disk.tells g.D.Disk.held g.D.Disk.moment g.D.Disk.images F start c.put_end.new.self.file c.write_piece.new.disk c.write_piece.new.self.offset c.write_piece.new.self.piece.items _ named_4 c.in_ok-write_piece.ensures.empty
    (c.in_ok-write_piece.ensures.put start _ whole) told
