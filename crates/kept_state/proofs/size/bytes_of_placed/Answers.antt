use Rattle.std.proofs.Common.{◌≡◌, ◌+◌, List, [], ◌∷◌, ◌++◌, length, map, take, get_or, ap, ◌∙◌, arith}
use Rattle.std.specs.List.{sum}
use Rattle.std.proofs.lemmas.List.{take_more, map-append}
use Rattle.flowfile_record.specs.declared.stored.ActiveFile.{ActiveFile}
use Rattle.flowfile_record.specs.declared.stored.Placed.{Placed}
use Rattle.record_codec.specs.FileEncoding.{flow_file}
use Rattle.checkpoint_store.specs.Consistent.{record_size}
use Rattle.checkpoint_store.proofs.Numbering.{sum_more}
use Rattle.kept_state.specs.Changes.{record_of}
use Rattle.kept_state.proofs.Sizes.{record_is}
use Rattle.kept_state.proofs.size.bytes_of_placed.Goals as goal

pub loop-one-preserved : goal.loop-one-preserved
loop-one-preserved c =
    let placed = c.args.placed.now in
    let i = c.loop-one.one-index in
    let x = c.one-item.result in
    let one : Placed = get_or placed i x in
    let records : map record_of (take (i + 1) placed) ≡ map record_of (take i placed) ++ record_of one ∷ [] =
    ap (map record_of) (take_more placed i x c.loop-one-test.true) ∙ map-append record_of (take i placed) (one ∷ []) in
    let total = ap (λ (l : List ActiveFile). sum (map record_size l)) records ∙ sum_more record_size (map record_of (take i placed)) (record_of one) in
    let size = ap (λ (p : Placed). length (flow_file p.file)) c.one-item.is in (
      omega (arith, total, size, record_is one, c.size_of-bytes.ensures.size, c.loop-one.invariant.0),
      omega (arith, c.size_of-bytes.ensures.most, c.loop-one.invariant.1),
    )
