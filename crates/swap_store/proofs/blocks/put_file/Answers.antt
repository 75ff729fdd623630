use Rattle.std.proofs.Common.{◌≡◌, ◌++◌, ℕ, List, length, ap, ◌∙◌, arith}
use Rattle.record_codec.specs.ActiveFile.{active, active_file}
use Rattle.record_codec.proofs.Sizes.{file_at_most}
use Rattle.swap_store.proofs.ReadBack.{in_none}
use Rattle.swap_store.proofs.blocks.put_file.Goals as goal

pub append_block-requires : goal.append_block-requires
append_block-requires c =
    let a = active 0 c.args.file.now in
    let small = file_at_most a (in_none c.args.file.now c.requires) in
    let whole : c.as_slice.result.now ≡ active_file a =
    c.as_slice.ensures.value ∙ c.in_ok-write_active_file.ensures.ok ∙ ap (λ (l : List ℕ). l ++ active_file a) c.clear.ensures.items in
    omega (arith, small, ap (λ (l : List ℕ). length l) whole)
