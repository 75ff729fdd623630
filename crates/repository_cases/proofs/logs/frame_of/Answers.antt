use Rattle.std.proofs.Common.{◌≡◌, ℕ, List, [], ◌∷◌, ◌++◌, length, refl, ap, ◌∙◌, arith}
use Rattle.record_codec.specs.Block.{block}
use Rattle.record_codec.specs.EntryEncoding.{entry as encoding}
use Rattle.record_codec.specs.declared.TheConstants.{FORMAT_VERSION}
use Rattle.record_codec.specs.declared.entry.LogEntry.TheVariants.{SwapIn}
use Rattle.record_codec.specs.declared.log.TheConstants.{CLOSED_GATE}
use Rattle.flowfile_wal.proofs.OneEntry.{one_framed}
use Rattle.repository_cases.proofs.CaseLogs.{swap_in_length}
use Rattle.repository_cases.proofs.logs.frame_of.Goals as goal

pub append_block-requires : goal.append_block-requires
append_block-requires c =
    let payload : c.as_slice.result.now ≡ encoding (SwapIn 0 c.args.batch) = c.as_slice.ensures.value ∙ c.in_ok-write_entry.ensures.ok ∙ ap (λ (l : List ℕ). l ++ encoding (SwapIn 0 c.args.batch)) c.new-payload.ensures.items in
    omega (arith, ap length payload, swap_in_length 0 c.args.batch)

pub returns : goal.returns
returns c =
    let entry = SwapIn 0 c.args.batch in
    let payload : c.as_slice.result.now ≡ encoding entry = c.as_slice.ensures.value ∙ c.in_ok-write_entry.ensures.ok ∙ ap (λ (l : List ℕ). l ++ encoding entry) c.new-payload.ensures.items in
    let kind : c.kind.result ≡ 5 = c.kind.ensures in
    let framed : c.append_block.new.out.items ≡ block 5 (encoding entry) =
    c.in_ok-append_block.ensures.ok ∙ ap (λ (l : List ℕ). l ++ block c.kind.result c.as_slice.result.now) c.new-frame.ensures.items ∙ ap (λ (k : ℕ). block k c.as_slice.result.now) kind ∙ ap (block 5) payload in
    one_framed FORMAT_VERSION entry c.push.new.self.items (omega arith, c.requires) (omega (arith, swap_in_length 0 c.args.batch)) (λ same. absurd (omega (arith, same))) refl
    (c.in_ok-push.ensures.items ∙ ap (λ (l : List ℕ). l ++ CLOSED_GATE ∷ []) framed)
