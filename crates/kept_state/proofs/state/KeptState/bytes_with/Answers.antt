use Rattle.std.proofs.Common.{◌≡◌, List, map, true, sym, ap, subst, arith}
use Rattle.std.specs.List.{sum}
use Rattle.flowfile_record.specs.declared.stored.ActiveFile.{ActiveFile}
use Rattle.checkpoint_store.specs.Consistent.{record_size}
use Rattle.kept_state.specs.Applied.{left_after}
use Rattle.kept_state.specs.Memory.{InMemory}
use Rattle.kept_state.specs.Moves.{are_all_active}
use Rattle.kept_state.proofs.Going.{bytes_gone}
use Rattle.kept_state.proofs.state.KeptState.bytes_with.Goals as goal

pub overflow_sub-result : goal.overflow_sub-result
overflow_sub-result c =
    let gone = c.args.gone.now in
    let files = c.self.inside.stored.files.items in
    let are = ap (λ (m : InMemory). m.kept.files) c.self.view_is in
    let active = subst (λ (l : List ActiveFile). are_all_active l gone ≡ true) (sym are) c.requires.active in
    let whole = bytes_gone gone files c.self.invariant.consistent.numbers c.requires.distinct active in
    omega (arith, whole, c.bytes_at.ensures.bytes, c.self.invariant.bytes_are)

pub returns : goal.returns
returns c =
    let gone = c.args.gone.now in
    let files = c.self.inside.stored.files.items in
    let are = ap (λ (m : InMemory). m.kept.files) c.self.view_is in
    let active = subst (λ (l : List ActiveFile). are_all_active l gone ≡ true) (sym are) c.requires.active in
    let whole = bytes_gone gone files c.self.invariant.consistent.numbers c.requires.distinct active in
    omega (arith, whole, c.bytes_at.ensures.bytes, c.self.invariant.bytes_are, ap (λ (l : List ActiveFile). sum (map record_size (left_after gone l))) are)
