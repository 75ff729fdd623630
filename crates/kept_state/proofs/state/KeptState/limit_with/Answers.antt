use Rattle.std.proofs.Common.{◌≡◌, ◌+◌, ◌-◌, List, length, true, sym, ap, ◌∙◌, subst, arith}
use Rattle.std.specs.Option.{option_or}
use Rattle.flowfile_record.specs.declared.limits.TheConstants.{LIVE_FILES_MAX, LIVE_BYTES_MAX}
use Rattle.flowfile_record.specs.declared.stored.ActiveFile.{ActiveFile}
use Rattle.kept_state.specs.Applied.{left_after}
use Rattle.kept_state.specs.Limits.{limit_passed}
use Rattle.kept_state.specs.Memory.{InMemory}
use Rattle.kept_state.specs.Moves.{are_all_active}
use Rattle.kept_state.specs.declared.limit.Which.TheVariants as which
use Rattle.kept_state.proofs.Going.{count_gone}
use Rattle.kept_state.proofs.state.KeptState.limit_with.Goals as goal

pub overflow_sub-files : goal.overflow_sub-files
overflow_sub-files c =
    let gone = c.args.gone.now in
    let are = ap (λ (m : InMemory). m.kept.files) c.self.view_is in
    let active = subst (λ (l : List ActiveFile). are_all_active l gone ≡ true) (sym are) c.requires.active in
    let whole = count_gone gone c.self.inside.stored.files.items c.self.invariant.consistent.numbers c.requires.distinct active in
    omega (arith, whole, c.len.ensures.len)

pub returns-clause-limit : goal.returns-clause-limit
returns-clause-limit c =
    let gone = c.args.gone.now in
    let are = ap (λ (m : InMemory). m.kept.files) c.self.view_is in
    let active = subst (λ (l : List ActiveFile). are_all_active l gone ≡ true) (sym are) c.requires.active in
    let whole = count_gone gone c.self.inside.stored.files.items c.self.invariant.consistent.numbers c.requires.distinct active in
    let left = left_after gone c.args.self.now.kept.files in
    let count : c.len.result - length gone + c.args.placed ≡ length left + c.args.placed = omega (arith, whole, c.len.ensures.len, ap (λ (l : List ActiveFile). length (left_after gone l)) are) in
    c.of_live.ensures ∙ ap (λ n. option_or (limit_passed which.Files LIVE_FILES_MAX n) (limit_passed which.FileBytes LIVE_BYTES_MAX c.bytes_with.result)) count
    ∙ ap (λ n. option_or (limit_passed which.Files LIVE_FILES_MAX (length left + c.args.placed)) (limit_passed which.FileBytes LIVE_BYTES_MAX n)) c.bytes_with.ensures
