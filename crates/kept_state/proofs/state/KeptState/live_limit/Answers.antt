use Rattle.std.proofs.Common.{◌≡◌, ◌+◌, ℕ, List, length, map, true, sym, ap, ◌∙◌, subst}
use Rattle.std.proofs.lemmas.List.{length-map}
use Rattle.std.specs.List.{sum}
use Rattle.std.specs.Option.{option_or}
use Rattle.flowfile_record.specs.declared.limits.TheConstants.{LIVE_FILES_MAX, LIVE_BYTES_MAX}
use Rattle.flowfile_record.specs.declared.stored.Placed.{Placed}
use Rattle.checkpoint_store.specs.Consistent.{record_size}
use Rattle.kept_state.specs.Applied.{left_after}
use Rattle.kept_state.specs.Changes.{record_of, entry_of_session}
use Rattle.kept_state.specs.Limits.{limit_passed}
use Rattle.kept_state.specs.Moves.{are_all_active}
use Rattle.kept_state.specs.declared.limit.Which.TheVariants as which
use Rattle.kept_state.proofs.Going.{active_from_one, live_limit-session}
use Rattle.kept_state.proofs.Keeping.{active_of_suits}
use Rattle.kept_state.proofs.state.KeptState.live_limit.Goals as goal

pub limit_with-requires-clause-active : goal.limit_with-requires-clause-active
limit_with-requires-clause-active c =
    let k = c.args.self.now.kept in
    let s = entry_of_session k c.args.settled.now in
    subst (λ (ns : List ℕ). are_all_active k.files ns ≡ true) (sym c.as_slice-2.ensures) (active_from_one k.files s.gone (active_of_suits k s c.requires.suits))

pub returns : goal.returns
returns c =
    let k = c.args.self.now.kept in
    let s = entry_of_session k c.args.settled.now in
    let at_limit : List ℕ → ℕ → ℕ → _ = λ gone placed bytes.
    option_or (limit_passed which.Files LIVE_FILES_MAX (length (left_after gone k.files) + placed)) (limit_passed which.FileBytes LIVE_BYTES_MAX (sum (map record_size (left_after gone k.files)) + bytes)) in
    let count : c.len.result ≡ length s.placed = c.len.ensures ∙ sym (length-map c.args.settled.now.placed record_of) in
    let bytes : c.bytes_of_placed-bytes.result ≡ sum (map record_size s.placed) = c.bytes_of_placed-bytes.ensures.bytes ∙ ap (λ (l : List Placed). sum (map record_size (map record_of l))) c.as_slice.ensures in
    c.limit_with.ensures.limit ∙ ap (λ (gone : List ℕ). at_limit gone c.len.result c.bytes_of_placed-bytes.result) c.as_slice-2.ensures ∙ ap (λ n. at_limit s.gone n c.bytes_of_placed-bytes.result) count
    ∙ ap (at_limit s.gone (length s.placed)) bytes ∙ sym (live_limit-session k s c.limit_with.ensures.no_batches)
