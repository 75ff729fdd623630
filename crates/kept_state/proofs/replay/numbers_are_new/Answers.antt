use Rattle.std.proofs.Common.{◌≡◌, ◌&&◌, not, true, is_some, map, sym, ap, ◌∙◌}
use Rattle.std.specs.List.{list_any, list_all}
use Rattle.std.specs.Prelude.{◌==◌}
use Rattle.std.specs.Ordering.{nat_cmp}
use Rattle.std.specs.BTreeSet.{contains}
use Rattle.kept_state.specs.Applied.{left_after}
use Rattle.kept_state.specs.Fits.{active_of, are_distinct_numbers}
use Rattle.kept_state.proofs.Testing.{distinct_from, numbers_left}
use Rattle.kept_state.proofs.replay.numbers_are_new.Goals as goal

pub returns : goal.returns
returns c = λ gone is.
    let placed = c.args.placed.now in
    let files = c.args.files.now.items in
    let set = c.args.gone_set.now in
    let numbers = map (λ a. a.file.number) placed in
    let are : c.as_slice.result.now ≡ numbers = c.as_slice.ensures.value ∙ c.in_ok-numbers.ensures in
    let are_again : c.as_slice-2.result.now ≡ numbers = c.as_slice-2.ensures.value ∙ c.in_ok-numbers.ensures in
    let distinct : are_distinct_numbers numbers ≡ true = ap are_distinct_numbers (sym are) ∙ distinct_from c.in_ok-set_of.field-0 c.as_slice.result.now (c.is_none.ensures ∙ ap not c.if-is_none.false) c.in_ok-set_of.ensures in
    let left = c.none_is_left.ensures ∙ ap (list_all (λ n. not (is_some (active_of n files) && not (contains nat_cmp set n)))) are_again ∙ sym (numbers_left set gone placed files is) in
    left ∙ ap (λ b. b && list_all (λ n. not (list_any (λ f. f.number == n) (map (λ a. a.file) (left_after gone files)))) numbers) (sym distinct)
