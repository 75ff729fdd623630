use Rattle.std.proofs.Common.{◌≡◌, ◌-◌, length, refl, sym, ◌∙◌, ap, subst, arith}
use Rattle.std.specs.Prelude.{◌==◌}
use Rattle.std.specs.List.{IsDistinct, range_with_len}
use Rattle.std.specs.Vec.{vec_items}
use Rattle.std.proofs.lemmas.Iterator.{YieldsList-from_range, items_from_collect}
use Rattle.process_session.specs.Changes.{with_joined}
use Rattle.proc_merge.proofs.Child.{at-ok, create-memory, joined-is, made-so, range-distinct}
use Rattle.proc_merge.proofs.joining.create.Goals as goal

pub create_joined-requires-clause-distinct : goal.create_joined-requires-clause-distinct
create_joined-requires-clause-distinct c =
    let count = c.taken.result in
    let whole : count - 0 ≡ count = omega arith in
    let items : c.in_ok-parents.parents.items ≡ range_with_len 0 count =
    at-ok c.collect.result c.in_ok-parents.parents (λ w. vec_items w ≡ range_with_len 0 count) c.in_ok-parents.was (items_from_collect c.collect.result c.collect.ensures.ran (YieldsList-from_range 0 count count refl whole)) in
    let parents : c.deref.result.now ≡ range_with_len 0 count = c.deref.ensures.value ∙ items in
    subst (IsDistinct (λ a b. a == b)) (sym parents) (range-distinct count 0)

pub or_no_memory-requires : goal.or_no_memory-requires
or_no_memory-requires c =
    let bench = c.args.session.now in
    let count = c.taken.result in
    let whole : count - 0 ≡ count = omega arith in
    let items : c.in_ok-parents.parents.items ≡ range_with_len 0 count =
    at-ok c.collect.result c.in_ok-parents.parents (λ w. vec_items w ≡ range_with_len 0 count) c.in_ok-parents.was (items_from_collect c.collect.result c.collect.ensures.ran (YieldsList-from_range 0 count count refl whole)) in
    let parents : c.deref.result.now ≡ range_with_len 0 (length bench.sources) = c.deref.ensures.value ∙ items ∙ ap (range_with_len 0) c.taken.ensures in
    create-memory bench c.deref.result.now c.create_joined.result c.requires.took parents c.requires.small c.requires.may c.create_joined.ensures.refusal

pub returns-clause-after : goal.returns-clause-after
returns-clause-after c =
    let bench = c.args.session.now in
    let count = c.taken.result in
    let whole : count - 0 ≡ count = omega arith in
    let items : c.in_ok-parents.parents.items ≡ range_with_len 0 count =
    at-ok c.collect.result c.in_ok-parents.parents (λ w. vec_items w ≡ range_with_len 0 count) c.in_ok-parents.was (items_from_collect c.collect.result c.collect.ensures.ran (YieldsList-from_range 0 count count refl whole)) in
    let parents : c.deref.result.now ≡ range_with_len 0 (length bench.sources) = c.deref.ensures.value ∙ items ∙ ap (range_with_len 0) c.taken.ensures in
    made-so c.or_no_memory.result c.create_joined.result bench c.create_joined.new.self (with_joined bench c.deref.result.now) _ c.or_no_memory.ensures.value c.create_joined.ensures.after
    (ap (with_joined bench) parents ∙ joined-is bench c.requires.took)
