use Rattle.std.proofs.Common.{◌≡◌, ℕ, ◌<◌, ◌≤◌, List, length, slice_index, sym, ap, subst, arith}
use Rattle.std.proofs.lemmas.List.Kept.{AllPairs-from_increasing}
use Rattle.store_core.proofs.Finding.{first_is, none_is}
use Rattle.std.specs.Prelude.{Some}
use Rattle.disk_trait.specs.Files.{named}
use Rattle.store_core.specs.New.{first_from}
use Rattle.store_core.proofs.reading.find_from.Goals as goal

pub returns-clause-first : goal.returns-clause-first
returns-clause-first g c told =
    let items = c.files.new.list.items in
    let list = c.deref-number-items.result.now in
    let same : list ≡ items = c.deref-number-items.ensures.value in
    sym (none_is c.args.kind c.args.from (g.D.Disk.held c.args.disk.now) items (c.in_ok-files.ensures.listed told)
    (AllPairs-from_increasing items c.files.ensures.ascending) c.files.ensures.below
    (λ j lt. subst (λ (l : List ℕ). slice_index l j < c.args.from) same (c.loop-number.invariant j (omega (arith, lt, ap length same, c.loop-number-test.false)))))

pub returns-then-number-from-clause-first : goal.returns-then-number-from-clause-first
returns-then-number-from-clause-first g c told =
    let items = c.files.new.list.items in
    let list = c.deref-number-items.result.now in
    let index = c.loop-number.number-index in
    let same : list ≡ items = c.deref-number-items.ensures.value in
    let held = g.D.Disk.held c.args.disk.now in
    let here : c.args.from ≤ slice_index list index = omega arith in
    let whole = first_is c.args.kind c.args.from held items (c.in_ok-files.ensures.listed told)
    (AllPairs-from_increasing items c.files.ensures.ascending) c.files.ensures.below index (omega (arith, ap length same, c.loop-number-test.true))
    (subst (λ (l : List ℕ). c.args.from ≤ slice_index l index) same here)
    (λ j lt. subst (λ (l : List ℕ). slice_index l j < c.args.from) same (c.loop-number.invariant j lt)) in
    sym (subst (λ (l : List ℕ). first_from c.args.kind c.args.from held ≡ Some (named c.args.kind (slice_index l index))) (sym same) whole)
