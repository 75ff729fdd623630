use Rattle.std.proofs.Common.{bytes_eq, rules}
use Rattle.std.specs.Cmp.Lexicographic.{nat_list_eq_equiv, nat_list_cmp_total}
use Rattle.std.proofs.lemmas.List.Sorted.{answers_always, ranks_by, IsPermutation-map}
use Rattle.std.proofs.lemmas.Map.Keys.{IsDistinct-IsPermutation}
use Rattle.world_io.specs.Memory.{file_of, names_of}
use Rattle.world_io.proofs.Once.{distinct-from_once}
use Rattle.world_io.proofs.Places.{Stored}
use Rattle.world_io.proofs.Sorting.{ascends-sorted, goes_before}
use Rattle.world_io.proofs.memory.inbox.MemoryInbox.new.Goals as goal

pub invariant_of-result : goal.invariant_of-result
invariant_of-result c =
    let sorted = c.sort_unstable_by.new.self.items in
    let moved = c.sort_unstable_by.ensures.permutation in
    let up = c.sort_unstable_by.ensures.sorted goes_before (ranks_by nat_list_cmp_total (λ (file : Stored). file.0)) (answers_always _ _ _ (λ f a r g h. search rules)) in
    let once = IsDistinct-IsPermutation bytes_eq nat_list_eq_equiv.symm (names_of c.args.files.items) (names_of sorted) (IsPermutation-map (λ (file : Stored). file.0) c.args.files.items sorted moved) (distinct-from_once (names_of c.args.files.items) c.requires) in
    record { ascends = ascends-sorted sorted up once }

pub returns-clause-left : goal.returns-clause-left
returns-clause-left c = IsPermutation-map file_of _ _ c.sort_unstable_by.ensures.permutation
