use Rattle.std.proofs.Common.{◌<◌, ◌↔◌, subst, length, Contains}
use Rattle.std.specs.List.Sorted.{IsStrictlyIncreasing}
use Rattle.std.proofs.lemmas.Map.Iter.{rest_all}
use Rattle.std.specs.Map.Iter.{deref}
use Rattle.disk_trait.specs.Files.{named}
use Rattle.disk_trait.specs.MemoryTable.{bytes_of}
use Rattle.disk_trait.proofs.FileLists.{numbers_ascend, numbers_listed, all_listed}
use Rattle.disk_trait.proofs.memory.table.FileTable.fill.Goals as goal

pub returns-clause-ascending : goal.returns-clause-ascending
returns-clause-ascending c =
    let t = c.args.self.now in
    let all = all_listed t c.args.kind c.loop-name.list.items c.loop-name.name-iterator (rest_all deref c.loop-name.name-iterator _ _ c.in-None.is c.next.ensures.steps) c.loop-name.invariant in
    subst IsStrictlyIncreasing all (numbers_ascend t c.args.kind c.keys-name-items.ensures.ordered)

pub returns-clause-listed : goal.returns-clause-listed
returns-clause-listed c =
    let t = c.args.self.now in
    let all = all_listed t c.args.kind c.loop-name.list.items c.loop-name.name-iterator (rest_all deref c.loop-name.name-iterator _ _ c.in-None.is c.next.ensures.steps) c.loop-name.invariant in
    λ n. subst (λ list. Contains list n ↔ (0 < length (bytes_of t (named c.args.kind n)))) all (numbers_listed t c.args.kind n)
