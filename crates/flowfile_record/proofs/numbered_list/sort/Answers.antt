use Rattle.std.proofs.Common.{rules}
use Rattle.std.proofs.lemmas.Fn.{always_returns_same}
use Rattle.flowfile_record.proofs.numbered_list.sort.Goals as goal

pub returns-clause-sorted : goal.returns-clause-sorted
returns-clause-sorted g c = c.sort_unstable_by_key.ensures.sorted (λ slot. slot.number) (always_returns_same _ _ _ (λ a r f called. search rules))
