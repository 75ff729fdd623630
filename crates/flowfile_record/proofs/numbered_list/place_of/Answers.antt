use Rattle.std.proofs.Common.{rules}
use Rattle.std.proofs.lemmas.Fn.{always_returns_same}
use Rattle.std.specs.Cmp.{nat_cmp_total}
use Rattle.flowfile_record.specs.Slots.{number_and_item}
use Rattle.flowfile_record.proofs.Search.{searched}
use Rattle.flowfile_record.proofs.numbered_list.place_of.Goals as goal

pub returns-clause-found : goal.returns-clause-found
returns-clause-found g c =
    let by = c.binary_search_by_key.ensures.position (λ slot. slot.number) (always_returns_same _ _ _ (λ a r f called. search rules)) in
    (searched nat_cmp_total number_and_item (λ entry. record { number = entry.0; item = entry.1 }) c.args.slots.now c.args.number _ c.requires c.binary_search_by_key.ensures.bound by).0

pub returns-clause-absent : goal.returns-clause-absent
returns-clause-absent g c =
    let by = c.binary_search_by_key.ensures.position (λ slot. slot.number) (always_returns_same _ _ _ (λ a r f called. search rules)) in
    (searched nat_cmp_total number_and_item (λ entry. record { number = entry.0; item = entry.1 }) c.args.slots.now c.args.number _ c.requires c.binary_search_by_key.ensures.bound by).1
