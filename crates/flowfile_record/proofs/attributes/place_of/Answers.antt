use Rattle.std.proofs.Common.{rules}
use Rattle.std.proofs.lemmas.Fn.{always_returns_same}
use Rattle.std.specs.Ordering.{nat_cmp}
use Rattle.std.specs.Cmp.Lexicographic.{slice_cmp, nat_list_cmp_total}
use Rattle.flowfile_record.specs.HeldPairs.{key_and_value}
use Rattle.flowfile_record.proofs.Search.{searched}
use Rattle.flowfile_record.proofs.attributes.place_of.Goals as goal

pub returns-clause-found : goal.returns-clause-found
returns-clause-found c =
    let by = c.binary_search_by.ensures.position (λ pair. slice_cmp nat_cmp pair.key c.args.key.now) (always_returns_same _ _ _ (λ a r g called. search rules)) in
    (searched nat_list_cmp_total key_and_value (λ entry. record { key = entry.0; value = entry.1 }) c.args.pairs.now c.args.key.now _ c.requires c.binary_search_by.ensures.bound by).0

pub returns-clause-absent : goal.returns-clause-absent
returns-clause-absent c =
    let by = c.binary_search_by.ensures.position (λ pair. slice_cmp nat_cmp pair.key c.args.key.now) (always_returns_same _ _ _ (λ a r g called. search rules)) in
    (searched nat_list_cmp_total key_and_value (λ entry. record { key = entry.0; value = entry.1 }) c.args.pairs.now c.args.key.now _ c.requires c.binary_search_by.ensures.bound by).1
