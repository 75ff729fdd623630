use Rattle.std.proofs.Common.{sym, subst, true, ◌≡◌, List, ℕ}
use Rattle.std.specs.Prelude.{is_ok}
use Rattle.record_codec.specs.GroupReading.{first_item_at}
use Rattle.record_codec.proofs.Groups.{begins_with_item}
use Rattle.record_codec.proofs.block_entries.read_of_group.Goals as goal

pub returns-in-Ok-clause-memory : goal.returns-in-Ok-clause-memory
returns-in-Ok-clause-memory c failed =
    let found = c.in-Ok.ensures.found in
    subst (λ (bytes : List ℕ). is_ok (first_item_at bytes) ≡ true) (sym found.1) (begins_with_item c.in-Ok.items found.0)
