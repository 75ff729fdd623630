use Rattle.std.proofs.Common.{◌-◌}
use Rattle.std.specs.Prelude.{slice_index}
use Rattle.prov_event.specs.EventReading.{all_kinds}
use Rattle.prov_event.proofs.EventLaws.{none_is_found}
use Rattle.prov_store.specs.declared.read.TheConstants.{HEAD_SIZE}
use Rattle.prov_store.proofs.read.head_of.Goals as goal

pub returns-in_default-from_code-clause-none : goal.returns-in_default-from_code-clause-none
returns-in_default-from_code-clause-none c none head is =
    let absent = none_is_found (slice_index c.args.bytes.now (HEAD_SIZE - 1)) all_kinds c.in_default-from_code.ensures.none in
    cc (absent, is.kind)
