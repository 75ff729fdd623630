use Rattle.std.proofs.Common.{refl}
use Rattle.prov_event.specs.EventReading.{all_kinds, kind_at}
use Rattle.prov_event.proofs.EventLaws.{none_is_found}
use Rattle.prov_event.proofs.read.read_kind.Goals as goal

pub returns-in-None : goal.returns-in-None
unfolding kind_at
returns-in-None c = rw (c.in_ok-code.ensures, none_is_found c.in_ok-code.code all_kinds c.in-None.ensures.none) refl
