use Rattle.std.proofs.Common.{ap}
use Rattle.std.proofs.lemmas.List.{get_or-replicate}
use Rattle.flow_report.specs.Counts.{zero_count}
use Rattle.flow_report.specs.declared.count.Count.{Count}
use Rattle.flow_report.specs.declared.count.TheConstants.{COUNTED}
use Rattle.flow_report.proofs.count.Counts.new.Goals as goal

pub returns-clause-files : goal.returns-clause-files
returns-clause-files c at lt = ap (λ (x : Count). x.files) (get_or-replicate COUNTED at zero_count zero_count lt)

pub returns-clause-bytes : goal.returns-clause-bytes
returns-clause-bytes c at lt = ap (λ (x : Count). x.bytes) (get_or-replicate COUNTED at zero_count zero_count lt)
