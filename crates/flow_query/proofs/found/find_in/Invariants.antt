use Rattle.std.proofs.Common.{drop}
use Rattle.machine_model.specs.Files.{is_number_among}
use Rattle.flow_query.proofs.Identified.{IsAmongRest}
use Rattle.flow_query.proofs.found.find_in.Given as goal

abbrev pub invariant-loop-file : goal.invariant-loop-file
invariant-loop-file l = IsAmongRest is_number_among l.store l.id l.files (drop l.file-index l.files)
