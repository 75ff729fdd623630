-- What the calls below these processors leave of a session.
use Rattle.std.specs.Prelude.{ℕ, List, false, map, Option, Some, None}
use Rattle.flowfile_record.specs.Attributes.{AttributeMap}
use Rattle.flowfile_record.specs.declared.worked.End.TheVariants.{To}
use Rattle.flowfile_record.specs.declared.worked.Outcome.{Outcome}
use Rattle.machine_model.specs.Making.{alone, passed_on}
use Rattle.process_session.specs.Finish.{worked_with}
use Rattle.process_session.specs.declared.file.File.{File}

-- these files, all ended at a relationship
abbrev pub all_to : ℕ → List File → Outcome
all_to relationship files =
    record {
      files = map (λ file. worked_with file.origin (record file { «end» = Some (To relationship) })) files;
      sent = None;
    }

-- the taken file with these attributes to success, or where it may not have them, as it was to failure
abbrev pub passed_with : AttributeMap → Option AttributeMap → Outcome
passed_with before (Some attributes) = alone (passed_on 0 attributes false 0)
passed_with before None = alone (passed_on 0 before false 1)
