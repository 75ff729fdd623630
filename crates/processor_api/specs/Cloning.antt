-- A session that clones the file that it took.
use Rattle.std.specs.Prelude.{Bool, List, ◌++◌, map, Some}
use Rattle.flowfile_record.specs.declared.worked.Origin.TheVariants.{Cloned}
use Rattle.flowfile_record.specs.declared.worked.Worked.{Worked}
use Rattle.machine_model.specs.Making.{may_have}
use Rattle.process_session.specs.Bench.{Bench, bench_attributes}
use Rattle.process_session.specs.declared.file.File.{File}

-- a file of a session, once it has ended as this file of an outcome
abbrev pub file_ended : Worked → File
file_ended file =
    record {
      origin = file.origin;
      attributes = file.attributes;
      body = file.body;
      «end» = Some file.«end»;
      written = file.written;
      penalised = file.penalised;
      routed = file.routed;
    }

-- more files, which have ended, behind those that a session has
abbrev pub with_ended : Bench → List Worked → Bench
with_ended bench files = record bench { files = bench.files ++ map file_ended files }

-- a clone may have the attributes of its first file
abbrev pub may_be_cloned : Bench → Bool
may_be_cloned bench = may_have (Cloned 0) (bench_attributes bench 0)
