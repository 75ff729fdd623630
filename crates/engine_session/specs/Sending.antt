-- What a session sends, and what stays of the files that it took.
use Rattle.std.specs.Prelude.{List, [], ◌∷◌, Option, None, Some}
use Rattle.flowfile_record.specs.declared.worked.Sent.{Sent}
use Rattle.process_session.specs.declared.file.Source.{Source}
use Rattle.settlement.specs.Contents.{source_bytes}
use Rattle.engine_session.specs.declared.change.Sending.{Sending}

-- the first of these without its bytes
abbrev pub without_first_bytes : List Source → List Source
without_first_bytes [] = []
without_first_bytes (source ∷ sources) = record source { bytes = None } ∷ sources

-- where a session sends, the bytes of the first file that it took are taken out of what stays
abbrev pub sources_left : Option Sent → List Source → List Source
sources_left None sources = sources
sources_left (Some sent) sources = without_first_bytes sources

-- and these are sent
abbrev pub sending_of : Option Sent → List Source → Option Sending
sending_of None sources = None
sending_of (Some sent) sources = Some (record { name = sent.name; bytes = source_bytes sources 0 })
