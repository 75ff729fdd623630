-- For private clauses: counts of connections, and the lines that tell them.
use Rattle.std.specs.Prelude.{ℕ, List, slice_index_or}
use Rattle.std.specs.List.{enumerate_from, flat_map}
use Rattle.flowfile_record.specs.Stored.{Kept}
use Rattle.machine_model.specs.declared.flow.Connection.{Connection}
use Rattle.flow_report.specs.Summary.{connection_bytes, connection_files}
use Rattle.flow_report.specs.Texts.{connection_text}
use Rattle.flow_report.specs.declared.count.Count.{Count}
use Rattle.flow_report.specs.declared.count.Counts.{Counts}

abbrev pub zero_count : Count
zero_count = record { files = 0; bytes = 0 }

-- of the connection at a place behind the first
abbrev pub files_at : Counts → (at : ℕ) → ℕ
files_at counts at = (slice_index_or counts.counts at zero_count).files

abbrev pub counted_bytes : Counts → (at : ℕ) → ℕ
counted_bytes counts at = (slice_index_or counts.counts at zero_count).bytes

-- the lines of connections, the first of which stands at this place of the flow
abbrev pub lines_from : (first : ℕ) → List Connection → Kept → List ℕ
lines_from first connections kept =
    flat_map (λ at. connection_text at.1.id (connection_files at.0 kept) (connection_bytes at.0 kept))
    (enumerate_from first connections)
