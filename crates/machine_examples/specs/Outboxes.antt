-- Tried: what stands in an outbox behind a put.
use Rattle.std.specs.Prelude.{Option, ◌≡◌, ℕ, List, Some, bytes_eq, if◌then◌else◌}
use Rattle.flowfile_record.specs.NamedFile.{with_file}

-- the same files, but for this one under its name
abbrev pub PutReads : Type 0
PutReads = (outbox : List ℕ → Option (List ℕ)) (name bytes other : List ℕ) →
    with_file outbox name bytes other ≡ (if bytes_eq other name then Some bytes else outbox other)
