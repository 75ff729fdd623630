-- What a store keeps, in memory.
use Rattle.std.specs.Prelude.{◌≡◌, ℕ, [], map, refl}
use Rattle.std.specs.Coded.{Coded, code_by, coded×, coded_ℕ}
use Rattle.std.specs.List.{sum}
use Rattle.flowfile_record.specs.Stored.{Kept, kept_of}
use Rattle.flowfile_record.specs.StoredCode.{kept_code}
use Rattle.flowfile_record.specs.declared.stored.Stored.{Stored}
use Rattle.checkpoint_store.specs.Consistent.{IsConsistent, record_size}

-- what is kept, and for how many files more there is room
pub record InMemory : Type 0 where
  pub kept : Kept
  pub room : ℕ

abbrev pub in_memory_code : Coded InMemory
in_memory_code = code_by (Kept × ℕ) (coded× kept_code coded_ℕ) (λ m. (m.kept, m.room))
    (λ p. record { kept = p.0; room = p.1 }) (λ _. refl)

-- what a state in memory keeps true of its parts: no batch is swapped out, and the records of the files have so many
-- bytes
pub record IsHeldState (stored : Stored) (bytes : ℕ) : Type 0 where
  pub consistent : IsConsistent (kept_of stored)
  pub no_batches : stored.batches.items ≡ []
  pub bytes_are : bytes ≡ sum (map record_size stored.files.items)
