-- What a session begins with.
use Rattle.std.specs.Prelude.{◌≡◌, ◌≤◌, All, ◌+◌, ◌*◌, ◌++◌, ℕ, List, [], ◌∷◌, map, sum_by, length}
use Rattle.flowfile_record.specs.Attributes.{IsWithinLimits, encoded_size}
use Rattle.flowfile_record.specs.declared.attributes.TheConstants.{ATTRIBUTES_MAX}
use Rattle.process_session.specs.declared.file.Taken.{Taken}
use Rattle.process_session.specs.declared.session.taking.Begun.{Begun}
use Rattle.process_session.specs.Bench.{taken_source, taken_file, files_taken, file_size}

-- one more taken file, at a place
pub record TakesFile (old : Begun) (place : ℕ) (taken : Taken) (new : Begun) : Type 0 where
  pub sources : new.sources.items ≡ old.sources.items ++ taken_source taken ∷ []
  pub files : new.files.items ≡ old.files.items ++ taken_file place taken ∷ []
  pub summed : new.counted ≡ old.counted + encoded_size taken.attributes
  pub limits : IsWithinLimits taken.attributes

-- the taken files, each at its place, with the sum of what their attributes take
pub record BeginsWith (begun : Begun) (taken : List Taken) : Type 0 where
  pub sources : begun.sources.items ≡ map taken_source taken
  pub files : begun.files.items ≡ files_taken 0 taken
  pub summed : begun.counted ≡ sum_by file_size (files_taken 0 taken)
  pub small : begun.counted ≤ length taken * ATTRIBUTES_MAX
  pub limits : All (λ file. IsWithinLimits file.attributes) taken
