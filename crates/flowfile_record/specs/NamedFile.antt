-- Files by name: those of an inbox, and those that stand in an outbox.
use Rattle.std.specs.Prelude.{ℕ, not, List, [], ◌∷◌, Option, None, Some, filter, bytes_eq, if◌then◌else◌}

pub record NamedFile : Type 0 where
  pub name : List ℕ
  pub bytes : List ℕ

-- the bytes of the first file of that name
abbrev pub bytes_of : List NamedFile → List ℕ → Option (List ℕ)
bytes_of [] name = None
bytes_of (file ∷ files) name = if bytes_eq file.name name then Some file.bytes else bytes_of files name

-- the files but those of that name
abbrev pub without : List ℕ → List NamedFile → List NamedFile
without name files = filter (λ file. not (bytes_eq file.name name)) files

-- what stands under each name, after a file was put under one
abbrev pub with_file : (List ℕ → Option (List ℕ)) → List ℕ → List ℕ → List ℕ → Option (List ℕ)
with_file standing name bytes other = if bytes_eq other name then Some bytes else standing other
