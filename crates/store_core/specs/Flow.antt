-- The flow that a store is for, by what the store keeps of it.
use Rattle.std.specs.Prelude.{ℕ, ◌==◌, ◌&&◌, ◌||◌, not, Bool, List, length, bytes_eq}
use Rattle.std.specs.Cmp.Lexicographic.{pointwise}
use Rattle.flowfile_record.specs.Stored.{Kept}

-- the digest of its text, the ids of its connections, and how many processors it has
pub record Flow : Type 0 where
  pub digest : List ℕ
  pub connections : List (List ℕ)
  pub processors : ℕ

-- what is kept tells its flow
abbrev pub flow_in : Kept → Flow
flow_in k = record { digest = k.flow; connections = k.connections; processors = length k.counts }

-- Where a Head names this flow's digest, its connections and its processors are the flow's too.
abbrev pub agrees_with : Flow → Kept → Bool
agrees_with flow k =
    not (bytes_eq k.flow flow.digest)
    || (pointwise bytes_eq k.connections flow.connections && (length k.counts == flow.processors))
