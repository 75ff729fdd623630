use Rattle.disk_trait.specs.MemoryPast.{IsPast, left_at}
use Rattle.disk_trait.specs.MemoryTable.{bytes_of}
use Rattle.disk_trait.specs.Images.{IsOnly}
use Rattle.disk_trait.proofs.DiskCalls.{is_past_begun, only_begun, at_calls}
use Rattle.disk_trait.proofs.memory.history.History.new.Goals as goal

pub invariant_of-result : goal.invariant_of-result
invariant_of-result c = record {
  past = at_calls (λ calls moments. IsPast record { table = c.args.table; calls = calls; moments = moments; now = 0 }) _ _ _ _ c.new.ensures.calls c.new.ensures.moments (is_past_begun c.args.table c.requires.begins c.requires.ends);
}

pub returns-clause-synced : goal.returns-clause-synced
returns-clause-synced c =
    at_calls (λ calls moments. IsOnly (bytes_of c.args.table) (left_at record { table = c.args.table; calls = calls; moments = moments; now = 0 } 0)) _ _ _ _ c.new.ensures.calls c.new.ensures.moments (only_begun c.args.table c.requires.begins)
