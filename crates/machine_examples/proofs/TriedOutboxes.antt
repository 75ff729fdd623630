-- What stands in an outbox behind a put.
use Rattle.std.proofs.Common.{refl}
use Rattle.machine_examples.specs.Outboxes.{PutReads}

pub put-reads : PutReads
put-reads outbox name bytes other = refl
