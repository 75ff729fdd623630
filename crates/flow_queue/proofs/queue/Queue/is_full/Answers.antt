use Rattle.std.proofs.Common.{◌≡◌, ◌&&◌, ◌||◌, nat_le, nat_lt, ◌∙◌, ap}
use Rattle.machine_model.specs.Quiet.{is_full}
use Rattle.machine_model.specs.View.{byte_count, file_count}
use Rattle.flow_queue.specs.Inside.{queue_in}
use Rattle.flow_queue.specs.Queue.{queue_as_seen}
use Rattle.flow_queue.proofs.Batches.{bytes-test, files-test}
use Rattle.flow_queue.proofs.queue.Queue.is_full.Goals as goal

pub returns : goal.returns
returns c =
    let queue = c.self.inside in
    let files : nat_le c.files_short_of-files_short.result c.len.result ≡ nat_le queue.limits.objects (file_count (queue_as_seen (queue_in queue)))
    = (λ i. nat_le (c.files_short_of-files_short.ensures i) (c.len.ensures.len i)) ∙ files-test (queue_in queue) in
    let bytes : nat_le c.bytes_short_of-bytes_short.result queue.bytes ≡ nat_le queue.limits.bytes (byte_count (queue_as_seen (queue_in queue)))
    = (λ i. nat_le (c.bytes_short_of-bytes_short.ensures i) (c.self.invariant.files.sum i)) ∙ bytes-test (queue_in queue) in
    c.is_filled.ensures
    ∙ (λ i. (nat_lt 0 queue.limits.objects && files i) || (nat_lt 0 queue.limits.bytes && bytes i))
    ∙ ap (λ q. is_full q.limits (queue_as_seen q)) c.self.view_is
