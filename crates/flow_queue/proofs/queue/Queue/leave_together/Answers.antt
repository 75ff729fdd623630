use Rattle.std.proofs.Common.{◌≡◌, ℕ, ◌-◌, Bool, [], not, sym, ◌∙◌, ap, subst, arith}
use Rattle.std.specs.Prelude.{All, IsSome, filter, sum_by}
use Rattle.machine_model.specs.Files.{is_number_among}
use Rattle.flow_queue.specs.Inside.{AreSound}
use Rattle.flow_queue.specs.Queue.{flight_of, held_bytes}
use Rattle.flow_queue.specs.Leaving.{files_going, files_staying, is_held}
use Rattle.flow_queue.proofs.Fields.{same_state}
use Rattle.flow_queue.proofs.Ranks.{ranked-length, still-ranked}
use Rattle.flow_queue.proofs.Swapped.{bytes-parted, may-go, ranked-kept, sound-kept}
use Rattle.flow_queue.proofs.queue.Queue.leave_together.Goals as goal

pub take_files-bytes-requires-clause-few : goal.take_files-bytes-requires-clause-few
take_files-bytes-requires-clause-few c =
    let queue = c.self.inside in
    let long = ranked-length queue.order queue.files.items queue.by_rank.items c.self.invariant.ranked in
    omega (arith, long, queue.by_rank.ok.0, queue.by_rank.small.0, queue.by_rank.small.1)

pub take_files-bytes-requires-clause-may : goal.take_files-bytes-requires-clause-may
take_files-bytes-requires-clause-may c =
    let queue = c.self.inside in
    let there = subst (λ fs. All (λ n. IsSome (flight_of n fs)) c.args.numbers.now) (ap (λ q. q.files) (sym c.self.view_is)) c.requires.there in
    may-go queue.files.items c.args.numbers.now c.self.invariant.files.apart.numbers there c.requires.distinct

pub invariant_of-self : goal.invariant_of-self
invariant_of-self c =
    let queue = c.self.inside in
    let files = queue.files.items in
    let ns = c.args.numbers.now in
    let stays : ℕ → Bool = λ n. not (is_number_among ns n) in
    let taken = c.take_files-bytes.ensures.files in
    let left : queue.bytes - c.take_files-bytes.result ≡ sum_by held_bytes (files_staying ns files) = omega (arith, c.take_files-bytes.ensures.bytes, c.self.invariant.files.sum, ap (sum_by held_bytes) taken) in
    let sound = sound-kept stays files queue.bytes (queue.bytes - c.take_files-bytes.result) c.self.invariant.files left in
    record {
      files = subst (λ fs. AreSound fs (queue.bytes - c.take_files-bytes.result)) (sym taken) sound;
      ranked = still-ranked queue.order _ _ _ _ taken (c.keep_standing.ensures.notes ∙ ap (λ fs. filter (is_held fs) queue.by_rank.items) taken)
          (ranked-kept queue.order files queue.by_rank.items c.self.invariant.files.apart c.self.invariant.ranked stays);
      room = omega (arith, c.self.invariant.room, c.take_files-bytes.ensures.room, c.take_files-bytes.ensures.count, c.keep_standing.ensures.capacity);
      oldest_first = c.self.invariant.oldest_first;
      ages = λ expire. still-ranked [] _ _ _ _ taken (c.keep_standing-2.ensures.notes ∙ ap (λ fs. filter (is_held fs) queue.by_age.items) taken)
          (ranked-kept [] files queue.by_age.items c.self.invariant.files.apart (c.self.invariant.ages expire) stays);
      age_room = λ expire. omega (arith, c.self.invariant.age_room expire, c.take_files-bytes.ensures.room, c.take_files-bytes.ensures.count, c.keep_standing-2.ensures.capacity);
      counts = c.take_files-bytes.ensures.counted;
      count_room = omega (arith, c.self.invariant.count_room, c.take_files-bytes.ensures.room, c.take_files-bytes.ensures.count, c.take_files-bytes.ensures.places);
      batch_room = c.self.invariant.batch_room;
    }

pub returns-clause-bytes : goal.returns-clause-bytes
returns-clause-bytes c =
    let queue = c.self.inside in
    let ns = c.args.numbers.now in
    let bytes : c.take_files-bytes.result ≡ sum_by held_bytes (files_going ns queue.files.items)
    = omega (arith, c.take_files-bytes.ensures.bytes, ap (sum_by held_bytes) c.take_files-bytes.ensures.files, bytes-parted ns queue.files.items) in
    bytes ∙ ap (λ q. sum_by held_bytes (files_going ns q.files)) c.self.view_is

pub returns-clause-left : goal.returns-clause-left
returns-clause-left c =
    same_state _ _ (ap (λ q. q.order) c.self.view_is) (ap (λ q. q.limits) c.self.view_is)
    (c.take_files-bytes.ensures.files ∙ ap (λ q. files_staying c.args.numbers.now q.files) c.self.view_is)
    (omega (arith, c.take_files-bytes.ensures.room, ap (λ q. q.spare) c.self.view_is))
    (ap (λ q. q.batches) c.self.view_is) (ap (λ q. q.batch_room) c.self.view_is)
