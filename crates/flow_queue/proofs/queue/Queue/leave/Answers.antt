use Rattle.std.proofs.Common.{◌≡◌, ◌-◌, Some, [], length, refl, sym, ◌∙◌, ap, subst, arith}
use Rattle.flowfile_record.specs.NumberedItems.{item_of}
use Rattle.flowfile_record.proofs.ByNumber.{length-without}
use Rattle.flow_queue.specs.Counts.{AreCountsOf}
use Rattle.flow_queue.specs.Inside.{AreSound}
use Rattle.flow_queue.specs.Queue.{held_number, without_file}
use Rattle.flow_queue.proofs.Counting.{counts-taken}
use Rattle.flow_queue.proofs.Fields.{size-within, sound-leave}
use Rattle.flow_queue.proofs.ForCallers.{its-number}
use Rattle.flow_queue.proofs.Ranks.{ranked-length, still-ranked}
use Rattle.flow_queue.proofs.queue.Queue.leave.Goals as goal

pub take_note-requires-clause-there : goal.take_note-requires-clause-there
take_note-requires-clause-there c =
    let files = c.self.inside.files.items in
    let found : item_of held_number c.args.number files ≡ Some c.in-Some.held.now = sym c.in-Some.ensures in
    ap (λ m. item_of held_number m files) (its-number c.args.number c.in-Some.held.now files found) ∙ found

pub take_age-requires-clause-there : goal.take_age-requires-clause-there
take_age-requires-clause-there c =
    let files = c.self.inside.files.items in
    let found : item_of held_number c.args.number files ≡ Some c.in-Some.held.now = sym c.in-Some.ensures in
    ap (λ m. item_of held_number m files) (its-number c.args.number c.in-Some.held.now files found) ∙ found

pub leave-requires-clause-few : goal.leave-requires-clause-few
leave-requires-clause-few c =
    let queue = c.self.inside in
    let long = ranked-length queue.order queue.files.items queue.by_rank.items c.self.invariant.ranked in
    omega (arith, c.self.invariant.counts.all, long, queue.by_rank.ok.0, queue.by_rank.small.0, queue.by_rank.small.1)

pub overflow_sub-self : goal.overflow_sub-self
overflow_sub-self c =
    let queue = c.self.inside in
    let within = size-within c.args.number c.in-Some-take.held queue.files.items queue.bytes (sym c.in-Some-take.ensures.item) c.self.invariant.files in
    omega (arith, within, c.from.ensures, c.size.ensures)

pub invariant_of-self : goal.invariant_of-self
invariant_of-self c =
    let queue = c.self.inside in
    let files = queue.files.items in
    let n = c.args.number in
    let first = c.in-Some.held.now in
    let same : held_number first ≡ n = its-number n first files (sym c.in-Some.ensures) in
    let taken : item_of held_number n files ≡ Some c.in-Some-take.held = sym c.in-Some-take.ensures.item in
    let total = ap (λ k. queue.bytes - k) (c.from.ensures ∙ c.size.ensures) in
    let sound = sound-leave n c.in-Some-take.held files queue.bytes (queue.bytes - c.from.result) taken c.self.invariant.files total in
    let left = length-without held_number n files c.in-Some-take.held c.self.invariant.files.apart.numbers taken in
    let without = c.in-Some-take.ensures.items ∙ ap (λ m. without_file m files) (sym same) in
    record {
      files = subst (λ fs. AreSound fs (queue.bytes - c.from.result)) (sym c.in-Some-take.ensures.items) sound;
      ranked = still-ranked queue.order _ _ _ _ without refl c.take_note.ensures.ranked;
      room = omega (arith, c.self.invariant.room, left, ap length c.in-Some-take.ensures.items, c.in-Some-take.ensures.room, c.take_note.ensures.capacity);
      oldest_first = c.self.invariant.oldest_first;
      ages = λ expire. still-ranked [] _ _ _ _ without refl (c.take_age.ensures.ages expire);
      age_room = λ expire. omega (arith, c.self.invariant.age_room expire, left, ap length c.in-Some-take.ensures.items, c.in-Some-take.ensures.room, c.take_age.ensures.capacity);
      counts = subst (AreCountsOf c.leave.new.self) (sym c.in-Some-take.ensures.items)
          (c.leave.ensures.counted (without_file n files) (counts-taken queue.counts n c.in-Some-take.held files c.self.invariant.files.apart.numbers taken c.self.invariant.counts));
      count_room = omega (arith, c.self.invariant.count_room, left, ap length c.in-Some-take.ensures.items, c.in-Some-take.ensures.room, c.leave.ensures.places);
      batch_room = c.self.invariant.batch_room;
    }
