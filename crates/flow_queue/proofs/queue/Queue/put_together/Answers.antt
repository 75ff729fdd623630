use Rattle.std.proofs.Common.{◌+◌, ◌++◌, [], length, map, refl, sym, ◌∙◌, ap, subst, arith}
use Rattle.std.specs.VecDeque.{deque_capacity}
use Rattle.flow_queue.specs.Ages.{HasAgeRoom}
use Rattle.flow_queue.specs.Entering.{MayComeTogether, files_with}
use Rattle.flow_queue.specs.Ranked.{noted_file}
use Rattle.flow_queue.proofs.Fields.{same_state}
use Rattle.flow_queue.proofs.Joining.{files-more, ranked-joined}
use Rattle.flow_queue.proofs.Ranks.{ranked-length}
use Rattle.flow_queue.proofs.queue.Queue.put_together.Goals as goal

pub note_all-requires : goal.note_all-requires
note_all-requires c =
    let queue = c.self.inside in
    let long = ranked-length queue.order queue.files.items queue.by_rank.items c.self.invariant.ranked in
    omega (arith, c.self.invariant.room, long, c.requires.room, ap (λ q. q.spare) c.self.view_is)

pub note_ages-requires : goal.note_ages-requires
note_ages-requires c =
    let queue = c.self.inside in
    let room : HasAgeRoom queue.limits (length queue.by_age.items + length c.args.files.items) (deque_capacity queue.by_age) = λ expire.
    let long = ranked-length [] queue.files.items queue.by_age.items (c.self.invariant.ages expire) in
    omega (arith, c.self.invariant.age_room expire, long, c.requires.room, ap (λ q. q.spare) c.self.view_is) in
    record { room = subst (λ l. HasAgeRoom queue.limits (length queue.by_age.items + length l) (deque_capacity queue.by_age)) (sym c.deref-2.ensures.value) room }

pub put_files-requires-clause-kept : goal.put_files-requires-clause-kept
put_files-requires-clause-kept c =
    let queue = c.self.inside in
    record {
      sound = c.self.invariant.files;
      counted = c.self.invariant.counts;
      places = c.self.invariant.count_room;
      few = omega (arith, c.self.invariant.room, queue.by_rank.ok.0, queue.by_rank.small.0, queue.by_rank.small.1);
    }

pub put_files-requires-clause-may : goal.put_files-requires-clause-may
put_files-requires-clause-may c = subst (λ q. MayComeTogether q.files c.args.files.items) (sym c.self.view_is) c.requires.may

pub put_files-requires-clause-room : goal.put_files-requires-clause-room
put_files-requires-clause-room c = omega (arith, c.requires.room, ap (λ q. q.spare) c.self.view_is)

pub invariant_of-self : goal.invariant_of-self
invariant_of-self c =
    let queue = c.self.inside in
    let files = queue.files.items in
    let coming = c.args.files.items in
    let kept = c.put_files.ensures.kept in
    let joined = c.put_files.ensures.files in
    let many = ap length joined in
    let more = files-more coming files in
    record {
      files = kept.sound;
      ranked = ranked-joined queue.order _ coming files _ queue.by_rank.items _ _ c.self.invariant.ranked kept.sound.apart joined (c.note_all.ensures.notes ∙ ap (λ l. queue.by_rank.items ++ map noted_file l) c.deref.ensures.value) c.sort_notes.ensures.permutation c.sort_notes.ensures.sorted refl;
      room = omega (arith, c.self.invariant.room, many, more, c.put_files.ensures.room, c.note_all.ensures.capacity, c.sort_notes.ensures.capacity);
      oldest_first = c.self.invariant.oldest_first;
      ages = λ expire. ranked-joined [] _ coming files _ queue.by_age.items _ _ (c.self.invariant.ages expire) kept.sound.apart joined (c.note_ages.ensures.ages expire ∙ ap (λ l. queue.by_age.items ++ map noted_file l) c.deref-2.ensures.value) c.sort_notes-2.ensures.permutation c.sort_notes-2.ensures.sorted c.self.invariant.oldest_first;
      age_room = λ expire. omega (arith, c.self.invariant.age_room expire, many, more, c.put_files.ensures.room, c.note_ages.ensures.capacity, c.sort_notes-2.ensures.capacity);
      counts = kept.counted;
      count_room = kept.places;
      batch_room = c.self.invariant.batch_room;
    }

pub returns : goal.returns
returns c =
    same_state _ _ (ap (λ q. q.order) c.self.view_is) (ap (λ q. q.limits) c.self.view_is)
    (c.put_files.ensures.files ∙ ap (λ q. files_with c.args.files.items q.files) c.self.view_is)
    (omega (arith, c.put_files.ensures.room, ap (λ q. q.spare) c.self.view_is))
    (ap (λ q. q.batches) c.self.view_is) (ap (λ q. q.batch_room) c.self.view_is)
