use Rattle.std.proofs.Common.{[], false, length, refl, sym, ap, subst, arith}
use Rattle.flowfile_record.proofs.ByNumber.{length-with}
use Rattle.flow_queue.specs.declared.held.Held.{Held}
use Rattle.flow_queue.specs.Queue.{IsApart, held_number}
use Rattle.flow_queue.proofs.Ranks.{ranked-length, still-ranked}
use Rattle.flow_queue.proofs.queue.Queue.put.Goals as goal

pub put_note-requires-clause-new : goal.put_note-requires-clause-new
put_note-requires-clause-new c = subst (IsApart c.args.file) (ap (λ q. q.files) (sym c.self.view_is)) c.requires.apart

pub put_note-requires-clause-room : goal.put_note-requires-clause-room
put_note-requires-clause-room c =
    let queue = c.self.inside in
    let long = ranked-length queue.order queue.files.items queue.by_rank.items c.self.invariant.ranked in
    omega (arith, c.self.invariant.room, long, c.requires.room, ap (λ q. q.spare) c.self.view_is)

pub put_age-requires-clause-new : goal.put_age-requires-clause-new
put_age-requires-clause-new c = subst (IsApart c.args.file) (ap (λ q. q.files) (sym c.self.view_is)) c.requires.apart

pub put_age-requires-clause-room : goal.put_age-requires-clause-room
put_age-requires-clause-room c expire =
    let queue = c.self.inside in
    let long = ranked-length [] queue.files.items queue.by_age.items (c.self.invariant.ages expire) in
    omega (arith, c.self.invariant.age_room expire, long, c.requires.room, ap (λ q. q.spare) c.self.view_is)

pub put_file-requires-clause-kept : goal.put_file-requires-clause-kept
put_file-requires-clause-kept c =
    let queue = c.self.inside in
    record {
      sound = c.self.invariant.files;
      counted = c.self.invariant.counts;
      places = c.self.invariant.count_room;
      few = omega (arith, c.self.invariant.room, queue.by_rank.ok.0, queue.by_rank.small.0, queue.by_rank.small.1);
    }

pub put_file-requires-clause-apart : goal.put_file-requires-clause-apart
put_file-requires-clause-apart c = subst (IsApart c.args.file) (ap (λ q. q.files) (sym c.self.view_is)) c.requires.apart

pub put_file-requires-clause-room : goal.put_file-requires-clause-room
put_file-requires-clause-room c = omega (arith, c.requires.room, ap (λ q. q.spare) c.self.view_is)

pub invariant_of-self : goal.invariant_of-self
invariant_of-self c =
    let queue = c.self.inside in
    let files = queue.files.items in
    let new : Held = record { file = c.args.file; in_flight = false } in
    let kept = c.put_file.ensures.kept in
    let many = ap length c.put_file.ensures.files in
    let one = length-with held_number new files in
    record {
      files = kept.sound;
      ranked = still-ranked queue.order _ _ _ _ c.put_file.ensures.files refl c.put_note.ensures.ranked;
      room = omega (arith, c.self.invariant.room, many, one, c.put_file.ensures.room, c.put_note.ensures.capacity);
      oldest_first = c.self.invariant.oldest_first;
      ages = λ expire. still-ranked [] _ _ _ _ c.put_file.ensures.files refl (c.put_age.ensures.ages expire);
      age_room = λ expire. omega (arith, c.self.invariant.age_room expire, many, one, c.put_file.ensures.room, c.put_age.ensures.capacity);
      counts = kept.counted;
      count_room = kept.places;
      batch_room = c.self.invariant.batch_room;
    }
