use Rattle.std.proofs.Common.{◌≡◌, inl, inr, ◌<◌, ◌⊎◌, false, [], length, sym, ap, subst, arith}
use Rattle.std.specs.VecDeque.{deque_capacity}
use Rattle.std.proofs.lemmas.Bool.{cases_lt}
use Rattle.flow_queue.specs.Counts.{AreCountsOf, count_places}
use Rattle.flow_queue.specs.Inside.{AreSound}
use Rattle.flow_queue.proofs.Fields.{on-err}
use Rattle.flow_queue.proofs.Ranks.{more-room, ranked-length, still-ranked}
use Rattle.flow_queue.proofs.queue.Queue.reserve.Goals as goal

pub returns-in_err-reserve-clause-fails : goal.returns-in_err-reserve-clause-fails
returns-in_err-reserve-clause-fails c =
    let queue = c.self.inside in
    let long = ranked-length queue.order queue.files.items queue.by_rank.items c.self.invariant.ranked in
    on-err c.from_residual.result ((c.args.self.now.spare < c.args.count) ⊎ (c.args.self.now.batch_room ≡ false))
    (inl (omega (arith, c.in_err-reserve.ensures.full, c.self.invariant.room, long, queue.by_rank.ok.0, ap (λ q. q.spare) c.self.view_is)))

pub returns-in_err-reserve_ages-clause-fails : goal.returns-in_err-reserve_ages-clause-fails
returns-in_err-reserve_ages-clause-fails c =
    let queue = c.self.inside in
    on-err c.from_residual-in_err-reserve_ages.result ((c.args.self.now.spare < c.args.count) ⊎ (c.args.self.now.batch_room ≡ false))
    (elim (cases_lt c.args.self.now.spare c.args.count) [
      | inl lt ↦ inl lt
      | inr ge ↦ absurd (c.in_err-reserve_ages.ensures.fails (λ expire.
          let long = ranked-length [] queue.files.items queue.by_age.items (c.self.invariant.ages expire) in
          omega (arith, ge, c.self.invariant.age_room expire, long, ap (λ q. q.spare) c.self.view_is)))
    ])

pub invariant_of-self-2 : goal.invariant_of-self-2
invariant_of-self-2 c =
    let queue = c.self.inside in
    let long = ranked-length queue.order queue.files.items queue.by_rank.items c.self.invariant.ranked in
    let roomy = more-room c.reserve-4.result queue.files.room c.reserve-4.new.self.room c.from-2.result (length queue.files.items) (deque_capacity c.reserve.new.self) c.reserve-4.ensures.ok c.reserve-4.ensures.err
    (omega (arith, c.in_ok-reserve.ensures.ok, c.in_ok-reserve.ensures.len, long, queue.by_rank.ok.0, c.from-2.ensures))
    (omega (arith, c.self.invariant.room, c.in_ok-reserve.ensures.capacity)) in
    let age-roomy = λ (expire : 0 < queue.limits.expiration).
    more-room c.reserve-4.result queue.files.room c.reserve-4.new.self.room c.from-2.result (length queue.files.items) (deque_capacity c.reserve_ages.new.ages) c.reserve-4.ensures.ok c.reserve-4.ensures.err
    (omega (arith, c.in_ok-reserve_ages.ensures.room expire, ranked-length [] queue.files.items queue.by_age.items (c.self.invariant.ages expire), c.from-2.ensures))
    (omega (arith, c.self.invariant.age_room expire, c.in_ok-reserve_ages.ensures.none_lost)) in
    let places = more-room c.reserve-4.result queue.files.room c.reserve-4.new.self.room c.from-2.result (length queue.files.items) (count_places c.reserve-3.new.self) c.reserve-4.ensures.ok c.reserve-4.ensures.err
    (omega (arith, c.in_ok-reserve-3.ensures.room, c.len.ensures.len, c.from.ensures, c.from-2.ensures))
    (omega (arith, c.self.invariant.count_room, c.in_ok-reserve-3.ensures.none_lost)) in
    record {
      files = subst (λ fs. AreSound fs queue.bytes) (sym c.reserve-4.ensures.items) c.self.invariant.files;
      ranked = still-ranked queue.order _ _ _ _ c.reserve-4.ensures.items c.in_ok-reserve.ensures.items c.self.invariant.ranked;
      room = omega (arith, roomy, ap length c.reserve-4.ensures.items);
      oldest_first = c.self.invariant.oldest_first;
      ages = λ expire. still-ranked [] _ _ _ _ c.reserve-4.ensures.items c.in_ok-reserve_ages.ensures.same (c.self.invariant.ages expire);
      age_room = λ expire. omega (arith, age-roomy expire, ap length c.reserve-4.ensures.items);
      counts = subst (AreCountsOf c.reserve-3.new.self) (sym c.reserve-4.ensures.items) (c.in_ok-reserve-3.ensures.counted queue.files.items c.self.invariant.counts);
      count_room = omega (arith, places, ap length c.reserve-4.ensures.items);
      batch_room = λ is. omega (arith, c.in_ok-reserve-2.ensures.ok);
    }
