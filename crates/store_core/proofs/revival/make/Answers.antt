use Rattle.std.proofs.Common.{length, ap, ◌∙◌}
use Rattle.std.specs.Prelude.{ℕ, List, None}
use Rattle.flowfile_record.specs.Stored.{kept_of}
use Rattle.record_codec.specs.declared.TheConstants.{FORMAT_VERSION}
use Rattle.checkpoint_store.specs.Begun.{IsBegunOrNot, log_file}
use Rattle.checkpoint_store.specs.Snapshot.{snapshot, snapshot_file}
use Rattle.disk_trait.specs.Files.{Files, At, Torn}
use Rattle.disk_trait.specs.Images.{After, Since}
use Rattle.flowfile_wal.specs.Steps.{LogState}
use Rattle.store_core.specs.Discard.{Discards}
use Rattle.store_core.proofs.Reviving.{EventsStaying, same_events_discarded, same_events_logged, same_events_snapshot, since_events, since_events_in_turn}
use Rattle.store_core.proofs.Made.{since_discards, since_snapshot}
use Rattle.store_core.proofs.MadeSteps.{begun_files, since_unmade, since_begin, made_at_the_end, each_staged, unmade_images}
use Rattle.store_core.proofs.Leftovers.{no_others_made}
use Rattle.store_core.proofs.Touching.{revives_discarded, revives_first_log, revives_first_snapshot, since_revived, since_revives}
use Rattle.store_core.proofs.revival.make.Goals as goal

module _ {D : Type 0} (moment : D → ℕ) (images : D → ℕ → Files → Type 0) where
  since_discarded : (old new : D) → Since moment images old new (After (Discards None) (images old (moment old))) → Since moment images old new (EventsStaying moment images old)
  since_discarded old new since = since_events moment images old new (Discards None) since (λ d e. same_events_discarded None d e)

  since_written : (P : List ℕ → List ℕ → Type 0) (old mid new : D) → Since moment images old mid (After (Discards None) (images old (moment old)))
      → Since moment images mid new (After (At (snapshot_file 1) P) (images mid (moment mid))) → Since moment images old new (EventsStaying moment images old)
  since_written P old mid new first second =
      since_events_in_turn moment images old mid new (since_discarded old mid first)
      (since_events moment images mid new (At (snapshot_file 1) P) second (λ d e. same_events_snapshot 1 P d e))

  since_begun : (P Q : List ℕ → List ℕ → Type 0) (old mid next new : D) → Since moment images old mid (After (Discards None) (images old (moment old)))
      → Since moment images mid next (After (At (snapshot_file 1) P) (images mid (moment mid)))
      → Since moment images next new (After (At (log_file 1) Q) (images next (moment next))) → Since moment images old new (EventsStaying moment images old)
  since_begun P Q old mid next new first second third =
      since_events_in_turn moment images old next new (since_written P old mid next first second)
      (since_events moment images next new (At (log_file 1) Q) third (λ d e. same_events_logged 1 Q d e))

pub returns-in_err-discard-clause-images : goal.returns-in_err-discard-clause-images
returns-in_err-discard-clause-images g c =
    let moment = g.D.Disk.moment in
    let images = g.D.Disk.images in
    let laws = g.met.D.Disk g.world.𝓛 g.world.𝓜 g.world.𝓡 ((λ s x. x), (λ x. x), (λ x. x), λ x. x) in
    let d0 = c.args.disk.now in
    let d1 = c.discard.new.disk in
    let k = kept_of c.args.stored.now in
    since_unmade moment images k d0 d1
    (since_discards moment images d0 d1 (unmade_images moment images g.D.Disk.tells g.D.Disk.held d0 (λ d left. laws.left_is_told d0 (moment d0) d left) c.requires.synced c.requires.unmade) c.discard.ensures.images)

pub returns-in_err-write-clause-images : goal.returns-in_err-write-clause-images
returns-in_err-write-clause-images g c =
    let moment = g.D.Disk.moment in
    let images = g.D.Disk.images in
    let laws = g.met.D.Disk g.world.𝓛 g.world.𝓜 g.world.𝓡 ((λ s x. x), (λ x. x), (λ x. x), λ x. x) in
    let d0 = c.args.disk.now in
    let d1 = c.discard.new.disk in
    let d2 = c.write.new.disk in
    let k = kept_of c.args.stored.now in
    since_unmade moment images k d0 d2
    (since_snapshot moment images d0 d1 d2 (Torn 0 (length (snapshot FORMAT_VERSION k)))
    (since_discards moment images d0 d1 (unmade_images moment images g.D.Disk.tells g.D.Disk.held d0 (λ d left. laws.left_is_told d0 (moment d0) d left) c.requires.synced c.requires.unmade) c.discard.ensures.images)
    c.write.ensures.images)

pub begin-requires-clause-ready : goal.begin-requires-clause-ready
begin-requires-clause-ready g c κs within = λ d left.
    let moment = g.D.Disk.moment in
    let images = g.D.Disk.images in
    let laws = g.met.D.Disk g.world.𝓛 g.world.𝓜 g.world.𝓡 ((λ s x. x), (λ x. x), (λ x. x), λ x. x) in
    let d1 = c.discard.new.disk in
    let d2 = c.write.new.disk in
    (each_staged moment images g.D.Disk.tells g.D.Disk.held (kept_of c.args.stored.now) d1 d2 (λ d left. laws.left_is_told d2 (moment d2) d left) c.in_ok-write.ensures.synced (λ told. (c.in_ok-discard.ensures.others told).logs) c.in_ok-write.ensures.written d left).begin

pub returns-in_err-begin-clause-images : goal.returns-in_err-begin-clause-images
returns-in_err-begin-clause-images g c =
    let moment = g.D.Disk.moment in
    let images = g.D.Disk.images in
    let laws = g.met.D.Disk g.world.𝓛 g.world.𝓜 g.world.𝓡 ((λ s x. x), (λ x. x), (λ x. x), λ x. x) in
    let d0 = c.args.disk.now in
    let d1 = c.discard.new.disk in
    let d2 = c.write.new.disk in
    let k = kept_of c.args.stored.now in
    since_begin moment images k d0 d2 c.begin.new.disk
    (since_snapshot moment images d0 d1 d2 (Torn 0 (length (snapshot FORMAT_VERSION k)))
    (since_discards moment images d0 d1 (unmade_images moment images g.D.Disk.tells g.D.Disk.held d0 (λ d left. laws.left_is_told d0 (moment d0) d left) c.requires.synced c.requires.unmade) c.discard.ensures.images)
    c.write.ensures.images)
    (each_staged moment images g.D.Disk.tells g.D.Disk.held k d1 d2 (λ d left. laws.left_is_told d2 (moment d2) d left) c.in_ok-write.ensures.synced (λ told. (c.in_ok-discard.ensures.others told).logs) c.in_ok-write.ensures.written)
    c.begin.ensures.images

pub begun-requires-after_bounds : goal.begun-requires-after_bounds
begun-requires-after_bounds g c κs within = λ d left. begun_files d (c.in_ok-begin.ensures.begun d left)

pub returns-clause-images : goal.returns-clause-images
returns-clause-images g c =
    let moment = g.D.Disk.moment in
    let images = g.D.Disk.images in
    let laws = g.met.D.Disk g.world.𝓛 g.world.𝓜 g.world.𝓡 ((λ s x. x), (λ x. x), (λ x. x), λ x. x) in
    let d0 = c.args.disk.now in
    let d1 = c.discard.new.disk in
    let d2 = c.write.new.disk in
    let k = kept_of c.args.stored.now in
    since_begin moment images k d0 d2 c.begin.new.disk
    (since_snapshot moment images d0 d1 d2 (Torn 0 (length (snapshot FORMAT_VERSION k)))
    (since_discards moment images d0 d1 (unmade_images moment images g.D.Disk.tells g.D.Disk.held d0 (λ d left. laws.left_is_told d0 (moment d0) d left) c.requires.synced c.requires.unmade) c.discard.ensures.images)
    c.write.ensures.images)
    (each_staged moment images g.D.Disk.tells g.D.Disk.held k d1 d2 (λ d left. laws.left_is_told d2 (moment d2) d left) c.in_ok-write.ensures.synced (λ told. (c.in_ok-discard.ensures.others told).logs) c.in_ok-write.ensures.written)
    c.begin.ensures.images

pub returns-clause-made : goal.returns-clause-made
returns-clause-made g c =
    let moment = g.D.Disk.moment in
    let images = g.D.Disk.images in
    let laws = g.met.D.Disk g.world.𝓛 g.world.𝓜 g.world.𝓡 ((λ s x. x), (λ x. x), (λ x. x), λ x. x) in
    let d0 = c.args.disk.now in
    let d1 = c.discard.new.disk in
    let d2 = c.write.new.disk in
    let k = kept_of c.args.stored.now in
    made_at_the_end moment images k d0 d2 c.begin.new.disk
    (since_snapshot moment images d0 d1 d2 (Torn 0 (length (snapshot FORMAT_VERSION k)))
    (since_discards moment images d0 d1 (unmade_images moment images g.D.Disk.tells g.D.Disk.held d0 (λ d left. laws.left_is_told d0 (moment d0) d left) c.requires.synced c.requires.unmade) c.discard.ensures.images)
    c.write.ensures.images)
    (each_staged moment images g.D.Disk.tells g.D.Disk.held k d1 d2 (λ d left. laws.left_is_told d2 (moment d2) d left) c.in_ok-write.ensures.synced (λ told. (c.in_ok-discard.ensures.others told).logs) c.in_ok-write.ensures.written)
    c.begin.ensures.images c.in_ok-begin.ensures.begun

pub returns-in_err-discard-clause-revives : goal.returns-in_err-discard-clause-revives
returns-in_err-discard-clause-revives g c = record {
  events =
      since_discarded g.D.Disk.moment g.D.Disk.images c.args.disk.now c.discard.new.disk c.discard.ensures.images;
  alone =
      since_revives g.D.Disk.moment g.D.Disk.images None c.args.disk.now c.discard.new.disk (Discards None) c.discard.ensures.images (revives_discarded None);
}

pub returns-in_err-write-clause-revives : goal.returns-in_err-write-clause-revives
returns-in_err-write-clause-revives g c = record {
  events =
      since_written g.D.Disk.moment g.D.Disk.images (Torn 0 (length (snapshot FORMAT_VERSION (kept_of c.args.stored.now)))) c.args.disk.now c.discard.new.disk c.write.new.disk
      c.discard.ensures.images c.write.ensures.images;
  alone =
      let moment = g.D.Disk.moment in
      let images = g.D.Disk.images in
      let d0 = c.args.disk.now in
      let d1 = c.discard.new.disk in
      let d2 = c.write.new.disk in
      let torn = Torn 0 (length (snapshot FORMAT_VERSION (kept_of c.args.stored.now))) in
      since_revived moment images None d0 d1 d2
      (since_revives moment images None d0 d1 (Discards None) c.discard.ensures.images (revives_discarded None))
      (since_revives moment images None d1 d2 (At (snapshot_file 1) torn) c.write.ensures.images (revives_first_snapshot torn));
}

pub returns-in_err-begin-clause-revives : goal.returns-in_err-begin-clause-revives
returns-in_err-begin-clause-revives g c = record {
  events =
      since_begun g.D.Disk.moment g.D.Disk.images (Torn 0 (length (snapshot FORMAT_VERSION (kept_of c.args.stored.now)))) (λ before now. IsBegunOrNot FORMAT_VERSION 1 now) c.args.disk.now c.discard.new.disk c.write.new.disk c.begin.new.disk
      c.discard.ensures.images c.write.ensures.images c.begin.ensures.images;
  alone =
      let moment = g.D.Disk.moment in
      let images = g.D.Disk.images in
      let d0 = c.args.disk.now in
      let d1 = c.discard.new.disk in
      let d2 = c.write.new.disk in
      let d3 = c.begin.new.disk in
      let torn = Torn 0 (length (snapshot FORMAT_VERSION (kept_of c.args.stored.now))) in
      since_revived moment images None d0 d2 d3
      (since_revived moment images None d0 d1 d2
      (since_revives moment images None d0 d1 (Discards None) c.discard.ensures.images (revives_discarded None))
      (since_revives moment images None d1 d2 (At (snapshot_file 1) torn) c.write.ensures.images (revives_first_snapshot torn)))
      (since_revives moment images None d2 d3 (At (log_file 1) (λ old new. IsBegunOrNot FORMAT_VERSION 1 new)) c.begin.ensures.images (revives_first_log (λ old new. IsBegunOrNot FORMAT_VERSION 1 new)));
}

pub returns-clause-revives : goal.returns-clause-revives
returns-clause-revives g c = record {
  events =
      since_begun g.D.Disk.moment g.D.Disk.images (Torn 0 (length (snapshot FORMAT_VERSION (kept_of c.args.stored.now)))) (λ before now. IsBegunOrNot FORMAT_VERSION 1 now) c.args.disk.now c.discard.new.disk c.write.new.disk c.begin.new.disk
      c.discard.ensures.images c.write.ensures.images c.begin.ensures.images;
  alone =
      let moment = g.D.Disk.moment in
      let images = g.D.Disk.images in
      let d0 = c.args.disk.now in
      let d1 = c.discard.new.disk in
      let d2 = c.write.new.disk in
      let d3 = c.begin.new.disk in
      let torn = Torn 0 (length (snapshot FORMAT_VERSION (kept_of c.args.stored.now))) in
      since_revived moment images None d0 d2 d3
      (since_revived moment images None d0 d1 d2
      (since_revives moment images None d0 d1 (Discards None) c.discard.ensures.images (revives_discarded None))
      (since_revives moment images None d1 d2 (At (snapshot_file 1) torn) c.write.ensures.images (revives_first_snapshot torn)))
      (since_revives moment images None d2 d3 (At (log_file 1) (λ old new. IsBegunOrNot FORMAT_VERSION 1 new)) c.begin.ensures.images (revives_first_log (λ old new. IsBegunOrNot FORMAT_VERSION 1 new)));
}

pub returns-clause-whole : goal.returns-clause-whole
returns-clause-whole g c =
    let state = c.begun.ensures.state in
    record {
      current = ap (λ (s : LogState). s.number) state;
      mended = ap (λ (s : LogState). s.mended) state;
      works = ap (λ (s : LogState). s.failed) state ∙ c.requires.works;
      ready = c.begun.ensures.ready;
      others = λ told.
          let laws = g.met.D.Disk g.world.𝓛 g.world.𝓜 g.world.𝓡 ((λ s x. x), (λ x. x), (λ x. x), λ x. x) in
          no_others_made g.D.Disk.moment g.D.Disk.images g.D.Disk.held _ _ c.discard.new.disk c.write.new.disk c.begin.new.disk (c.in_ok-discard.ensures.others told) (c.in_ok-write.ensures.written told)
          c.in_ok-write.ensures.synced c.begin.ensures.images (laws.held_is_left c.begin.new.disk told);
    }
