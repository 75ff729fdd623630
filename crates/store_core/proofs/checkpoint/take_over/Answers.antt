use Rattle.std.proofs.Common.{length}
use Rattle.disk_trait.specs.Files.{Torn}
use Rattle.disk_trait.specs.Images.{Since}
use Rattle.flowfile_record.specs.Stored.{kept_of}
use Rattle.record_codec.specs.declared.TheConstants.{FORMAT_VERSION}
use Rattle.checkpoint_store.specs.Snapshot.{snapshot}
use Rattle.flowfile_wal.specs.Calls.{InEach}
use Rattle.store_core.proofs.NextLog.{IsStaged}
use Rattle.store_core.proofs.TakingOver.{since_written, since_emptied, since_prepared, since_begun, each_staged, taken_at_the_end, Preparing}
use Rattle.store_core.proofs.checkpoint.take_over.Goals as goal

pub returns-in_err-write-clause-images : goal.returns-in_err-write-clause-images
returns-in_err-write-clause-images g c =
    let moment = g.D.Disk.moment in
    let images = g.D.Disk.images in
    let number = c.args.number in
    let k = kept_of c.args.stored.now in
    let d0 = c.args.disk.now in
    let d1 = c.write.new.disk in
    since_prepared moment images number k d0 d1
    (since_written moment images number (Torn 0 (length (snapshot FORMAT_VERSION k))) d0 d1 c.requires.passed c.write.ensures.images)

pub returns-in_err-empty_log-clause-images : goal.returns-in_err-empty_log-clause-images
returns-in_err-empty_log-clause-images g c =
    let moment = g.D.Disk.moment in
    let images = g.D.Disk.images in
    let number = c.args.number in
    let k = kept_of c.args.stored.now in
    let d0 = c.args.disk.now in
    let d1 = c.write.new.disk in
    let d2 = c.empty_log.new.disk in
    since_prepared moment images number k d0 d2
    (since_emptied moment images number d0 d1 d2
    (since_written moment images number (Torn 0 (length (snapshot FORMAT_VERSION k))) d0 d1 c.requires.passed c.write.ensures.images)
    c.empty_log.ensures.images)

pub begin-requires-clause-ready : goal.begin-requires-clause-ready
begin-requires-clause-ready g c κs within = λ d left.
    let moment = g.D.Disk.moment in
    let images = g.D.Disk.images in
    let laws = g.met.D.Disk g.world.𝓛 g.world.𝓜 g.world.𝓡 ((λ s x. x), (λ x. x), (λ x. x), λ x. x) in
    let number = c.args.number in
    let k = kept_of c.args.stored.now in
    let d0 = c.args.disk.now in
    let d1 = c.write.new.disk in
    let d2 = c.empty_log.new.disk in
    let since : Since moment images d0 d2 (Preparing moment images number d0) =
    since_emptied moment images number d0 d1 d2
    (since_written moment images number (Torn 0 (length (snapshot FORMAT_VERSION k))) d0 d1 c.requires.passed c.write.ensures.images)
    c.empty_log.ensures.images in
    (each_staged moment images number k g.D.Disk.tells g.D.Disk.held d0 d1 d2 c.in_ok-write.ensures.written c.in_ok-empty_log.ensures.emptied c.in_ok-empty_log.ensures.synced
    (λ f is. laws.left_is_told d2 (moment d2) f is) since d left).begin

pub returns-in_err-begin-clause-images : goal.returns-in_err-begin-clause-images
returns-in_err-begin-clause-images g c =
    let moment = g.D.Disk.moment in
    let images = g.D.Disk.images in
    let laws = g.met.D.Disk g.world.𝓛 g.world.𝓜 g.world.𝓡 ((λ s x. x), (λ x. x), (λ x. x), λ x. x) in
    let number = c.args.number in
    let k = kept_of c.args.stored.now in
    let d0 = c.args.disk.now in
    let d1 = c.write.new.disk in
    let d2 = c.empty_log.new.disk in
    let since : Since moment images d0 d2 (Preparing moment images number d0) =
    since_emptied moment images number d0 d1 d2
    (since_written moment images number (Torn 0 (length (snapshot FORMAT_VERSION k))) d0 d1 c.requires.passed c.write.ensures.images)
    c.empty_log.ensures.images in
    let staged : InEach (images d2 (moment d2)) (IsStaged number k) =
    each_staged moment images number k g.D.Disk.tells g.D.Disk.held d0 d1 d2 c.in_ok-write.ensures.written c.in_ok-empty_log.ensures.emptied c.in_ok-empty_log.ensures.synced
    (λ f is. laws.left_is_told d2 (moment d2) f is) since in
    since_begun moment images number k d0 d2 c.begin.new.disk since staged c.begin.ensures.images

pub returns-clause-images : goal.returns-clause-images
returns-clause-images g c =
    let moment = g.D.Disk.moment in
    let images = g.D.Disk.images in
    let laws = g.met.D.Disk g.world.𝓛 g.world.𝓜 g.world.𝓡 ((λ s x. x), (λ x. x), (λ x. x), λ x. x) in
    let number = c.args.number in
    let k = kept_of c.args.stored.now in
    let d0 = c.args.disk.now in
    let d1 = c.write.new.disk in
    let d2 = c.empty_log.new.disk in
    let since : Since moment images d0 d2 (Preparing moment images number d0) =
    since_emptied moment images number d0 d1 d2
    (since_written moment images number (Torn 0 (length (snapshot FORMAT_VERSION k))) d0 d1 c.requires.passed c.write.ensures.images)
    c.empty_log.ensures.images in
    let staged : InEach (images d2 (moment d2)) (IsStaged number k) =
    each_staged moment images number k g.D.Disk.tells g.D.Disk.held d0 d1 d2 c.in_ok-write.ensures.written c.in_ok-empty_log.ensures.emptied c.in_ok-empty_log.ensures.synced
    (λ f is. laws.left_is_told d2 (moment d2) f is) since in
    since_begun moment images number k d0 d2 c.begin.new.disk since staged c.begin.ensures.images

pub returns-clause-taken : goal.returns-clause-taken
returns-clause-taken g c =
    let moment = g.D.Disk.moment in
    let images = g.D.Disk.images in
    let laws = g.met.D.Disk g.world.𝓛 g.world.𝓜 g.world.𝓡 ((λ s x. x), (λ x. x), (λ x. x), λ x. x) in
    let number = c.args.number in
    let k = kept_of c.args.stored.now in
    let d0 = c.args.disk.now in
    let d1 = c.write.new.disk in
    let d2 = c.empty_log.new.disk in
    let since : Since moment images d0 d2 (Preparing moment images number d0) =
    since_emptied moment images number d0 d1 d2
    (since_written moment images number (Torn 0 (length (snapshot FORMAT_VERSION k))) d0 d1 c.requires.passed c.write.ensures.images)
    c.empty_log.ensures.images in
    let staged : InEach (images d2 (moment d2)) (IsStaged number k) =
    each_staged moment images number k g.D.Disk.tells g.D.Disk.held d0 d1 d2 c.in_ok-write.ensures.written c.in_ok-empty_log.ensures.emptied c.in_ok-empty_log.ensures.synced
    (λ f is. laws.left_is_told d2 (moment d2) f is) since in
    taken_at_the_end moment images number k d2 c.begin.new.disk staged c.begin.ensures.images c.in_ok-begin.ensures.begun
