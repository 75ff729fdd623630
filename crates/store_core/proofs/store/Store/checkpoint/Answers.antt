use Rattle.std.proofs.Common.{◌≡◌, ◌+◌, false, rules, refl, sym, ap, subst, ◌∙◌}
use Rattle.record_codec.specs.declared.TheConstants.{FORMAT_VERSION}
use Rattle.std.specs.Prelude.{Some}
use Rattle.flowfile_record.specs.Stored.{kept_of}
use Rattle.flowfile_wal.specs.Steps.{LogState}
use Rattle.flowfile_wal.proofs.Beginnings.{begun_in}
use Rattle.store_core.specs.Store.{StoreState, store_in, IsKeptOn}
use Rattle.store_core.proofs.Checkpointing.{MayCheckpoint, passed_next, renewed, kept_unless, images_taken, states_taken, alone_taken, images_dropped, states_dropped, alone_dropped, kept_dropped}
use Rattle.store_core.proofs.store.Store.checkpoint.Goals as goal

pub take_over-requires-clause-passed : goal.take_over-requires-clause-passed
take_over-requires-clause-passed g c κs within =
    let i = c.self.inside in
    let s = store_in i.state i.log i.entries i.contents i.opened.items i.events i.lot i.has_failed in
    let now = c.args.self.now in
    let moment = g.D.Disk.moment in
    let images = g.D.Disk.images in
    let number = c.log_number-number.result in
    let known : now.log.number ≡ Some number = c.log_number-number.ensures in
    let may : MayCheckpoint s number = record {
      current = ap (λ (t : StoreState). t.log.number) c.self.view_is ∙ known;
      next = c.requires.number number known;
      consistent = c.stored.ensures.consistent;
      no_batches = c.stored.ensures.no_batches;
    } in
    let laws = g.met.D.Disk g.world.𝓛 g.world.𝓜 g.world.𝓡 ((λ s x. x), (λ x. x), (λ x. x), λ x. x) in
    let kept = subst (λ (t : StoreState). IsKeptOn g.D.Disk.tells g.D.Disk.held moment images t c.args.disk.now) (sym c.self.view_is) c.requires.kept in
    λ d left. passed_next s number may d (kept.log c.if-self.false d left) (λ f past. laws.images_end c.args.disk.now (moment c.args.disk.now) d f left past)

pub returns-in-Err-clause-meaning : goal.returns-in-Err-clause-meaning
returns-in-Err-clause-meaning g c unfailed =
    let i = c.self.inside in
    let s = store_in i.state i.log i.entries i.contents i.opened.items i.events i.lot i.has_failed in
    let now = c.args.self.now in
    let moment = g.D.Disk.moment in
    let images = g.D.Disk.images in
    let number = c.log_number-number.result in
    let known : now.log.number ≡ Some number = c.log_number-number.ensures in
    let may : MayCheckpoint s number = record {
      current = ap (λ (t : StoreState). t.log.number) c.self.view_is ∙ known;
      next = c.requires.number number known;
      consistent = c.stored.ensures.consistent;
      no_batches = c.stored.ensures.no_batches;
    } in
    record {
      holds = images_taken g.D.Disk.tells g.D.Disk.held moment images s now number (kept_of c.stored.result.now) c.args.disk.now c.take_over.new.disk c.self.view_is c.stored.ensures.kept may c.if-self.false c.requires.kept c.take_over.ensures.images;
      states = states_taken g.D.Disk.tells g.D.Disk.held moment images s now number (kept_of c.stored.result.now) c.args.disk.now c.take_over.new.disk c.self.view_is c.stored.ensures.kept may c.if-self.false c.requires.kept c.take_over.ensures.images;
    }

pub returns-in-Err-clause-alone : goal.returns-in-Err-clause-alone
returns-in-Err-clause-alone g c =
    let i = c.self.inside in
    let s = store_in i.state i.log i.entries i.contents i.opened.items i.events i.lot i.has_failed in
    let now = c.args.self.now in
    let moment = g.D.Disk.moment in
    let images = g.D.Disk.images in
    let number = c.log_number-number.result in
    let known : now.log.number ≡ Some number = c.log_number-number.ensures in
    let may : MayCheckpoint s number = record {
      current = ap (λ (t : StoreState). t.log.number) c.self.view_is ∙ known;
      next = c.requires.number number known;
      consistent = c.stored.ensures.consistent;
      no_batches = c.stored.ensures.no_batches;
    } in
    alone_taken g.D.Disk.tells g.D.Disk.held moment images s now number (kept_of c.stored.result.now) c.args.disk.now c.take_over.new.disk c.self.view_is c.stored.ensures.kept may c.if-self.false c.requires.kept c.take_over.ensures.images

pub returns-in-Err-clause-kept : goal.returns-in-Err-clause-kept
returns-in-Err-clause-kept g c =
    let i = c.self.inside in
    let s = store_in i.state i.log i.entries i.contents i.opened.items i.events i.lot i.has_failed in
    let same : c.eq-self-inside.result ≡ false → c.take_over.new.disk ≡ c.args.disk.now = λ f. search rules in
    kept_unless g.D.Disk.tells g.D.Disk.held g.D.Disk.moment g.D.Disk.images s c.args.self.now c.eq-self-inside.result c.args.disk.now c.take_over.new.disk c.self.view_is c.if-self.false same c.requires.kept

pub begun-requires-after_bounds : goal.begun-requires-after_bounds
begun-requires-after_bounds g c κs within =
    let i = c.self.inside in
    let s = store_in i.state i.log i.entries i.contents i.opened.items i.events i.lot i.has_failed in
    let now = c.args.self.now in
    let moment = g.D.Disk.moment in
    let images = g.D.Disk.images in
    let number = c.log_number-number.result in
    let known : now.log.number ≡ Some number = c.log_number-number.ensures in
    let may : MayCheckpoint s number = record {
      current = ap (λ (t : StoreState). t.log.number) c.self.view_is ∙ known;
      next = c.requires.number number known;
      consistent = c.stored.ensures.consistent;
      no_batches = c.stored.ensures.no_batches;
    } in
    λ d left.
    let taken = c.in_default.ensures.taken d left in
    begun_in FORMAT_VERSION (number + 1) d refl (refl, may.next) taken.log.begun taken.log.greater

pub returns-in_default-drop_log-clause-meaning : goal.returns-in_default-drop_log-clause-meaning
returns-in_default-drop_log-clause-meaning g c unfailed =
    let i = c.self.inside in
    let s = store_in i.state i.log i.entries i.contents i.opened.items i.events i.lot i.has_failed in
    let now = c.args.self.now in
    let moment = g.D.Disk.moment in
    let images = g.D.Disk.images in
    let number = c.log_number-number.result in
    let known : now.log.number ≡ Some number = c.log_number-number.ensures in
    let may : MayCheckpoint s number = record {
      current = ap (λ (t : StoreState). t.log.number) c.self.view_is ∙ known;
      next = c.requires.number number known;
      consistent = c.stored.ensures.consistent;
      no_batches = c.stored.ensures.no_batches;
    } in
    record {
      holds = images_dropped g.D.Disk.tells g.D.Disk.held moment images s now number (kept_of c.stored.result.now) c.args.disk.now c.take_over.new.disk c.self.view_is c.stored.ensures.kept may c.if-self.false c.requires.kept c.take_over.ensures.images c.drop_log.new.disk c.in_default.ensures.taken c.drop_log.ensures.images;
      states = states_dropped g.D.Disk.tells g.D.Disk.held moment images s now number (kept_of c.stored.result.now) c.args.disk.now c.take_over.new.disk c.self.view_is c.stored.ensures.kept may c.if-self.false c.requires.kept c.take_over.ensures.images c.drop_log.new.disk c.in_default.ensures.taken c.drop_log.ensures.images;
    }

pub returns-in_default-drop_log-clause-alone : goal.returns-in_default-drop_log-clause-alone
returns-in_default-drop_log-clause-alone g c =
    let i = c.self.inside in
    let s = store_in i.state i.log i.entries i.contents i.opened.items i.events i.lot i.has_failed in
    let now = c.args.self.now in
    let moment = g.D.Disk.moment in
    let images = g.D.Disk.images in
    let number = c.log_number-number.result in
    let known : now.log.number ≡ Some number = c.log_number-number.ensures in
    let may : MayCheckpoint s number = record {
      current = ap (λ (t : StoreState). t.log.number) c.self.view_is ∙ known;
      next = c.requires.number number known;
      consistent = c.stored.ensures.consistent;
      no_batches = c.stored.ensures.no_batches;
    } in
    alone_dropped g.D.Disk.tells g.D.Disk.held moment images s now number (kept_of c.stored.result.now) c.args.disk.now c.take_over.new.disk c.self.view_is c.stored.ensures.kept may c.if-self.false c.requires.kept c.take_over.ensures.images c.drop_log.new.disk c.in_default.ensures.taken c.drop_log.ensures.images

pub returns-clause-meaning : goal.returns-clause-meaning
returns-clause-meaning g c unfailed =
    let i = c.self.inside in
    let s = store_in i.state i.log i.entries i.contents i.opened.items i.events i.lot i.has_failed in
    let now = c.args.self.now in
    let moment = g.D.Disk.moment in
    let images = g.D.Disk.images in
    let number = c.log_number-number.result in
    let known : now.log.number ≡ Some number = c.log_number-number.ensures in
    let may : MayCheckpoint s number = record {
      current = ap (λ (t : StoreState). t.log.number) c.self.view_is ∙ known;
      next = c.requires.number number known;
      consistent = c.stored.ensures.consistent;
      no_batches = c.stored.ensures.no_batches;
    } in
    record {
      holds = images_dropped g.D.Disk.tells g.D.Disk.held moment images s now number (kept_of c.stored.result.now) c.args.disk.now c.take_over.new.disk c.self.view_is c.stored.ensures.kept may c.if-self.false c.requires.kept c.take_over.ensures.images c.drop_log.new.disk c.in_default.ensures.taken c.drop_log.ensures.images;
      states = states_dropped g.D.Disk.tells g.D.Disk.held moment images s now number (kept_of c.stored.result.now) c.args.disk.now c.take_over.new.disk c.self.view_is c.stored.ensures.kept may c.if-self.false c.requires.kept c.take_over.ensures.images c.drop_log.new.disk c.in_default.ensures.taken c.drop_log.ensures.images;
    }

pub returns-clause-alone : goal.returns-clause-alone
returns-clause-alone g c =
    let i = c.self.inside in
    let s = store_in i.state i.log i.entries i.contents i.opened.items i.events i.lot i.has_failed in
    let now = c.args.self.now in
    let moment = g.D.Disk.moment in
    let images = g.D.Disk.images in
    let number = c.log_number-number.result in
    let known : now.log.number ≡ Some number = c.log_number-number.ensures in
    let may : MayCheckpoint s number = record {
      current = ap (λ (t : StoreState). t.log.number) c.self.view_is ∙ known;
      next = c.requires.number number known;
      consistent = c.stored.ensures.consistent;
      no_batches = c.stored.ensures.no_batches;
    } in
    alone_dropped g.D.Disk.tells g.D.Disk.held moment images s now number (kept_of c.stored.result.now) c.args.disk.now c.take_over.new.disk c.self.view_is c.stored.ensures.kept may c.if-self.false c.requires.kept c.take_over.ensures.images c.drop_log.new.disk c.in_default.ensures.taken c.drop_log.ensures.images

pub returns-clause-kept : goal.returns-clause-kept
returns-clause-kept g c =
    let i = c.self.inside in
    let s = store_in i.state i.log i.entries i.contents i.opened.items i.events i.lot i.has_failed in
    let now = c.args.self.now in
    let moment = g.D.Disk.moment in
    let images = g.D.Disk.images in
    let number = c.log_number-number.result in
    let known : now.log.number ≡ Some number = c.log_number-number.ensures in
    let may : MayCheckpoint s number = record {
      current = ap (λ (t : StoreState). t.log.number) c.self.view_is ∙ known;
      next = c.requires.number number known;
      consistent = c.stored.ensures.consistent;
      no_batches = c.stored.ensures.no_batches;
    } in
    subst (λ (log : LogState). IsKeptOn g.D.Disk.tells g.D.Disk.held moment images (record (renewed s number) { log = log }) c.drop_log.new.disk) (sym c.begun.ensures.state)
    (kept_dropped g.D.Disk.tells g.D.Disk.held moment images s now number (kept_of c.stored.result.now) c.args.disk.now c.take_over.new.disk c.self.view_is c.stored.ensures.kept may c.if-self.false c.requires.kept c.take_over.ensures.images c.drop_log.new.disk c.in_default.ensures.taken c.drop_log.ensures.images c.in_default.ensures.held c.in-Ok.ensures.held)
