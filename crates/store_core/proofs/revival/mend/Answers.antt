use Rattle.std.proofs.Common.{◌≡◌, ap, ◌∙◌}
use Rattle.std.specs.Prelude.{Some, Result, Ok, Err, OnOk}
use Rattle.disk_trait.specs.Images.{After}
use Rattle.disk_trait.proofs.Moments.{at_the_end}
use Rattle.flowfile_wal.specs.Steps.{LogState, KeepsLog, SameLog}
use Rattle.store_core.specs.Discard.{Discards}
use Rattle.store_core.proofs.Reviving.{mended_agrees, discarded_agrees, ready_number, discarded_ready, since_agrees, since_agreeing, same_events_logged, same_events_discarded, since_events, since_events_in_turn}
use Rattle.store_core.proofs.Touching.{revives_discarded, revives_log, since_revived, since_revives}
use Rattle.store_core.proofs.revival.mend.Goals as goal

with_others : {A E : Type 0} {P Q : Type 0} (r : Result A E) → (P → Q) → OnOk r P → OnOk r Q
with_others (Ok x) to p = to p
with_others (Err e) to p = tt

pub returns-in_err-mend-clause-images : goal.returns-in_err-mend-clause-images
returns-in_err-mend-clause-images g c needs plain =
    since_agrees g.D.Disk.moment g.D.Disk.images needs c.args.disk.now c.mend.new.disk (KeepsLog c.args.number) (c.mend.ensures.images c.args.number c.requires.number)
    (λ d e left step. mended_agrees needs c.args.number d e plain step)

pub returns-clause-images : goal.returns-clause-images
returns-clause-images g c needs plain =
    let number = c.args.number in
    let same : c.mend.new.self.number ≡ Some number = ap (λ (s : LogState). s.number) c.in_ok-mend.ensures.mended ∙ c.requires.number in
    since_agreeing g.D.Disk.moment g.D.Disk.images needs c.args.disk.now c.mend.new.disk c.discard.new.disk
    (since_agrees g.D.Disk.moment g.D.Disk.images needs c.args.disk.now c.mend.new.disk (KeepsLog number) (c.mend.ensures.images number c.requires.number)
    (λ d e left step. mended_agrees needs number d e plain step))
    (since_agrees g.D.Disk.moment g.D.Disk.images needs c.mend.new.disk c.discard.new.disk (Discards (Some number)) c.discard.ensures.images
    (λ d e left step. discarded_agrees needs number d e plain (ready_number c.mend.new.self number d same (c.in_ok-mend.ensures.ready.ready d left)) step))

pub returns-clause-whole : goal.returns-clause-whole
returns-clause-whole g c =
    let number = c.args.number in
    let mended = c.in_ok-mend.ensures.mended in
    let same : c.mend.new.self.number ≡ Some number = ap (λ (s : LogState). s.number) mended ∙ c.requires.number in
    with_others c.discard.result
    (λ others. record {
      current = same;
      mended = ap (λ (s : LogState). s.mended) mended;
      works = ap (λ (s : LogState). s.failed) mended ∙ c.requires.works;
      ready = λ e left.
          let after = at_the_end g.D.Disk.moment g.D.Disk.images c.mend.new.disk c.discard.new.disk
          (After (Discards (Some number)) (g.D.Disk.images c.mend.new.disk (g.D.Disk.moment c.mend.new.disk))) c.discard.ensures.images e left in
          discarded_ready c.mend.new.self number after.0 e same (c.in_ok-mend.ensures.ready.ready after.0 after.1) after.2;
      others = others;
    })
    c.discard.ensures.others

pub returns-in_err-mend-clause-revives : goal.returns-in_err-mend-clause-revives
returns-in_err-mend-clause-revives g c =
    let number = c.args.number in
    record {
      events =
          since_events g.D.Disk.moment g.D.Disk.images c.args.disk.now c.mend.new.disk (KeepsLog number) (c.mend.ensures.images number c.requires.number)
          (λ d e. same_events_logged number (SameLog number) d e);
      alone = since_revives g.D.Disk.moment g.D.Disk.images (Some number) c.args.disk.now c.mend.new.disk (KeepsLog number) (c.mend.ensures.images number c.requires.number) (revives_log number (SameLog number));
    }

pub returns-clause-revives : goal.returns-clause-revives
returns-clause-revives g c =
    let number = c.args.number in
    record {
      events =
          since_events_in_turn g.D.Disk.moment g.D.Disk.images c.args.disk.now c.mend.new.disk c.discard.new.disk
          (since_events g.D.Disk.moment g.D.Disk.images c.args.disk.now c.mend.new.disk (KeepsLog number) (c.mend.ensures.images number c.requires.number)
          (λ d e. same_events_logged number (SameLog number) d e))
          (since_events g.D.Disk.moment g.D.Disk.images c.mend.new.disk c.discard.new.disk (Discards (Some number)) c.discard.ensures.images
          (λ d e. same_events_discarded (Some number) d e));
      alone =
          since_revived g.D.Disk.moment g.D.Disk.images (Some number) c.args.disk.now c.mend.new.disk c.discard.new.disk
          (since_revives g.D.Disk.moment g.D.Disk.images (Some number) c.args.disk.now c.mend.new.disk (KeepsLog number) (c.mend.ensures.images number c.requires.number) (revives_log number (SameLog number)))
          (since_revives g.D.Disk.moment g.D.Disk.images (Some number) c.mend.new.disk c.discard.new.disk (Discards (Some number)) c.discard.ensures.images (revives_discarded (Some number)));
    }
