use Rattle.std.proofs.Common.{sym, subst}
use Rattle.disk_trait.specs.Files.{Files}
use Rattle.content_repo.specs.Claims.{content_in}
use Rattle.store_core.specs.Seen.{kept_seen, IsSeenOn}
use Rattle.store_core.specs.State.{state_with}
use Rattle.flow_query.proofs.Refusing.{sound_answer}
use Rattle.flow_query.proofs.asking.answer.Goals as goal

pub returns-clause-sound : goal.returns-clause-sound
returns-clause-sound g c told =
    let files = g.D.Disk.held c.args.disk.now in
    let s = c.in_ok-seen.seen in
    let seen = c.in_ok-seen.ensures.seen told in
    sound_answer files _ _ c.show.result (state_with (content_in files) seen.events.events (kept_seen s), seen.stands)
    (λ damage is. c.show.ensures.undamaged damage is told (subst (λ (f : Files). IsSeenOn f s) (sym c.read_store.ensures.stays.files) seen))
