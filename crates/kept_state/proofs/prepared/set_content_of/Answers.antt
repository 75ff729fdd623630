use Rattle.std.proofs.Common.{subst}
use Rattle.record_codec.specs.declared.entry.LogEntry.{LogEntry}
use Rattle.kept_state.specs.Changes.{placed_in, HasContentLike}
use Rattle.kept_state.proofs.Contents.{within}
use Rattle.kept_state.proofs.prepared.set_content_of.Goals as goal

pub set_content_at-requires : goal.set_content_at-requires
set_content_at-requires c =
    let like = subst (λ (e : LogEntry). HasContentLike c.args.at c.args.place (placed_in e)) c.in-Session.is c.requires in
    within c.args.place c.args.at c.in-Session.session.placed like
