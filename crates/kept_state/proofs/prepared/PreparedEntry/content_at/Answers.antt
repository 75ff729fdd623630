use Rattle.kept_state.proofs.Contents.{content_encoded}
use Rattle.kept_state.proofs.prepared.PreparedEntry.content_at.Goals as goal

pub returns-clause-encoded : goal.returns-clause-encoded
returns-clause-encoded c =
    let there = c.in-Some.ensures.lookup in
    content_encoded c.self.inside.entry c.args.place c.in-Some.active.now c.self.invariant.encoded (rw c.placed_in.ensures at there.3.0) (rw c.placed_in.ensures at there.1)
