use Rattle.std.proofs.Common.{◌≡◌, ap, sym, ◌∙◌}
use Rattle.std.specs.Prelude.{Some, slice_get}
use Rattle.store_core.specs.Placing.{references_of}
use Rattle.kept_state.specs.Changes.{placed_in}
use Rattle.store_core.proofs.PlacingOne.{like_shared, share_held, shared_placed}
use Rattle.store_core.proofs.contents.share_content.Goals as goal

pub hold-requires-clause-held : goal.hold-requires-clause-held
hold-requires-clause-held c =
    let there : slice_get (references_of (placed_in c.args.entry.now)) c.args.original ≡ Some c.in-Some.at = ap (slice_get (references_of (placed_in c.args.entry.now))) (sym c.from.ensures) ∙ sym c.content_at.ensures.content ∙ c.in-Some.is in
    share_held c.args.original c.args.one.now c.args.contents.now (placed_in c.args.entry.now) c.in-Some.at c.requires.may there

pub set_content-requires-clause-like : goal.set_content-requires-clause-like
set_content-requires-clause-like c =
    let there : slice_get (references_of (placed_in c.args.entry.now)) c.args.original ≡ Some c.in-Some.at = ap (slice_get (references_of (placed_in c.args.entry.now))) (sym c.from.ensures) ∙ sym c.content_at.ensures.content ∙ c.in-Some.is in
    like_shared c.args.place c.args.original c.args.one.now c.args.contents.now (placed_in c.args.entry.now) c.in-Some.at c.requires.recorded c.requires.may there

pub returns-clause-placed : goal.returns-clause-placed
returns-clause-placed c tells files =
    let there : slice_get (references_of (placed_in c.args.entry.now)) c.args.original ≡ Some c.in-Some.at = ap (slice_get (references_of (placed_in c.args.entry.now))) (sym c.from.ensures) ∙ sym c.content_at.ensures.content ∙ c.in-Some.is in
    shared_placed tells files c.args.place c.args.original c.args.one.now c.args.contents.now c.hold.new.self c.in-Some.at c.args.entry.now c.set_content.new.self
    c.requires.shares c.requires.may there c.hold.ensures.value c.hold.ensures.held c.set_content.ensures.entry
