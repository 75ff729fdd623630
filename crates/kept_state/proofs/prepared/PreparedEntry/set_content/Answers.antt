use Rattle.std.proofs.Common.{length, sym, ap, ◌∙◌, subst, arith}
use Rattle.record_codec.specs.EntryEncoding.{entry as encoding, IsEntry}
use Rattle.record_codec.specs.Placeless.{placeless_entry}
use Rattle.record_codec.specs.declared.entry.LogEntry.{LogEntry}
use Rattle.kept_state.specs.Changes.{placed_in, HasContentLike}
use Rattle.record_codec.specs.Frames.{entry_frame}
use Rattle.kept_state.proofs.Contents.{is_entry_with, encoding_with, frame_with, placeless_same}
use Rattle.kept_state.proofs.prepared.PreparedEntry.set_content.Goals as goal

pub invariant_of-self : goal.invariant_of-self
invariant_of-self c =
    let e = c.self.inside.entry in
    let like = subst (λ (x : LogEntry). HasContentLike c.args.at c.args.place (placed_in x)) (sym c.self.view_is) c.requires.like in
    let was = c.self.invariant in
    let is = c.set_content_of.ensures in
    let size = ap (λ (x : LogEntry). length (encoding x)) is ∙ encoding_with e c.args.place c.args.at like in
    let framed = ap (λ (x : LogEntry). length (entry_frame x)) is ∙ frame_with e c.args.place c.args.at like in
    record {
      encoded = subst IsEntry (sym is) (is_entry_with e c.args.place c.args.at c.requires.encoded was.encoded);
      payload = omega (arith, size, was.payload);
      no_payload = was.no_payload;
      no_frame = was.no_frame;
      payload_room = omega (arith, size, was.payload_room);
      frame_room = omega (arith, framed, was.frame_room);
    }

pub returns-clause-same : goal.returns-clause-same
returns-clause-same c =
    let like = subst (λ (x : LogEntry). HasContentLike c.args.at c.args.place (placed_in x)) (sym c.self.view_is) c.requires.like in
    ap placeless_entry c.set_content_of.ensures ∙ placeless_same c.self.inside.entry c.args.place c.args.at like ∙ ap placeless_entry c.self.view_is
