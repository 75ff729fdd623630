use Rattle.std.proofs.Common.{◌≡◌, ◌<◌, List, length, set, sym, ap, subst, ◌∙◌}
use Rattle.flowfile_record.specs.declared.stored.ActiveFile.{ActiveFile}
use Rattle.kept_state.specs.Changes.{at_content, with_content_at}
use Rattle.kept_state.proofs.Contents.{set-content}
use Rattle.kept_state.proofs.prepared.set_content_at.Goals as goal

pub returns : goal.returns
returns c =
    let items = c.into_vec-files.result.items in
    let old = c.index_mut-active.result.now in
    let are : items ≡ c.args.placed.now = c.into_vec-files.ensures ∙ c.replace.ensures.value in
    let lt : c.args.place < length items = subst (λ (l : List ActiveFile). c.args.place < length l) (sym are) c.requires in
    let is = ap (λ (a : ActiveFile). set items c.args.place (at_content c.args.at a)) c.index_mut-active.ensures.value in
    c.from.ensures ∙ is ∙ set-content c.args.place c.args.at items old lt ∙ ap (with_content_at c.args.place c.args.at) are
