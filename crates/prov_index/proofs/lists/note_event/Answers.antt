use Rattle.std.proofs.Common.{◌==◌, ℕ, List, ap, ◌∙◌}
use Rattle.std.specs.List.{list_any}
use Rattle.prov_index.specs.Lists.{list_of, noted_if}
use Rattle.prov_index.proofs.Noting.{noted-thrice}
use Rattle.prov_index.proofs.lists.note_event.Goals as goal

pub returns : goal.returns
returns c = λ file.
    let event = c.args.event.now in
    let number = event.number in
    let among : List ℕ → List ℕ → List ℕ = λ before files. noted_if (list_any (λ f. f == file) files) number before in
    let parents = c.note_all.ensures.lists file ∙ ap (among (list_of c.note.new.lists file)) c.as_slice.ensures in
    let children = c.note_all-2.ensures.lists file ∙ ap (among (list_of c.note_all.new.lists file)) c.as_slice-2.ensures in
    noted-thrice (event.file == file) (list_any (λ f. f == file) event.parents) (list_any (λ f. f == file) event.children) number
    (list_of c.args.lists.now file) (list_of c.note.new.lists file) (list_of c.note_all.new.lists file) _ (c.note.ensures.lists file) parents children
