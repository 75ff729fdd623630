use Rattle.std.proofs.Common.{◌≡◌, ℕ, ◌+◌, ◌==◌, ◌||◌, Bool, get_or, take, refl, sym, ap, ◌∙◌}
use Rattle.std.specs.List.{list_any}
use Rattle.std.proofs.lemmas.Bool.{eq-eqb}
use Rattle.std.proofs.lemmas.List.Folds.{list_any_at, list_any_more}
use Rattle.prov_index.specs.Lists.{list_of, noted_if}
use Rattle.prov_index.proofs.Noting.{noted-twice}
use Rattle.prov_index.proofs.lists.note_all.Goals as goal

pub note-requires : goal.note-requires
note-requires c =
    let files = c.args.files.now in
    let i = c.loop-file.file-index in
    let file = get_or files i 0 in
    c.loop-file.invariant.kept file (c.requires file (list_any_at (λ f. f == file) files i 0 c.loop-file-test.true (eq-eqb file file refl)))

pub loop-file-preserved : goal.loop-file-preserved
loop-file-preserved c =
    let files = c.args.files.now in
    let i = c.loop-file.file-index in
    let number = c.args.number in
    record {
      lists = λ file.
          let named : Bool = list_any (λ f. f == file) (take i files) in
          let here : Bool = get_or files i 0 == file in
          let before = list_of c.args.lists.now file in
          c.note.ensures.lists file ∙ ap (noted_if here number) (c.loop-file.invariant.lists file) ∙ noted-twice named here number before
          ∙ ap (λ b. noted_if b number before) (sym (list_any_more (λ f. f == file) files i 0 c.loop-file-test.true));
      kept = λ file ready. c.note.ensures.kept file (c.loop-file.invariant.kept file ready);
    }
