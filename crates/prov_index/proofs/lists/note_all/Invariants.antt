use Rattle.std.proofs.Common.{◌≡◌, ℕ, ◌==◌, take}
use Rattle.std.specs.List.{list_any}
use Rattle.prov_index.specs.Lists.{list_of, noted_if, IsReadyAt}
use Rattle.prov_index.proofs.lists.note_all.Given as goal

abbrev pub invariant-loop-file : goal.invariant-loop-file
invariant-loop-file l = record {
  lists : (file : ℕ) → list_of l.lists file ≡ noted_if (list_any (λ f. f == file) (take l.file-index l.files)) l.number (list_of l.fn.lists file);
  kept : (file : ℕ) → IsReadyAt l.fn.lists l.number file → IsReadyAt l.lists l.number file;
}
