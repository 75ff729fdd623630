use Rattle.std.proofs.Common.{◌≡◌, ℕ, ◌==◌, true, take}
use Rattle.std.specs.List.{list_any}
use Rattle.prov_index.specs.Lists.{list_of, IsReadyAt}
use Rattle.prov_index.proofs.lists.reserve_all.Given as goal

abbrev pub invariant-loop-file : goal.invariant-loop-file
invariant-loop-file l = record {
  same : (file : ℕ) → list_of l.lists file ≡ list_of l.fn.lists file;
  kept : (file : ℕ) → IsReadyAt l.fn.lists l.number file → IsReadyAt l.lists l.number file;
  ready : (file : ℕ) → list_any (λ f. f == file) (take l.file-index l.files) ≡ true → IsReadyAt l.lists l.number file;
}
