-- What stands in a claim when a content is written at its end.
use Rattle.std.proofs.Common.{◌≡◌, ℕ, ◌+◌, ◌<◌, ◌≤◌, true, List, [], ◌++◌, length, take, drop, sym, ap, subst, ◌∙◌, inl, inr, arith, length-append, length-drop, get_or-set_same, get_or-set_other}
use Rattle.std.proofs.lemmas.Bool.{cases_eq}
use Rattle.std.proofs.Math.Seq.{drop-append_seam}
use Rattle.std.proofs.lemmas.List.{take_all, take-take, drop-take, nil_from_length, append-nil}
use Rattle.std.specs.Prelude.{Some}
use Rattle.disk_trait.specs.Files.{Files, At, Overwritten, Torn}
use Rattle.disk_trait.specs.declared.file_name.FileName.{FileName}
use Rattle.flowfile_record.specs.declared.content.ContentRef.{ContentRef}
use Rattle.content_repo.specs.declared.slot.Slot.{Slot}
use Rattle.content_repo.specs.Append.{IsWritten, KeepsContents}
use Rattle.content_repo.specs.Claims.{claim, content_in, HasSizes}
use Rattle.content_repo.specs.Slots.{unused, count_of, size_of, end_of, next_slot, taken}

-- what is read of bytes with the same front
same_front : (z offset size : ℕ) (a b : List ℕ) → offset + size ≤ z → take z a ≡ take z b → take size (drop offset a) ≡ take size (drop offset b)
same_front z offset size a b within same =
    sym (drop-take offset size a)
    ∙ ap (drop offset) (sym (take-take (offset + size) z a within) ∙ ap (take (offset + size)) same ∙ take-take (offset + size) z b within)
    ∙ drop-take offset size b

torn_kept : (k z n : ℕ) (old new : Files) (at : ContentRef) → At (claim k) (Torn z n) old new → (at.slot ≡ k → end_of at ≤ z) → content_in new at ≡ content_in old at
torn_kept k z n old new at step within =
    elim (cases_eq at.slot k) [
      | inl same ↦
          let front : take z (new (claim at.slot)) ≡ take z (old (claim at.slot)) = subst (λ (j : ℕ). take z (new (claim j)) ≡ take z (old (claim j))) (sym same) step.here.front in
          same_front z at.offset at.size (new (claim at.slot)) (old (claim at.slot)) (within same) front
      | inr differs ↦
          ap (λ (bytes : List ℕ). take at.size (drop at.offset bytes)) (step.others (claim at.slot) (λ e. differs (ap (λ (f : FileName). f.number) e)))
    ]

appended_sizes : (slots : List Slot) (k : ℕ) (bytes : List ℕ) (old new : Files) → k < length slots → HasSizes slots old
    → At (claim k) (λ a b. b ≡ a ++ bytes) old new → HasSizes (taken slots k (size_of slots k + length bytes)) new
appended_sizes slots k bytes old new within sizes step j =
    let size = size_of slots k + length bytes in
    let slot : Slot = record { live = true; count = count_of slots k + 1; size = size } in
    elim (cases_eq j k) [
      | inl same ↦
          let here : size_of (taken slots k size) j ≡ size = ap (size_of (taken slots k size)) same ∙ ap (λ (s : Slot). s.size) (get_or-set_same slots k slot unused within) in
          let long : length (new (claim j)) ≡ length (old (claim j)) + length bytes =
          subst (λ (i : ℕ). length (new (claim i)) ≡ length (old (claim i)) + length bytes) (sym same) (ap length step.here ∙ length-append (old (claim k)) bytes) in
          let known : length (old (claim j)) ≡ size_of slots k = sizes j ∙ ap (size_of slots) same in
          omega (arith, here, long, known)
      | inr differs ↦
          ap length (step.others (claim j) (λ e. differs (ap (λ (f : FileName). f.number) e))) ∙ sizes j
          ∙ sym (ap (λ (s : Slot). s.size) (get_or-set_other slots k j slot unused differs))
    ]

written_at_end : (k z : ℕ) (bytes : List ℕ) (old new : Files) → z ≡ length (old (claim k)) → At (claim k) (Overwritten z bytes) old new
    → At (claim k) (λ a b. b ≡ a ++ bytes) old new
written_at_end k z bytes old new long step =
    let before = old (claim k) in
    let front : take z before ≡ before = take_all z before (omega (arith, long)) in
    let behind : drop (z + length bytes) before ≡ [] = nil_from_length (drop (z + length bytes) before) (omega (arith, long, length-drop (z + length bytes) before)) in
    record {
      here = step.here ∙ ap (λ (a : List ℕ). a ++ bytes ++ drop (z + length bytes) before) front ∙ ap (λ (b : List ℕ). before ++ bytes ++ b) behind ∙ append-nil (before ++ bytes);
      others = step.others;
    }

-- what a torn write at the end of a slot's claim leaves
pub keeps_contents : (slots : List Slot) (k size : ℕ) (old new : Files) → next_slot slots ≡ Some k → At (claim k) (Torn (size_of slots k) size) old new
    → KeepsContents slots size old new
keeps_contents slots k size old new next torn = record {
  torn = λ j is.
      let both : Some k ≡ Some j = sym next ∙ is in
      let same : k ≡ j = cc in
      subst (λ (i : ℕ). At (claim i) (Torn (size_of slots i) size) old new) same torn;
  contents = λ at within.
      torn_kept k (size_of slots k) size old new at torn (λ same. subst (λ (n : ℕ). end_of at ≤ n) (ap (size_of slots) same) within);
}

-- what a write at the end of a slot's claim leaves
pub is_written : (slots : List Slot) (k : ℕ) (bytes digest : List ℕ) (old new : Files) → k < length slots → HasSizes slots old
    → At (claim k) (Overwritten (size_of slots k) bytes) old new
    → IsWritten bytes (record { slot = k; offset = size_of slots k; size = length bytes; digest = digest }) (taken slots k (size_of slots k + length bytes)) old new
is_written slots k bytes digest old new within sizes written =
    let before = old (claim k) in
    let long : size_of slots k ≡ length before = sym (sizes k) in
    let step = written_at_end k (size_of slots k) bytes old new long written in
    let behind : drop (size_of slots k) (new (claim k)) ≡ bytes =
    ap (drop (size_of slots k)) step.here ∙ ap (λ (n : ℕ). drop n (before ++ bytes)) long ∙ drop-append_seam before bytes in
    record {
      written = step;
      content = ap (take (length bytes)) behind ∙ take_all (length bytes) bytes (omega arith);
      sizes = appended_sizes slots k bytes old new within sizes step;
    }
