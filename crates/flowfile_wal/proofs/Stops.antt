-- What a stop leaves of all files while the entries of a block are added to a log.
use Rattle.std.proofs.Common.{◌≡◌, ◌≢◌, ◌⊎◌, inl, inr, ⊎_elim, ℕ, ◌+◌, List, [], ◌∷◌, ◌++◌, length, take, ◌∙◌, ap, subst}
use Rattle.disk_trait.specs.Files.{Files, At, Overwritten, Torn, named}
use Rattle.disk_trait.specs.Images.{After, IsOnly, Since}
use Rattle.disk_trait.specs.declared.file_name.FileName.{FileName}
use Rattle.disk_trait.specs.declared.file_name.FileKind.TheVariants.{Log}
use Rattle.disk_trait.proofs.Moments.{wider, one_after_another}
use Rattle.record_codec.specs.declared.entry.LogEntry.{LogEntry}
use Rattle.record_codec.specs.declared.log.TheConstants.{OPEN_GATE, CLOSED_GATE}
use Rattle.flowfile_wal.specs.Calls.{WithOrWithout}
use Rattle.flowfile_wal.specs.Current.{CurrentLog}
use Rattle.flowfile_wal.specs.Steps.{SameLog, RestsAt, IsFrame, MoreEntries}
use Rattle.flowfile_wal.proofs.Appending.{torn_behind, written_behind, torn_gate, written_gate, has_more}

module _ (number version end : ℕ) (bytes : List ℕ) (is : RestsAt number version end bytes) where
  abbrev log : CurrentLog
  log = record { number = number; version = version; entries = is.entries; end = end }

  pub block_torn : (n : ℕ) (c : List ℕ) → Torn (end + 1) n bytes c → SameLog number bytes c
  block_torn n c torn = torn_behind log bytes is.rests n c torn

  pub block_written : (bs c : List ℕ) → Overwritten (end + 1) bs bytes c → c ≡ take end bytes ++ CLOSED_GATE ∷ bs
  block_written bs c over = written_behind log bytes is.rests bs c over

  module _ (entries : List LogEntry) (bs : List ℕ) (is_frame : IsFrame version entries bs) where
    pub gate_torn : (c : List ℕ) → Torn end 1 (take end bytes ++ CLOSED_GATE ∷ bs) c → SameLog number bytes c ⊎ MoreEntries number entries (length bs) bytes c
    gate_torn c torn = ⊎_elim
        (λ (same : SameLog number bytes c). inl same)
        (λ (opens : c ≡ take end bytes ++ OPEN_GATE ∷ bs). inr (has_more log bytes is.rests entries bs is_frame c opens))
        (torn_gate log bytes is.rests entries bs is_frame c torn)

    pub gate_written : (c : List ℕ) → Overwritten end (OPEN_GATE ∷ []) (take end bytes ++ CLOSED_GATE ∷ bs) c → MoreEntries number entries (length bs) bytes c
    gate_written c over = has_more log bytes is.rests entries bs is_frame c (written_gate log bytes is.rests entries bs is_frame c over)

module _ {D : Type 0} (moment : D → ℕ) (images : D → ℕ → Files → Type 0) (old : D) (held : Files) (number version end : ℕ)
    (ready : (c : Files) → images old (moment old) c → RestsAt number version end (c (named Log number))) where
  -- the block is written
  pub staging : (mid : D) (n size : ℕ) (entries : List LogEntry) → Since moment images old mid (After (At (named Log number) (Torn (end + 1) n)) (images old (moment old)))
      → Since moment images old mid (WithOrWithout number entries size (images old (moment old)) held)
  staging mid n size entries first =
      wider moment images old mid _ (WithOrWithout number entries size (images old (moment old)) held) first
      (λ c after. inl (after.0, after.1, record { here = block_torn number version end (after.0 (named Log number)) (ready after.0 after.1) n (c (named Log number)) after.2.here; others = after.2.others }))

  module _ (entries : List LogEntry) (bs : List ℕ) (is_frame : IsFrame version entries bs) (mid new : D) (now : Files) where
    -- and then the gate
    pub with_or_without : ((c : Files) → images mid (moment mid) c → images old (moment old) held × At (named Log number) (Overwritten (end + 1) bs) held now)
        → IsOnly now (images mid (moment mid))
        → Since moment images old mid (After (At (named Log number) (Torn (end + 1) (length bs))) (images old (moment old)))
        → Since moment images mid new (After (At (named Log number) (Torn end 1)) (images mid (moment mid)))
        → Since moment images old new (WithOrWithout number entries (length bs) (images old (moment old)) held)
    with_or_without staged only first second =
        one_after_another moment images old mid new _ _ (WithOrWithout number entries (length bs) (images old (moment old)) held) (staging mid (length bs) (length bs) entries first) second
        (λ c p. p)
        (λ c after.
        let before = staged after.0 after.1 in
        let is_now = only after.0 after.1 in
        let rests = ready held before.0 in
        let file = ap (λ (f : Files). f (named Log number)) is_now ∙ block_written number version end (held (named Log number)) rests bs (now (named Log number)) before.1.here in
        let torn = subst (λ (l : List ℕ). Torn end 1 l (c (named Log number))) file after.2.here in
        let others = λ (f : FileName) (isnt : f ≢ named Log number). after.2.others f isnt ∙ ap (λ (g : Files). g f) is_now ∙ before.1.others f isnt in
        ⊎_elim
        (λ (same : SameLog number (held (named Log number)) (c (named Log number))). inl (held, before.0, record { here = same; others = others }))
        (λ (more : MoreEntries number entries (length bs) (held (named Log number)) (c (named Log number))). inr (record { here = more; others = others }))
        (gate_torn number version end (held (named Log number)) rests entries bs is_frame (c (named Log number)) torn))

    -- once both are written
    pub added : images old (moment old) held → At (named Log number) (Overwritten (end + 1) bs) held now → (last : Files) → At (named Log number) (Overwritten end (OPEN_GATE ∷ [])) now last
        → At (named Log number) (MoreEntries number entries (length bs)) held last
    added left staged last opened =
        let rests = ready held left in
        let file = block_written number version end (held (named Log number)) rests bs (now (named Log number)) staged.here in
        let over = subst (λ (l : List ℕ). Overwritten end (OPEN_GATE ∷ []) l (last (named Log number))) file opened.here in
        record {
          here = gate_written number version end (held (named Log number)) rests entries bs is_frame (last (named Log number)) over;
          others = λ f isnt. opened.others f isnt ∙ staged.others f isnt;
        }
