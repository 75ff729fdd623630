-- What a stop leaves of a log while it is begun.
use Rattle.std.proofs.Common.{◌≡◌, ◌≢◌, inl, inr, ℕ, ◌+◌, ◌<◌, List, [], ◌∷◌, ◌++◌, length, take, drop, refl, sym, ap, subst, ◌∙◌, arith}
use Rattle.std.proofs.lemmas.Bool.{cases_eq}
use Rattle.std.proofs.lemmas.List.{append-nil, drop_all}
use Rattle.std.specs.Int.{w64, to_be_bytes}
use Rattle.sha2.specs.Sha256.{sha256}
use Rattle.disk_trait.specs.Files.{Files, At, Overwritten, Torn}
use Rattle.disk_trait.specs.Images.{After, IsOnly, Since}
use Rattle.disk_trait.specs.declared.file_name.FileName.{FileName}
use Rattle.disk_trait.proofs.Moments.{one_after_another}
use Rattle.record_codec.specs.Block.{block}
use Rattle.record_codec.specs.EntryEncoding.{entry}
use Rattle.record_codec.specs.declared.log.TheConstants.{OPEN_GATE, CLOSED_GATE}
use Rattle.record_codec.specs.Frames.{entry_frame, begun_log, IsPassedOver}
use Rattle.record_codec.specs.declared.entry.LogEntry.TheVariants.{Begin}
use Rattle.checkpoint_store.specs.Begun.{log_file, IsBegunOrNot, MayBegin, IsBegun}

abbrev begin_frame : ℕ → ℕ → List ℕ
begin_frame version number = entry_frame (Begin version number)

-- the frame's parts, where the entry and its digest were copied into an array
pub frame_is : (version number : ℕ) (e d rest : List ℕ) → e ≡ 1 ∷ version ∷ to_be_bytes w64 number → d ≡ sha256 e → drop 32 rest ≡ CLOSED_GATE ∷ []
    → 0 ∷ 0 ∷ 0 ∷ 9 ∷ (take 10 (e ++ rest) ++ (d ++ drop 32 (drop 10 (e ++ rest)))) ≡ begin_frame version number
unfolding block entry
frame_is version number e d rest e_is d_is rest_is = rw (d_is, e_is, rest_is) refl

-- ---- the bytes of the log

-- a stop within the first write
first_torn : (d c : List ℕ) → d ≡ [] → Torn 0 1 d c → IsPassedOver c
first_torn d c none torn = inl (omega (arith, torn.no_longer, ap length none))

-- the closed gate is written
closed_alone : (d c : List ℕ) → d ≡ [] → Overwritten 0 (CLOSED_GATE ∷ []) d c → c ≡ CLOSED_GATE ∷ []
closed_alone d c none over = over ∙ ap (λ (l : List ℕ). CLOSED_GATE ∷ drop 1 l) none

not_open : CLOSED_GATE ≢ OPEN_GATE
not_open same = absurd cc

-- a stop within the write behind it
second_torn : (n : ℕ) (d c : List ℕ) → d ≡ CLOSED_GATE ∷ [] → Torn 1 n d c → IsPassedOver c
second_torn n d [] is torn = inl (omega arith)
second_torn n d (gate ∷ rest) is torn =
    let front : gate ∷ [] ≡ CLOSED_GATE ∷ [] = torn.front ∙ ap (take 1) is in
    let closed : gate ≡ CLOSED_GATE = cc in
    inr (λ opens. not_open (sym closed ∙ opens))

pub frame_behind : (frame d c : List ℕ) → d ≡ CLOSED_GATE ∷ [] → Overwritten 1 frame d c → c ≡ CLOSED_GATE ∷ frame
frame_behind frame d c is over =
    over ∙ ap (λ (l : List ℕ). take 1 l ++ frame ++ drop (1 + length frame) l) is
    ∙ ap (λ (l : List ℕ). (CLOSED_GATE ∷ frame) ++ l) (drop_all (1 + length frame) (CLOSED_GATE ∷ []) (omega arith))
    ∙ append-nil (CLOSED_GATE ∷ frame)

-- a stop within the write of the gate
gate_torn : (version number : ℕ) (d c : List ℕ) → d ≡ CLOSED_GATE ∷ begin_frame version number → Torn 0 1 d c → IsBegunOrNot version number c
gate_torn version number d [] is torn = inl (inl (omega arith))
gate_torn version number d (gate ∷ rest) is torn =
    let behind : rest ≡ begin_frame version number = torn.back ∙ ap (drop 1) is in
    elim (cases_eq gate OPEN_GATE) [
      | inl opens ↦ inr (ap (λ (g : ℕ). g ∷ rest) opens ∙ ap (λ (l : List ℕ). OPEN_GATE ∷ l) behind)
      | inr closed ↦ inl (inr closed)
    ]

pub gate_opened : (version number : ℕ) (d c : List ℕ) → d ≡ CLOSED_GATE ∷ begin_frame version number → Overwritten 0 (OPEN_GATE ∷ []) d c → c ≡ begun_log version number
gate_opened version number d c is over = over ∙ ap (λ (l : List ℕ). OPEN_GATE ∷ drop 1 l) is

-- ---- the calls

module _ {D : Type 0} (moment : D → ℕ) (images : D → ℕ → Files → Type 0) (old mid new : D) (held now : Files) where
  abbrev Before : Files → Type 0
  Before = images old (moment old)

  pub first_alone : (file : FileName) → ((c : Files) → Before c → c file ≡ []) → (c : Files) → After (At file (Torn 0 1)) Before c
      → After (At file (λ o w. IsPassedOver w)) Before c
  first_alone file none c after =
      (after.0, after.1, record { here = first_torn (after.0 file) (c file) (none after.0 after.1) after.2.here; others = after.2.others })

  -- a step from what alone was left in between is a step from what was held before
  from_between : (file : FileName) (R S : List ℕ → List ℕ → Type 0) (P : List ℕ → Type 0)
      → ((c : Files) → images mid (moment mid) c → Before held × At file R held now) → IsOnly now (images mid (moment mid))
      → ((c : List ℕ) → Before held → R (held file) (now file) → S (now file) c → P c)
      → (c : Files) → After (At file S) (images mid (moment mid)) c → After (At file (λ o w. P w)) Before c
  from_between file R S P between only step c after =
      let was = between after.0 after.1 in
      let same : after.0 ≡ now = only after.0 after.1 in (
        held,
        was.0,
        record {
          here = step (c file) was.0 was.1.here (subst (λ (f : Files). S (f file) (c file)) same after.2.here);
          others = λ f isnt. after.2.others f isnt ∙ ap (λ (g : Files). g f) same ∙ was.1.others f isnt;
        },
      )

  pub staged_or_not : (file : FileName) (n : ℕ) → ((c : Files) → Before c → c file ≡ [])
      → ((c : Files) → images mid (moment mid) c → Before held × At file (Overwritten 0 (CLOSED_GATE ∷ [])) held now)
      → IsOnly now (images mid (moment mid))
      → Since moment images old mid (After (At file (Torn 0 1)) Before)
      → Since moment images mid new (After (At file (Torn 1 n)) (images mid (moment mid)))
      → Since moment images old new (After (At file (λ o w. IsPassedOver w)) Before)
  staged_or_not file n none between only first second =
      one_after_another moment images old mid new _ _ (After (At file (λ o w. IsPassedOver w)) Before) first second
      (first_alone file none)
      (from_between file (Overwritten 0 (CLOSED_GATE ∷ [])) (Torn 1 n) IsPassedOver between only
      (λ c left over torn. second_torn n (now file) c (closed_alone (held file) (now file) (none held left) over) torn))

  pub begun_or_not : (version number : ℕ)
      → ((c : Files) → images mid (moment mid) c → Before held × At (log_file number) (λ o w. w ≡ CLOSED_GATE ∷ begin_frame version number) held now)
      → IsOnly now (images mid (moment mid))
      → Since moment images old mid (After (At (log_file number) (λ o w. IsPassedOver w)) Before)
      → Since moment images mid new (After (At (log_file number) (Torn 0 1)) (images mid (moment mid)))
      → Since moment images old new (After (At (log_file number) (λ o w. IsBegunOrNot version number w)) Before)
  begun_or_not version number between only first second =
      one_after_another moment images old mid new _ _ (After (At (log_file number) (λ o w. IsBegunOrNot version number w)) Before) first second
      (λ c after. (after.0, after.1, record { here = inl after.2.here; others = after.2.others }))
      (from_between (log_file number) (λ o w. w ≡ CLOSED_GATE ∷ begin_frame version number) (Torn 0 1) (IsBegunOrNot version number) between only
      (λ c left is torn. gate_torn version number (now (log_file number)) c is torn))

-- ---- what is held

pub staged_behind : (file : FileName) (frame : List ℕ) (held mid now : Files) → held file ≡ []
    → At file (Overwritten 0 (CLOSED_GATE ∷ [])) held mid → At file (Overwritten 1 frame) mid now → At file (λ o w. w ≡ CLOSED_GATE ∷ frame) held now
staged_behind file frame held mid now none first second = record {
  here = frame_behind frame (mid file) (now file) (closed_alone (held file) (mid file) none first.here) second.here;
  others = λ f isnt. second.others f isnt ∙ first.others f isnt;
}

log_file-other : (number n : ℕ) → number < n → log_file n ≢ log_file number
log_file-other number n above same = let equal : n ≡ number = ap (λ (f : FileName). f.number) same in absurd (omega (arith, above, equal))

-- in which files the log is current
pub is_begun : (version number : ℕ) (old mid now : Files) → MayBegin number old
    → At (log_file number) (λ o w. w ≡ CLOSED_GATE ∷ begin_frame version number) old mid → At (log_file number) (Overwritten 0 (OPEN_GATE ∷ [])) mid now → IsBegun version number now
is_begun version number old mid now may first second = record {
  begun = gate_opened version number (mid (log_file number)) (now (log_file number)) first.here second.here;
  greater = λ n above.
      let other = log_file-other number n above in
      subst IsPassedOver (sym (second.others (log_file n) other ∙ first.others (log_file n) other)) (may.greater n above);
}
