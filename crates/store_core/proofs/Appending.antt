-- What a commit leaves of the claims: each has its bytes of before.
use Rattle.std.proofs.Common.{◌≡◌, ℕ, Bool, List, length, take, refl, ap, ◌∙◌, arith, inl, inr, IsTrue}
use Rattle.std.specs.Prelude.{◌⊎◌}
use Rattle.disk_trait.specs.Files.{Files, named}
use Rattle.disk_trait.specs.Images.{After, Since}
use Rattle.disk_trait.specs.declared.file_name.FileKind.TheVariants.{Log, Claim, Events}
use Rattle.disk_trait.specs.declared.file_name.FileName.{FileName}
use Rattle.disk_trait.proofs.Moments.{wider, wider_where_left, at_the_end, one_after_another, nothing}
use Rattle.record_codec.specs.declared.entry.LogEntry.{LogEntry}
use Rattle.content_repo.specs.Claims.{claim}
use Rattle.content_repo.specs.Slots.{size_of}
use Rattle.content_repo.specs.declared.slot.Slot.{Slot}
use Rattle.flowfile_wal.specs.Calls.{WithOrWithoutEntry}
use Rattle.flowfile_wal.specs.Steps.{AddsEntry}
use Rattle.prov_store.specs.State.{EventsState}
use Rattle.store_core.specs.Placing.{GrowsAhead}
use Rattle.store_core.specs.Touched.{ClaimsGrow}

no_claim_grows : (slots : List Slot) (files : Files) → ClaimsGrow slots files files
no_claim_grows slots files k = (refl, omega arith)

-- claims grew, and are the same from then on
grown_and_same : (slots : List Slot) (old mid new : Files) → ClaimsGrow slots old mid → ((k : ℕ) → new (claim k) ≡ mid (claim k)) → ClaimsGrow slots old new
grown_and_same slots old mid new grows same k =
    (ap (take (size_of slots k)) (same k) ∙ (grows k).0, omega (arith, (grows k).1, ap {B = ℕ} (λ (bytes : List ℕ). length bytes) (same k)))

grown_ahead : (slots : List Slot) (events : EventsState) (old new : Files) → GrowsAhead slots events old new → ClaimsGrow slots old new
grown_ahead slots events old new grows =
    grown_and_same slots old grows.mid new (λ k. grows.claims.claims k) (λ k. grows.events.others (claim k) (λ (e : Claim ≡ Events). absurd cc))

-- but for this log each file is the same
abbrev BesideLog : ℕ → Files → Files → Type 0
BesideLog number old new = (f : FileName) → (f ≡ named Log number → ⊥) → new f ≡ old f

beside_log : (number : ℕ) (old new : Files) → BesideLog number old new → (k : ℕ) → new (claim k) ≡ old (claim k)
beside_log number old new others k = others (claim k) (λ (x : claim k ≡ named Log number). let kinds : Claim ≡ Log = ap (λ (f : FileName). f.kind) x in absurd cc)

module _ {D : Type 0} (moment : D → ℕ) (images : D → ℕ → Files → Type 0) where
  abbrev pub GrowingClaims : List Slot → D → Files → Type 0
  GrowingClaims slots disk = After (ClaimsGrow slots) (images disk (moment disk))

  pub no_claims_grow : (slots : List Slot) (disk : D) → Since moment images disk disk (GrowingClaims slots disk)
  no_claims_grow slots disk = wider moment images disk disk (images disk (moment disk)) (GrowingClaims slots disk) (nothing moment images disk) (λ c left. (c, left, no_claim_grows slots c))

  module _ (held : D → Files) (slots : List Slot) (events : EventsState) (old mid : D) (first : Since moment images old mid (After (GrowsAhead slots events) (images old (moment old)))) where
    pub claims_ahead : Since moment images old mid (GrowingClaims slots old)
    claims_ahead =
        wider moment images old mid (After (GrowsAhead slots events) (images old (moment old))) (GrowingClaims slots old) first (λ c after. (after.0, after.1, grown_ahead slots events after.0 c after.2))

    from_mid : (number : ℕ) (d c : Files) → images mid (moment mid) d → BesideLog number d c → GrowingClaims slots old c
    from_mid number d c image others =
        let before = at_the_end moment images old mid (GrowingClaims slots old) claims_ahead d image in
        (before.0, before.1, grown_and_same slots before.0 d c before.2 (beside_log number d c others))

    pub claims_logged : (number : ℕ) (e : LogEntry) (end : D) → Since moment images mid end (WithOrWithoutEntry number e (images mid (moment mid)) (held mid))
        → (tells : Bool) → ((k : ℕ) (c : Files) → images end k c → IsTrue tells) → (IsTrue tells → images mid (moment mid) (held mid)) → Since moment images old end (GrowingClaims slots old)
    claims_logged number e end second tells told left =
        wider_where_left moment images old end (λ c. GrowingClaims slots old c ⊎ AddsEntry number e (held mid) c) (GrowingClaims slots old)
        (one_after_another moment images old mid end (GrowingClaims slots old) (WithOrWithoutEntry number e (images mid (moment mid)) (held mid)) (λ c. GrowingClaims slots old c ⊎ AddsEntry number e (held mid) c) claims_ahead second
        (λ c after. inl after) by_log)
        by_end
      where
        by_log : (c : Files) → WithOrWithoutEntry number e (images mid (moment mid)) (held mid) c → GrowingClaims slots old c ⊎ AddsEntry number e (held mid) c
        by_log c (inl after) = inl (from_mid number after.0 c after.1 after.2.others)
        by_log c (inr added) = inr added

        by_end : (k : ℕ) (c : Files) → images end k c → GrowingClaims slots old c ⊎ AddsEntry number e (held mid) c → GrowingClaims slots old c
        by_end k c image (inl growing) = growing
        by_end k c image (inr added) = from_mid number (held mid) c (left (told k c image)) added.others

-- what was held grew ahead of the log, and has the entry
pub claims_acknowledged : (slots : List Slot) (events : EventsState) (number : ℕ) (e : LogEntry) (old mid new : Files) → GrowsAhead slots events old mid → AddsEntry number e mid new → ClaimsGrow slots old new
claims_acknowledged slots events number e old mid new grows added = grown_and_same slots old mid new (grown_ahead slots events old mid grows) (beside_log number mid new added.others)
