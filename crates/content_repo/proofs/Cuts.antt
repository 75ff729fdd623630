-- Claims that are cut one after another: all of them to their ends, and the idle ones to nothing.
use Rattle.std.proofs.Common.{◌≡◌, ◌⊎◌, ℕ, ◌+◌, ◌<◌, ◌≤◌, max, eqb, All, Bool, IsTrue, true, false, cond, MatchBool, List, [], ◌∷◌, length, map, take, count_by, refl, sym, ap, subst, ◌∙◌, inl, inr, arith, length-take}
use Rattle.std.proofs.lemmas.Bool.{cases_eq, cases_lt, eqb-true}
use Rattle.std.proofs.lemmas.List.{take-take, take_more, same_lists, get_or-map, get_or_default, length-map, nil_from_length}
use Rattle.std.proofs.lemmas.List.Sums.{sum_by-append}
use Rattle.disk_trait.specs.Files.{Files, At, Shortened}
use Rattle.disk_trait.specs.Images.{After, Since}
use Rattle.disk_trait.proofs.Moments.{step_after_step}
use Rattle.disk_trait.specs.declared.file_name.FileName.{FileName}
use Rattle.std.proofs.lemmas.List.Elements.{All-head, All-tail}
use Rattle.flowfile_record.specs.declared.content.ContentRef.{ContentRef}
use Rattle.content_repo.specs.declared.slot.Slot.{Slot}
use Rattle.content_repo.specs.Claims.{claim, OnClaims, CutTo, AreReclaimedInPart, IdleShortened, EmptiedAt, ShortenedAt}
use Rattle.content_repo.specs.SlotSet.{bit_of}
use Rattle.content_repo.specs.Slots.{unused, slot_numbered, held_in, is_idle, reclaimed, end_of, covered}
use Rattle.content_repo.proofs.ClaimFiles.{Shortened-refl, Shortened-trans, MaybeCut, MaybeCut-trans, OnClaims-refl, OnClaims-one, OnClaims-trans}

module _ (ends : ℕ → ℕ) (old now : Files) (fit : (k : ℕ) → ends k ≤ length (old (claim k))) (so_far : OnClaims (λ k. MaybeCut (ends k)) old now) where
  -- each file is as long as its end still
  pub still_fits : (k : ℕ) → ends k ≤ length (now (claim k))
  still_fits k = by_cut (so_far.claims k)
    where
      by_cut : MaybeCut (ends k) (old (claim k)) (now (claim k)) → ends k ≤ length (now (claim k))
      by_cut (inl e) = omega (arith, fit k, ap length e)
      by_cut (inr e) = omega (arith, fit k, ap length e, length-take (ends k) (old (claim k)))

  pub cut_here : (k : ℕ) (bytes : List ℕ) → bytes ≡ take (ends k) (now (claim k)) → bytes ≡ take (ends k) (old (claim k))
  cut_here k bytes is = by_cut (so_far.claims k)
    where
      by_cut : MaybeCut (ends k) (old (claim k)) (now (claim k)) → bytes ≡ take (ends k) (old (claim k))
      by_cut (inl e) = is ∙ ap (take (ends k)) e
      by_cut (inr e) = is ∙ ap (take (ends k)) e ∙ take-take (ends k) (ends k) (old (claim k)) (omega arith)

  pub cut_kept : (k j : ℕ) (new : Files) → At (claim k) (λ a b. b ≡ take (ends k) a) now new
      → now (claim j) ≡ take (ends j) (old (claim j)) → new (claim j) ≡ take (ends j) (old (claim j))
  cut_kept k j new at is =
      elim (cases_eq j k) [
        | inl same ↦ subst (λ (i : ℕ). new (claim i) ≡ take (ends i) (old (claim i))) (sym same) (cut_here k (new (claim k)) at.here)
        | inr differs ↦ at.others (claim j) (λ e. differs (ap (λ (f : FileName). f.number) e)) ∙ is
      ]

  pub cut_onward : (k : ℕ) (new : Files) → At (claim k) (λ a b. b ≡ take (ends k) a) now new → OnClaims (λ j. MaybeCut (ends j)) old new
  cut_onward k new at =
      OnClaims-trans (λ j. MaybeCut (ends j)) (λ j a. inl refl) (λ j. MaybeCut-trans (ends j)) old now new so_far
      (OnClaims-one (λ j. MaybeCut (ends j)) (λ j a. inl refl) k now new (record { here = inr at.here; others = at.others }))

  pub cut_whole : ((k : ℕ) → 0 < length (old (claim k)) → now (claim k) ≡ take (ends k) (old (claim k))) → CutTo ends old now
  cut_whole done = record {
    claims = λ k.
        elim (cases_lt 0 (length (old (claim k)))) [
          | inl some ↦ done k some
          | inr none ↦
              let end : length (now (claim k)) ≡ 0 = by_cut k none (so_far.claims k) in
              nil_from_length (now (claim k)) end ∙ sym (nil_from_length (take (ends k) (old (claim k))) (omega (arith, none, length-take (ends k) (old (claim k)))))
        ];
    others = so_far.others;
  }
    where
      by_cut : (k : ℕ) → length (old (claim k)) ≤ 0 → MaybeCut (ends k) (old (claim k)) (now (claim k)) → length (now (claim k)) ≡ 0
      by_cut k none (inl e) = omega (arith, none, ap length e)
      by_cut k none (inr e) = omega (arith, none, ap length e, length-take (ends k) (old (claim k)))

-- ---- idle slots

matched : (b : Bool) (P Q : Type 0) → (b ≡ true → P) → (b ≡ false → Q) → MatchBool b P Q
matched true P Q first second = first refl
matched false P Q first second = second refl

abbrev pub IdleStep : List Slot → ℕ → List ℕ → List ℕ → Type 0
IdleStep slots k old new = MatchBool (is_idle (slot_numbered slots k)) (Shortened 0 old new) (new ≡ old)

pub idle_same : (slots : List Slot) (k : ℕ) (a : List ℕ) → IdleStep slots k a a
idle_same slots k a = matched (is_idle (slot_numbered slots k)) (Shortened 0 a a) (a ≡ a) (λ idle. Shortened-refl 0 a) (λ used. refl)

both_idle : (v : Bool) (a b c : List ℕ) → MatchBool v (Shortened 0 a b) (b ≡ a) → MatchBool v (Shortened 0 b c) (c ≡ b) → MatchBool v (Shortened 0 a c) (c ≡ a)
both_idle true a b c p q = Shortened-trans 0 a b c p q
both_idle false a b c p q = q ∙ p

pub idle_onward : (slots : List Slot) (k : ℕ) (a b c : List ℕ) → IdleStep slots k a b → IdleStep slots k b c → IdleStep slots k a c
idle_onward slots k a b c p q = both_idle (is_idle (slot_numbered slots k)) a b c p q

pub idle_step : (slots : List Slot) (k : ℕ) (a b : List ℕ) → is_idle (slot_numbered slots k) ≡ true → Shortened 0 a b → IdleStep slots k a b
idle_step slots k a b idle step = rw idle step

pub emptied_kept : (k j : ℕ) (now new : Files) → At (claim k) (λ a b. b ≡ []) now new → now (claim j) ≡ [] → new (claim j) ≡ []
emptied_kept k j now new at is =
    elim (cases_eq j k) [
      | inl same ↦ subst (λ (i : ℕ). new (claim i) ≡ []) (sym same) at.here
      | inr differs ↦ at.others (claim j) (λ e. differs (ap (λ (f : FileName). f.number) e)) ∙ is
    ]

-- what one slot's turn does
pub turn_step : (slots : List Slot) (k : ℕ) (old new : Files) → ShortenedAt (slot_numbered slots k) k old new → IdleShortened slots old new
turn_step slots k old new turn = by_idle (is_idle (slot_numbered slots k)) refl turn
  where
    by_idle : (v : Bool) → is_idle (slot_numbered slots k) ≡ v → MatchBool v (At (claim k) (Shortened 0) old new) (new ≡ old) → IdleShortened slots old new
    by_idle true idle at =
        OnClaims-one (IdleStep slots) (idle_same slots) k old new (record { here = idle_step slots k (old (claim k)) (new (claim k)) idle at.here; others = at.others })
    by_idle false used same = subst (λ (files : Files). IdleShortened slots old files) (sym same) (OnClaims-refl (IdleStep slots) (idle_same slots) old)

pub turns : (slots : List Slot) (slot : Slot) (k : ℕ) (old now new : Files) → slot ≡ slot_numbered slots k → IdleShortened slots old now → ShortenedAt slot k now new → IdleShortened slots old new
turns slots slot k old now new same so_far turn =
    OnClaims-trans (IdleStep slots) (idle_same slots) (idle_onward slots) old now new so_far
    (turn_step slots k now new (subst (λ (s : Slot). ShortenedAt s k now new) same turn))

pub turn_emptied : (slot : Slot) (k j : ℕ) (now new : Files) → EmptiedAt slot k now new → now (claim j) ≡ [] → new (claim j) ≡ []
turn_emptied slot k j now new turn is = by_idle (is_idle slot) turn
  where
    by_idle : (v : Bool) → MatchBool v (At (claim k) (λ a b. b ≡ []) now new) (new ≡ now) → new (claim j) ≡ []
    by_idle true at = emptied_kept k j now new at is
    by_idle false same = ap (λ (files : Files). files (claim j)) same ∙ is

pub turn_here : (slot : Slot) (k : ℕ) (now new : Files) → EmptiedAt slot k now new → is_idle slot ≡ true → new (claim k) ≡ []
turn_here slot k now new turn idle = by_idle (is_idle slot) idle turn
  where
    by_idle : (v : Bool) → v ≡ true → MatchBool v (At (claim k) (λ a b. b ≡ []) now new) (new ≡ now) → new (claim k) ≡ []
    by_idle true e at = at.here
    by_idle false e same = absurd cc

pub count_more : (slots : List Slot) (k : ℕ) → k < length slots → count_by is_idle (take (k + 1) slots) ≡ count_by is_idle (take k slots) + bit_of (is_idle (slot_numbered slots k))
count_more slots k within =
    ap (count_by is_idle) (take_more slots k unused within)
    ∙ sum_by-append (λ (s : Slot). cond (is_idle s) 1 0) (take k slots) (slot_numbered slots k ∷ [])
    ∙ omega arith

-- a claim that a turn at another slot leaves empty
pub still_empty : (slot : Slot) (k j : ℕ) (now new : Files) → j < k → ShortenedAt slot k now new → now (claim j) ≡ [] → new (claim j) ≡ []
still_empty slot k j now new before turn is = by_idle (is_idle slot) turn
  where
    by_idle : (v : Bool) → MatchBool v (At (claim k) (Shortened 0) now new) (new ≡ now) → new (claim j) ≡ []
    by_idle true at = at.others (claim j) (λ e. let same : j ≡ k = ap (λ (f : FileName). f.number) e in absurd (omega (arith, before, same))) ∙ is
    by_idle false same = ap (λ (files : Files). files (claim j)) same ∙ is

-- the slots up to some slot were reclaimed, and those behind it are as they were
pub reclaimed_in_part : (tells : Bool) (slots new : List Slot) (k : ℕ) (files : Files) → ((j : ℕ) → j < k → slot_numbered new j ≡ reclaimed (slot_numbered slots j))
    → ((j : ℕ) → k ≤ j → slot_numbered new j ≡ slot_numbered slots j)
    → (IsTrue tells → (j : ℕ) → j < k → is_idle (slot_numbered slots j) ≡ true → files (claim j) ≡ [])
    → held_in new ≡ held_in slots → AreReclaimedInPart tells slots new files
reclaimed_in_part tells slots new k files before behind done held = record {
  slots = λ j.
      elim (cases_lt j k) [
        | inl early ↦ by_idle j early (is_idle (slot_numbered slots j)) refl
        | inr late ↦ inl (behind j late)
      ];
  held = held;
}
  where
    by_idle : (j : ℕ) → j < k → (v : Bool) → is_idle (slot_numbered slots j) ≡ v
        → (slot_numbered new j ≡ slot_numbered slots j) ⊎ ((slot_numbered new j ≡ reclaimed (slot_numbered slots j)) × (IsTrue tells → files (claim j) ≡ []))
    by_idle j early true idle = inr (before j early, λ told. done told j early idle)
    by_idle j early false used = let same : reclaimed (slot_numbered slots j) ≡ slot_numbered slots j = rw used refl in inl (before j early ∙ same)

-- the list that is left
pub reclaimed_list : (slots new : List Slot) → length new ≡ length slots → ((k : ℕ) → k < length slots → slot_numbered new k ≡ reclaimed (slot_numbered slots k)) → new ≡ map reclaimed slots
reclaimed_list slots new long each =
    same_lists new (map reclaimed slots) (long ∙ sym (length-map slots reclaimed))
    (λ k d within.
    get_or_default new k d unused within ∙ each k (omega (arith, within, long))
    ∙ sym (get_or-map reclaimed slots k unused d (omega (arith, within, long))))

-- the greatest end of references that lie in their files
pub covered_within : (k : ℕ) (refs : List ContentRef) (files : Files) → All (λ at. end_of at ≤ length (files (claim at.slot))) refs → covered k refs ≤ length (files (claim k))
covered_within k [] files all = omega arith
covered_within k (at ∷ refs) files all = by_slot (eqb at.slot k) refl (covered_within k refs files (All-tail (λ (r : ContentRef). end_of r ≤ length (files (claim r.slot))) at refs all))
  where
    by_slot : (b : Bool) → eqb at.slot k ≡ b → covered k refs ≤ length (files (claim k)) → cond b (max (end_of at) (covered k refs)) (covered k refs) ≤ length (files (claim k))
    by_slot true same rest =
        let here = All-head (λ (r : ContentRef). end_of r ≤ length (files (claim r.slot))) at refs all in
        let here_too : end_of at ≤ length (files (claim k)) = subst (λ (j : ℕ). end_of at ≤ length (files (claim j))) (eqb-true at.slot k same) here in
        omega (arith, here_too, rest)
    by_slot false differs rest = rest

pub since_turn : {D : Type 0} (moment : D → ℕ) (images : D → ℕ → Files → Type 0) (slots : List Slot) (slot : Slot) (k : ℕ) (old mid new : D) → slot ≡ slot_numbered slots k
    → Since moment images old mid (After (IdleShortened slots) (images old (moment old)))
    → Since moment images mid new (After (ShortenedAt slot k) (images mid (moment mid)))
    → Since moment images old new (After (IdleShortened slots) (images old (moment old)))
since_turn moment images slots slot k old mid new same first second =
    step_after_step moment images old mid new (IdleShortened slots) (ShortenedAt slot k) (IdleShortened slots) (images old (moment old)) first second
    (λ d c r. r) (λ d e c r s. turns slots slot k d e c same r s)
