-- What calls leave of the events that are known.
use Rattle.std.proofs.Common.{◌≡◌, ◌⊎◌, inl, inr, ℕ, ◌/◌, ◌<◌, List, [], ◌∷◌, length, get_or, take, map, sym, ap, subst, ◌∙◌, arith}
use Rattle.std.specs.Prelude.{All, Contains}
use Rattle.std.proofs.lemmas.Bool.{cases_lt, cases_eq}
use Rattle.std.proofs.lemmas.List.{get_or-map, length-map}
use Rattle.disk_trait.specs.Files.{Files}
use Rattle.disk_trait.proofs.FileLists.{contains_here, contains_there, contains_cases}
use Rattle.prov_store.specs.Events.{events_file, count_in, covered_bytes, covered_size}
use Rattle.prov_store.specs.State.{EventsState, HasEvents, EventsAreReady, SameEvents, KeepsEvents, GrowsBehind, CutsStale}
use Rattle.flowfile_record.specs.declared.limits.TheConstants.{EVENTS_PER_FILE}
use Rattle.prov_store.specs.declared.events.Stale.{Stale}
use Rattle.prov_store.proofs.InFiles.{events_stay, next_size_stays, front_stays, covered_as, no_bytes}

pub still_has : (state : EventsState) (old new : Files) → SameEvents state.line state.end old new → HasEvents state old → HasEvents state new
still_has state old new same has = record {
  events = has.events;
  says = events_stay state.line state.end old new has.events same has.says;
  offset = has.offset ∙ sym (next_size_stays state.line state.end old new has.events same has.says);
  counts = has.counts;
}

pub still_ready : (state : EventsState) (old new : Files) → ((k : ℕ) → new (events_file k) ≡ old (events_file k)) → EventsAreReady state old → EventsAreReady state new
still_ready state old new same ready =
    let covers : SameEvents state.line state.end old new = λ k. covered_as state.line state.end k old new (same k) in
    record {
      has = still_has state old new covers ready.has;
      trimmed = λ k. same k ∙ ready.trimmed k ∙ sym (covers k);
    }

pub grows_keep : (state : EventsState) (old new : Files) → HasEvents state old → GrowsBehind state old new → KeepsEvents state.line state.end old new
grows_keep state old new has grows = record { others = grows.others; events = each }
  where
    each : (k : ℕ) → covered_bytes state.line state.end k new ≡ covered_bytes state.line state.end k old
    each k = elim (cases_lt k (state.end / EVENTS_PER_FILE)) [
      | inl before ↦ covered_as state.line state.end k old new (grows.earlier k before)
      | inr from ↦ elim (cases_eq k (state.end / EVENTS_PER_FILE)) [
        | inl here ↦
            front_stays state.line state.end k old new has.events has.says
            (subst (λ (i : ℕ). take (covered_size state.line state.end i old) (new (events_file i)) ≡ covered_bytes state.line state.end i old) (sym here)
            (subst (λ (n : ℕ). take n (new (events_file (state.end / EVENTS_PER_FILE))) ≡ take n (old (events_file (state.end / EVENTS_PER_FILE)))) has.offset grows.front))
        | inr other ↦
            let past : count_in state.line state.end k ≡ 0 = omega (arith, from, other) in
            no_bytes state.line state.end k new past ∙ sym (no_bytes state.line state.end k old past)
      ]
    ]

abbrev pub stale_files : List Stale → List ℕ
stale_files stale = map (λ s. s.file) stale

pub is_stale_or_not : (stale : List Stale) (k : ℕ) → Contains (stale_files stale) k ⊎ (Contains (stale_files stale) k → ⊥)
is_stale_or_not [] k = inr (λ has. absurd (omega (arith, has.1)))
is_stale_or_not (s ∷ stale) k = elim (cases_eq s.file k) [
  | inl here ↦ inl (subst (λ (n : ℕ). Contains (s.file ∷ stale_files stale) n) here (contains_here s.file (stale_files stale)))
  | inr other ↦ elim (is_stale_or_not stale k) [
    | inl later ↦ inl (contains_there s.file k (stale_files stale) later)
    | inr not ↦ inr (λ has. elim (contains_cases s.file k (stale_files stale) has) [
      | inl here ↦ absurd (other here)
      | inr later ↦ absurd (not later)
    ])
  ]
]

pub is_listed : (stale : List Stale) (i : ℕ) (s : Stale) → i < length stale → get_or stale i s ≡ s → Contains (stale_files stale) s.file
is_listed stale i s within is =
    (i, omega (arith, within, length-map stale (λ (s : Stale). s.file)), get_or-map (λ (s : Stale). s.file) stale i s s.file within ∙ ap (λ (t : Stale). t.file) is)

-- where a file stands that is listed
pub stale_at : (stale : List Stale) (k : ℕ) (d : Stale) → Contains (stale_files stale) k → (i : ℕ) × (i < length stale) × ((get_or stale i d).file ≡ k)
stale_at stale k d has =
    let within : has.0 < length stale = omega (arith, has.1, length-map stale (λ (s : Stale). s.file)) in
    (has.0, within, sym (get_or-map (λ (s : Stale). s.file) stale has.0 d k within) ∙ has.2)

pub cuts_keep : (state : EventsState) (old new : Files) → HasEvents state old → All (λ s. s.size ≡ covered_size state.line state.end s.file old) state.stale
    → CutsStale state.stale old new → KeepsEvents state.line state.end old new
cuts_keep state old new has sizes cuts = record { others = cuts.others; events = each }
  where
    each : (k : ℕ) → covered_bytes state.line state.end k new ≡ covered_bytes state.line state.end k old
    each k = elim (is_stale_or_not state.stale k) [
      | inl listed ↦
          let d : Stale = record { file = k; size = 0 } in
          let at = stale_at state.stale k d listed in
          let s = get_or state.stale at.0 d in
          let front = (cuts.cut at.0 d at.1).front in
          front_stays state.line state.end k old new has.events has.says
          (subst (λ (i : ℕ). take (covered_size state.line state.end i old) (new (events_file i)) ≡ covered_bytes state.line state.end i old) at.2
          (subst (λ (n : ℕ). take n (new (events_file s.file)) ≡ take n (old (events_file s.file))) (sizes at.0 d at.1) front))
      | inr other ↦ covered_as state.line state.end k old new (cuts.rest k other)
    ]
