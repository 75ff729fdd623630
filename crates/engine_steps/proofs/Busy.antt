-- How many sessions of each processor are in flight.
use Rattle.std.proofs.Common.{◌≡◌, ℕ, zero, suc, ◌+◌, ◌<◌, ◌≤◌, ◌&&◌, true, List, [], ◌∷◌, ◌++◌, length, map, take, sym, ap, ◌∙◌, inl, inr, arith}
use Rattle.std.specs.Prelude.{nat_le, Some, slice_get}
use Rattle.std.specs.List.{enumerate_from, list_all}
use Rattle.std.proofs.lemmas.Bool.{and_parts, leb-true}
use Rattle.std.proofs.lemmas.Option.{slice_get_cases}
use Rattle.machine_model.specs.Kinds.{is_among, relationships_of}
use Rattle.machine_model.specs.Sound.{are_distinct_texts, is_id, is_sound_processor, within}
use Rattle.machine_model.specs.declared.flow.Processor.{Processor}
use Rattle.machine_model.specs.declared.limits.TheConstants.{PENALTY_MAX, TASKS_MAX}
use Rattle.engine_steps.specs.Engine.{EngineState}
use Rattle.engine_steps.specs.Flights.{sessions_of}
use Rattle.engine_steps.specs.Ready.{IsReadyInMemory}

-- ---- a list of numbers, by the places of elements

numbered_next : {X : Type 0} (g : ℕ → ℕ) (xs : List X) (start i : ℕ) → i < length xs
    → map (λ (p : ℕ × X). g p.0) (enumerate_from start (take (suc i) xs)) ≡ map (λ (p : ℕ × X). g p.0) (enumerate_from start (take i xs)) ++ g (start + i) ∷ []
numbered_next g [] start i within = absurd (omega arith)
numbered_next g (x ∷ xs) start zero within = let same : start ≡ start + 0 = omega arith in ap (λ (n : ℕ). g n ∷ []) same
numbered_next {X} g (x ∷ xs) start (suc i) within =
    let same : (start + 1) + i ≡ start + suc i = omega arith in
    ap (λ (ns : List ℕ). g start ∷ ns) (numbered_next g xs (start + 1) i (omega arith) ∙ ap (λ (n : ℕ). map (λ (p : ℕ × X). g p.0) (enumerate_from (start + 1) (take i xs)) ++ g n ∷ []) same)

numbered_more : {X : Type 0} (g : ℕ → ℕ) (xs : List X) (i : ℕ) → i < length xs
    → map (λ (p : ℕ × X). g p.0) (enumerate_from 0 (take (i + 1) xs)) ≡ map (λ (p : ℕ × X). g p.0) (enumerate_from 0 (take i xs)) ++ g i ∷ []
numbered_more {X} g xs i within =
    let next : i + 1 ≡ suc i = omega arith in
    let same : 0 + i ≡ i = omega arith in
    ap (λ (n : ℕ). map (λ (p : ℕ × X). g p.0) (enumerate_from 0 (take n xs))) next ∙ numbered_next g xs 0 i within
    ∙ ap (λ (n : ℕ). map (λ (p : ℕ × X). g p.0) (enumerate_from 0 (take i xs)) ++ g n ∷ []) same

-- with the number of one place more
pub one_more_busy : {X : Type 0} (g : ℕ → ℕ) (xs : List X) (i : ℕ) (busy next : List ℕ) (count : ℕ) → i < length xs → next ≡ busy ++ count ∷ [] → busy ≡ map (λ (p : ℕ × X). g p.0) (enumerate_from 0 (take i xs)) → count ≡ g i
    → next ≡ map (λ (p : ℕ × X). g p.0) (enumerate_from 0 (take (i + 1) xs))
one_more_busy {X} g xs i busy next count within pushed was is =
    pushed ∙ ap (λ (ns : List ℕ). ns ++ count ∷ []) was ∙ ap (λ (n : ℕ). map (λ (p : ℕ × X). g p.0) (enumerate_from 0 (take i xs)) ++ n ∷ []) is ∙ sym (numbered_more g xs i within)

-- ---- how many there may be

few_tasks : (p : Processor) → is_sound_processor p ≡ true → p.tasks ≤ TASKS_MAX
few_tasks p sound =
    let a = and_parts (is_id p.id && within 1 p.tasks TASKS_MAX && nat_le p.penalty PENALTY_MAX && are_distinct_texts p.terminated)
    (list_all (λ name. is_among name (relationships_of p.kind)) p.terminated) sound in
    let b = and_parts (is_id p.id && within 1 p.tasks TASKS_MAX && nat_le p.penalty PENALTY_MAX) (are_distinct_texts p.terminated) a.0 in
    let c = and_parts (is_id p.id && within 1 p.tasks TASKS_MAX) (nat_le p.penalty PENALTY_MAX) b.0 in
    let d = and_parts (is_id p.id) (within 1 p.tasks TASKS_MAX) c.0 in
    let e = and_parts (nat_le 1 p.tasks) (nat_le p.tasks TASKS_MAX) d.1 in
    leb-true p.tasks TASKS_MAX e.1

sound_at : (processors : List Processor) (place : ℕ) (p : Processor) → list_all is_sound_processor processors ≡ true → slice_get processors place ≡ Some p → is_sound_processor p ≡ true
sound_at [] place p sound there = cc
sound_at (first ∷ processors) zero p sound there =
    let same : first ≡ p = cc in
    ap is_sound_processor (sym same) ∙ (and_parts (is_sound_processor first) (list_all is_sound_processor processors) sound).0
sound_at (first ∷ processors) (suc place) p sound there = sound_at processors place p (and_parts (is_sound_processor first) (list_all is_sound_processor processors) sound).1 there

-- no more sessions of a processor than its tasks
pub sessions_few : (e : EngineState) (place : ℕ) → IsReadyInMemory e → place < length e.flow.processors → sessions_of e.out place < 65536
sessions_few e place ready within = elim (slice_get_cases e.flow.processors place).1 [
  | inl there ↦
      let few : sessions_of e.out place ≤ there.0.tasks = ready.flights.tasks place there.0 there.2 in
      let most : there.0.tasks ≤ TASKS_MAX = few_tasks there.0 (sound_at e.flow.processors place there.0 ready.sound.processors there.2) in
      omega arith
  | inr past ↦ absurd (omega (arith, within, past.0))
]
