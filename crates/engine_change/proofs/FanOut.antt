-- No name leads to more connections than a relationship of a sound flow may.
use Rattle.std.proofs.Common.{◌≡◌, inl, inr, ℕ, zero, suc, ◌+◌, ◌≤◌, ◌==◌, ◌&&◌, Bool, true, false, cond, List, [], ◌∷◌, length, refl, sym, ap, ◌∙◌, arith}
use Rattle.std.specs.Prelude.{filter, nat_lt, nat_le, slice_get, Some, None, bytes_eq, count_by}
use Rattle.std.specs.List.{enumerate_from, list_all}
use Rattle.std.proofs.lemmas.Bool.{cases_Bool, and_parts, eqb-true, leb-true, false≢true}
use Rattle.std.proofs.lemmas.List.{length-map}
use Rattle.std.proofs.lemmas.List.Sums.{sum_by-cons}
use Rattle.std.proofs.lemmas.Slice.Eq.{bytes_eq-Decides}
use Rattle.machine_model.specs.declared.flow.Connection.{Connection}
use Rattle.machine_model.specs.declared.flow.Flow.{Flow}
use Rattle.machine_model.specs.declared.flow.Processor.{Processor}
use Rattle.machine_model.specs.declared.limits.TheConstants.{FAN_OUT_MAX}
use Rattle.machine_model.specs.Kinds.{is_among, relationships_of}
use Rattle.machine_model.specs.Placing.{connections_of, leads}
use Rattle.machine_model.proofs.Tally.{bit}
use Rattle.machine_model.specs.Sound.{IsSound, are_distinct_texts, are_sound_limits, are_sound_relationships, carries, connection_count, has_relationships, is_id, is_sound_connection, is_sound_relationship, may_be_target, within}

-- ---- names

same_name : (one other : List ℕ) → bytes_eq one other ≡ true → one ≡ other
same_name one other is = (bytes_eq-Decides one other).0 is

-- a test that each of these names passes is passed by one of them
passed_among : (test : List ℕ → Bool) (name : List ℕ) (names : List (List ℕ)) → list_all test names ≡ true → is_among name names ≡ true → test name ≡ true
passed_among test name [] all among = absurd (false≢true among)
passed_among test name (other ∷ names) all among =
    let parts = and_parts (test other) (list_all test names) all in
    elim (cases_Bool (bytes_eq name other)) [
      | inl t ↦ ap test (same_name name other t) ∙ parts.0
      | inr f ↦ passed_among test name names parts.1 (rw f at among)
    ]

-- ---- how many connections a name leads to

leading : (processor : ℕ) (name : List ℕ) (from : ℕ) (connections : List Connection)
    → length (filter (leads processor name) (enumerate_from from connections)) ≡ count_by (carries processor name) connections
leading processor name from [] = refl
leading processor name from (connection ∷ connections) =
    let rest = leading processor name (from + 1) connections in
    let whole = sum_by-cons (λ (c : Connection). cond (carries processor name c) 1 0) connection connections in
    by (carries processor name connection) rest ∙ sym whole
  where
    by : (b : Bool) → length (filter (leads processor name) (enumerate_from (from + 1) connections)) ≡ count_by (carries processor name) connections
        → length (cond b ((from, connection) ∷ filter (leads processor name) (enumerate_from (from + 1) connections)) (filter (leads processor name) (enumerate_from (from + 1) connections)))
        ≡ cond b 1 0 + count_by (carries processor name) connections
    by true rest = omega (arith, rest)
    by false rest = omega (arith, rest)

pub leads_to : (flow : Flow) (processor : ℕ) (name : List ℕ) → length (connections_of flow processor name) ≡ connection_count flow processor name
leads_to flow processor name =
    length-map (filter (leads processor name) (enumerate_from 0 flow.connections)) (λ (c : ℕ × Connection). c.0) ∙ leading processor name 0 flow.connections

-- ---- of a sound flow

-- a name that a connection carries is a relationship of its source
carried : (flow : Flow) (place : ℕ) (processor : Processor) (name : List ℕ) (connection : Connection) → slice_get flow.processors place ≡ Some processor
    → is_sound_connection flow connection ≡ true → carries place name connection ≡ true → is_among name (relationships_of processor.kind) ≡ true
carried flow place processor name connection found sound carries_it =
    let parts = and_parts (connection.source == place) (is_among name connection.relationships) carries_it in
    let has_source = has_relationships connection (slice_get flow.processors connection.source) in
    let front = is_id connection.id && are_sound_limits connection.limits && nat_lt 0 (length connection.relationships) && are_distinct_texts connection.relationships in
    let a = and_parts (front && has_source) (may_be_target (slice_get flow.processors connection.target)) sound in
    let b = and_parts front has_source a.0 in
    let at : slice_get flow.processors connection.source ≡ Some processor = ap (slice_get flow.processors) (eqb-true connection.source place parts.0) ∙ found in
    let has : has_relationships connection (Some processor) ≡ true = ap (has_relationships connection) (sym at) ∙ b.1 in
    passed_among (λ other. is_among other (relationships_of processor.kind)) name connection.relationships has parts.1

none_carry : (flow : Flow) (place : ℕ) (processor : Processor) (name : List ℕ) (connections : List Connection) → slice_get flow.processors place ≡ Some processor
    → list_all (is_sound_connection flow) connections ≡ true → is_among name (relationships_of processor.kind) ≡ false → count_by (carries place name) connections ≡ 0
none_carry flow place processor name [] found sound other = refl
none_carry flow place processor name (connection ∷ connections) found sound other =
    let parts = and_parts (is_sound_connection flow connection) (list_all (is_sound_connection flow) connections) sound in
    let rest = none_carry flow place processor name connections found parts.1 other in
    let whole = sum_by-cons (λ (c : Connection). cond (carries place name c) 1 0) connection connections in
    elim (cases_Bool (carries place name connection)) [
      | inl t ↦ absurd (false≢true (sym other ∙ carried flow place processor name connection found parts.0 t))
      | inr f ↦ omega (arith, whole, ap bit f, rest)
    ]

-- the one of a place passes what all pass
at_place : (test : ℕ × Processor → Bool) (from place : ℕ) (processors : List Processor) (processor : Processor) → list_all test (enumerate_from from processors) ≡ true
    → slice_get processors place ≡ Some processor → test (from + place, processor) ≡ true
at_place test from place [] processor all found = absurd (let none : None ≡ Some processor = found in cc)
at_place test from zero (first ∷ processors) processor all found =
    let parts = and_parts (test (from, first)) (list_all test (enumerate_from (from + 1) processors)) all in
    let some : Some first ≡ Some processor = found in
    let same : first ≡ processor = cc in
    let place : from + 0 ≡ from = omega arith in
    ap (λ (n : ℕ). test (n, processor)) place ∙ ap (λ (p : Processor). test (from, p)) (sym same) ∙ parts.0
at_place test from (suc place) (first ∷ processors) processor all found =
    let parts = and_parts (test (from, first)) (list_all test (enumerate_from (from + 1) processors)) all in
    let further : from + suc place ≡ (from + 1) + place = omega arith in
    ap (λ (n : ℕ). test (n, processor)) further ∙ at_place test (from + 1) place processors processor parts.1 found

few : (b : Bool) (count : ℕ) → cond b (count == 0) (within 1 count FAN_OUT_MAX) ≡ true → count ≤ FAN_OUT_MAX
few true count is = let none = eqb-true count 0 is in omega (arith, none)
few false count is = let parts = and_parts (nat_le 1 count) (nat_le count FAN_OUT_MAX) is in leb-true count FAN_OUT_MAX parts.1

pub fan_out : (flow : Flow) (place : ℕ) (processor : Processor) → IsSound flow → slice_get flow.processors place ≡ Some processor → (name : List ℕ)
    → length (connections_of flow place name) ≤ FAN_OUT_MAX
fan_out flow place processor sound found name =
    elim (cases_Bool (is_among name (relationships_of processor.kind))) [
      | inl t ↦
          let first : 0 + place ≡ place = omega arith in
          let all : are_sound_relationships flow (place, processor) ≡ true =
          ap (λ (n : ℕ). are_sound_relationships flow (n, processor)) (sym first) ∙ at_place (are_sound_relationships flow) 0 place flow.processors processor sound.relationships found in
          let one = passed_among (is_sound_relationship flow place processor) name (relationships_of processor.kind) all t in
          omega (arith, leads_to flow place name, few (is_among name processor.terminated) (connection_count flow place name) one)
      | inr f ↦ omega (arith, leads_to flow place name, none_carry flow place processor name flow.connections found sound.connections f)
    ]
