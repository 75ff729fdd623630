-- A new store of a sound flow says nothing that a snapshot may not.
use Rattle.std.proofs.Common.{◌≡◌, ◌≢◌, ℕ, zero, suc, ◌+◌, ◌*◌, ◌<◌, ◌≤◌, Bool, true, false, not, List, [], ◌∷◌, length, map, All, bytes_eq, refl, sym, ◌∙◌, ap, subst, arith, length-append}
use Rattle.std.proofs.Math.Nat.{mod-lt}
use Rattle.std.proofs.lemmas.Bool.{and_parts}
use Rattle.std.proofs.lemmas.Bool.Decides.{nat_tests}
use Rattle.std.proofs.lemmas.List.{length-map, length-replicate}
use Rattle.std.proofs.lemmas.List.Concat.{flat_map-cons}
use Rattle.std.proofs.lemmas.List.Elements.{All-nil, All-cons, All-replicate}
use Rattle.std.proofs.lemmas.Slice.Eq.{bytes_eq-Decides}
use Rattle.std.proofs.lemmas.Str.{IsUtf8-from_ascii}
use Rattle.std.proofs.lemmas.Str.Ascii.{IsAscii-from_all}
use Rattle.std.specs.Int.{w16, w32, w64, to_be_bytes}
use Rattle.std.specs.List.{flat_map, list_all}
use Rattle.std.specs.Prelude.{◌&&◌, ◌||◌, nat_lt, replicate, slice_get}
use Rattle.flowfile_record.specs.Encoding.{IsDigest, IsNumber, IsText, text}
use Rattle.record_codec.specs.StoreHead.{IsHead}
use Rattle.record_codec.specs.declared.TheConstants.{FORMAT_VERSION}
use Rattle.record_codec.proofs.StoreHeads.{head_size}
use Rattle.checkpoint_store.specs.Consistent.{AreDistinctBy, IsConsistent, IsBatchIn, IsFileIn}
use Rattle.checkpoint_store.specs.Snapshot.{head_in}
use Rattle.store_core.specs.Flow as store
use Rattle.store_core.specs.New.{kept_anew}
use Rattle.machine_model.specs.declared.flow.Connection.{Connection}
use Rattle.machine_model.specs.declared.flow.Flow.{Flow}
use Rattle.machine_model.specs.declared.limits.TheConstants.{ID_MAX}
use Rattle.machine_model.specs.Kinds.{is_among}
use Rattle.machine_model.specs.Sound.{IsSound, are_distinct_texts, are_sound_limits, has_relationships, is_id, is_id_byte, is_sound_connection, may_be_target, within}
use Rattle.engine_change.specs.Committing.{identity_of}

-- ---- ids

ascii_byte : (c : ℕ) → is_id_byte c ≡ true → c < 128
ascii_byte c is = grind (arith, nat_tests)

ascii_bytes : (id : List ℕ) → list_all is_id_byte id ≡ true → All (λ b. b < 128) id
ascii_bytes [] is = All-nil (λ b. b < 128)
ascii_bytes (c ∷ id) is =
    let both = and_parts (is_id_byte c) (list_all is_id_byte id) is in
    All-cons (λ b. b < 128) c id (ascii_byte c both.0) (ascii_bytes id both.1)

at_most : (n : ℕ) → within 1 n ID_MAX ≡ true → n ≤ ID_MAX
at_most n is = grind (arith, nat_tests)

id_short : (id : List ℕ) → is_id id ≡ true → length id ≤ ID_MAX
id_short id is = at_most (length id) (and_parts (within 1 (length id) ID_MAX) (list_all is_id_byte id) is).0

id_text : (id : List ℕ) → is_id id ≡ true → IsText id
id_text id is =
    let short = id_short id is in
    (omega arith, IsUtf8-from_ascii id (IsAscii-from_all id (ascii_bytes id (and_parts (within 1 (length id) ID_MAX) (list_all is_id_byte id) is).1)))

first_of : (a b c d e f : Bool) → (a && b && c && d && e && f) ≡ true → a ≡ true
first_of true b c d e f is = refl
first_of false b c d e f is = is

has_id : (flow : Flow) (c : Connection) → is_sound_connection flow c ≡ true → is_id c.id ≡ true
has_id flow c is =
    first_of (is_id c.id) (are_sound_limits c.limits) (nat_lt 0 (length c.relationships)) (are_distinct_texts c.relationships)
    (has_relationships c (slice_get flow.processors c.source)) (may_be_target (slice_get flow.processors c.target)) is

abbrev ids : List Connection → List (List ℕ)
ids cs = map (λ connection. connection.id) cs

are_texts : (flow : Flow) (cs : List Connection) → list_all (is_sound_connection flow) cs ≡ true → All IsText (ids cs)
are_texts flow [] is = All-nil IsText
are_texts flow (c ∷ cs) is =
    let both = and_parts (is_sound_connection flow c) (list_all (is_sound_connection flow) cs) is in
    All-cons IsText c.id (ids cs) (id_text c.id (has_id flow c both.0)) (are_texts flow cs both.1)

text_size : (id : List ℕ) → length (text id) ≡ 2 + length id
text_size id = length-append (to_be_bytes w16 (length id)) id

ids_size : (flow : Flow) (cs : List Connection) → list_all (is_sound_connection flow) cs ≡ true → length (flat_map text (ids cs)) ≤ 66 * length cs
ids_size flow [] is = omega arith
ids_size flow (c ∷ cs) is =
    let both = and_parts (is_sound_connection flow c) (list_all (is_sound_connection flow) cs) is in
    let short = id_short c.id (has_id flow c both.0) in
    let rest = ids_size flow cs both.1 in
    let here : length (flat_map text (ids (c ∷ cs))) ≡ length (text c.id) + length (flat_map text (ids cs)) = ap length (flat_map-cons text c.id (ids cs)) ∙ length-append (text c.id) (flat_map text (ids cs)) in
    let size = text_size c.id in
    omega arith

-- ---- distinct ids

or_parts : (a b : Bool) → (a || b) ≡ false → (a ≡ false) × (b ≡ false)
or_parts true b e = absurd cc
or_parts false b e = (refl, e)

is_not : (a : Bool) → not a ≡ true → a ≡ false
is_not true e = absurd cc
is_not false e = refl

apart : (name : List ℕ) (names : List (List ℕ)) → is_among name names ≡ false → All (λ other. name ≢ other) names
apart name [] e = All-nil (λ (other : List ℕ). name ≢ other)
apart name (other ∷ names) e =
    let parts = or_parts (bytes_eq name other) (is_among name names) e in
    All-cons (λ (o : List ℕ). name ≢ o) other names (λ same. grind (arith, bytes_eq-Decides name other, parts.0, same)) (apart name names parts.1)

are_distinct : (names : List (List ℕ)) → are_distinct_texts names ≡ true → AreDistinctBy (λ (name : List ℕ). name) names
are_distinct [] e = tt
are_distinct (name ∷ names) e =
    let parts = and_parts (not (is_among name names)) (are_distinct_texts names) e in
    (apart name names (is_not (is_among name names) parts.0), are_distinct names parts.1)

-- ---- counts

counts_size : (n : ℕ) → length (flat_map (to_be_bytes w64) (replicate n 0)) ≡ 8 * n
counts_size zero = refl
counts_size (suc n) =
    let rest = counts_size n in
    let here : length (flat_map (to_be_bytes w64) (0 ∷ replicate n 0)) ≡ 8 + length (flat_map (to_be_bytes w64) (replicate n 0)) =
    ap length (flat_map-cons (to_be_bytes w64) 0 (replicate n 0)) ∙ length-append (to_be_bytes w64 0) (flat_map (to_be_bytes w64) (replicate n 0))
    in
    omega (arith, here, rest)

-- ---- the store

module _ (flow : Flow) (lot : ℕ) (sound : IsSound flow) (digest : IsDigest flow.digest) where
  abbrev counts : List ℕ
  counts = replicate (length flow.processors) 0

  has_head : IsHead (head_in FORMAT_VERSION (kept_anew (identity_of flow) lot))
  has_head =
      let few = sound.connection_count in
      let some = sound.processor_count in
      let named = length-map flow.connections (λ (connection : Connection). connection.id) in
      let counted = length-replicate {A = ℕ} (length flow.processors) 0 in
      record {
        version = refl;
        store = mod-lt lot (omega arith);
        flow = digest;
        connections = (omega (arith, few, named), are_texts flow flow.connections sound.connections);
        processors = (omega arith, All-nil IsText);
        counts = (omega (arith, some, counted), All-replicate IsNumber (length flow.processors) 0 (omega arith));
        next_number = omega arith;
        next_arrival = omega arith;
        last_event = omega arith;
        line = (refl, omega arith);
        next_batch = omega arith;
        first = λ first. (refl, refl);
      }

  pub new_is_consistent : IsConsistent (kept_anew (identity_of flow) lot)
  new_is_consistent = record {
    encoded = has_head;
    head_size =
        let few = sound.connection_count in
        let some = sound.processor_count in
        let size = head_size (head_in FORMAT_VERSION (kept_anew (identity_of flow) lot)) digest in
        let named = ids_size flow flow.connections sound.connections in
        let counted = counts_size (length flow.processors) in
        let texts_are = length-append (to_be_bytes w32 (length (ids flow.connections))) (flat_map text (ids flow.connections)) in
        let counts_are = length-append (to_be_bytes w32 (length counts)) (flat_map (to_be_bytes w64) counts) in
        omega (arith, few, some, size, named, counted, texts_are, counts_are);
    counts = λ second. absurd cc;
    connections = are_distinct (ids flow.connections) sound.connection_ids;
    counters = record { next_number = omega arith; next_arrival = omega arith; next_batch = omega arith };
    files = All-nil (IsFileIn (kept_anew (identity_of flow) lot));
    numbers = tt;
    arrivals = tt;
    batches = All-nil (IsBatchIn (kept_anew (identity_of flow) lot));
    batch_numbers = tt;
    live_files = omega arith;
    live_bytes = omega arith;
  }

  -- .. also where its identity was made of its parts
  pub anew_is_consistent : (made : store.Flow) → made ≡ identity_of flow → IsConsistent (kept_anew made lot)
  anew_is_consistent made is = subst (λ (f : store.Flow). IsConsistent (kept_anew f lot)) (sym is) new_is_consistent

-- the identity of a flow, by its parts
pub identity_is : (flow : Flow) (digest : List ℕ) (connections : List (List ℕ)) (processors : ℕ) → digest ≡ flow.digest → connections ≡ map (λ connection. connection.id) flow.connections
    → processors ≡ length flow.processors → ◌≡◌ {A = store.Flow} (record { digest = digest; connections = connections; processors = processors }) (identity_of flow)
identity_is flow digest connections processors d c p = λ i. record { digest = d i; connections = c i; processors = p i }
