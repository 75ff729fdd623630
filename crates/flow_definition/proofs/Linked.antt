-- Each relationship of an accepted text's processors is terminated, or leads to a connection or more.
use Rattle.std.proofs.Common.{◌≡◌, ℕ, ◌+◌, ◌<◌, ◌≤◌, Bool, true, false, cond, not, ◌&&◌, ◌||◌, List, [], ◌∷◌, ◌++◌, length, map, fold, count_by, refl, sym, ap, ◌∙◌, subst, arith, append_assoc}
use Rattle.std.specs.Prelude.{◌==◌}
use Rattle.std.specs.List.{list_all, list_any, enumerate_from}
use Rattle.std.proofs.lemmas.Bool.{false≢true, and_from, or_parts, not-false, eq-eqb, le-leb, ltb-false}
use Rattle.std.proofs.lemmas.List.{length_push}
use Rattle.serde_json.specs.Data.{Data}
use Rattle.machine_model.specs.Kinds.{is_among}
use Rattle.machine_model.specs.Sound as sound
use Rattle.machine_model.specs.Sound.{within, connection_count, is_sound_relationship, are_sound_relationships}
use Rattle.machine_model.specs.declared.flow.Flow.{Flow}
use Rattle.machine_model.specs.declared.flow.Processor.{Processor}
use Rattle.machine_model.specs.declared.limits.TheConstants.{FAN_OUT_MAX, PROCESSORS_MAX}
use Rattle.flow_definition.specs.declared.field.Field.TheVariants.{Processors, Connections, Terminated, From, Relationships}
use Rattle.flow_definition.specs.Looks.{list_items_at, names_at, relationships_in}
use Rattle.flow_definition.specs.Reading.{place_at, connection_of, IsProcessorOf, AreProcessorsOf}
use Rattle.flow_definition.specs.Rules.{leaves, connection_carries, is_connected, is_loose, is_crowded}
use Rattle.flow_definition.proofs.Ends.{leads_from}
use Rattle.flow_definition.proofs.Names.{IsNamed}
use Rattle.flow_definition.proofs.Parts.{kind_typed, named_processor, source_given, source_place}
use Rattle.flow_definition.proofs.Passed.{ArePassedProcessors, ArePassedConnections}

-- ---- how many pass a test

abbrev counts : {X : Type 0} → (X → Bool) → ℕ → X → ℕ
counts p n x = n + cond (p x) 1 0

none_counted : {X : Type 0} (p : X → Bool) (xs : List X) (n : ℕ) → list_any p xs ≡ false → fold (counts p) n xs ≡ n
none_counted p [] n none = refl
none_counted p (x ∷ xs) n none =
    let parts = or_parts (p x) (list_any p xs) none in
    ap (λ b. fold (counts p) (n + cond b 1 0) xs) parts.0 ∙ none_counted p xs (n + 0) parts.1 ∙ omega arith

never_less : {X : Type 0} (p : X → Bool) (xs : List X) (n : ℕ) → n ≤ fold (counts p) n xs
never_less p [] n = omega arith
never_less p (x ∷ xs) n = omega (arith, never_less p xs (n + cond (p x) 1 0))

some_here : {X : Type 0} (p : X → Bool) (xs : List X) (n : ℕ) (b : Bool) → (list_any p xs ≡ true → n < fold (counts p) (n + 0) xs)
    → (b || list_any p xs) ≡ true → n < fold (counts p) (n + cond b 1 0) xs
some_here p xs n true later some = omega (arith, never_less p xs (n + 1))
some_here p xs n false later some = later some

some_counted : {X : Type 0} (p : X → Bool) (xs : List X) (n : ℕ) → list_any p xs ≡ true → n < fold (counts p) n xs
some_counted p [] n some = absurd (false≢true some)
some_counted p (x ∷ xs) n some =
    some_here p xs n (p x) (λ later. omega (arith, some_counted p xs (n + 0) later)) some

-- ---- a processor's connections

-- each connection leads from the place just where it leads from the processor
abbrev Lead : (top : Data) (place : ℕ) (d : Data) → List Data → Type 0
Lead top place d [] = Unit {0}
Lead top place d (c ∷ cs) = ((place_at top From c == place) ≡ leaves d c) × Lead top place d cs

all_lead : (top : Data) (before behind : List Data) (d : Data) (earlier cs : List Data) → list_items_at Processors top ≡ before ++ d ∷ behind
    → IsNamed before d → length (list_items_at Processors top) ≤ PROCESSORS_MAX → ArePassedConnections top earlier cs → Lead top (length before) d cs
all_lead top before behind d earlier [] all named few passed = tt
all_lead top before behind d earlier (c ∷ cs) all named few passed = (
  leads_from top before behind d c all named (source_given top earlier c passed.0) (source_place top earlier c few passed.0),
  all_lead top before behind d (earlier ++ c ∷ []) cs all named few passed.1,
)

counted_alike : (top : Data) (place : ℕ) (d : Data) (name : List ℕ) (cs : List Data) (n : ℕ) → Lead top place d cs
    → fold (counts (sound.carries place name)) n (map (connection_of top) cs) ≡ fold (counts (connection_carries d name)) n cs
counted_alike top place d name [] n lead = refl
counted_alike top place d name (c ∷ cs) n lead =
    ap (λ b. fold (counts (sound.carries place name)) (n + cond (b && is_among name (names_at Relationships c)) 1 0) (map (connection_of top) cs)) lead.0
    ∙ counted_alike top place d name cs (n + cond (connection_carries d name c) 1 0) lead.1

-- ---- relationships

either_way : (terminated any : Bool) (n : ℕ) → (any ≡ false → n ≡ 0) → (any ≡ true → 0 < n) → n ≤ FAN_OUT_MAX
    → cond terminated any (not any) ≡ false → cond terminated (n == 0) (within 1 n FAN_OUT_MAX) ≡ true
either_way true any n none some few fate = eq-eqb n 0 (none fate)
either_way false any n none some few fate = and_from _ _ (le-leb 1 n (some (not-false any fate))) (le-leb n FAN_OUT_MAX few)

sound_relationship : (top : Data) (flow : Flow) (place : ℕ) (d : Data) (p : Processor) (name : List ℕ) → IsProcessorOf d p
    → flow.connections ≡ map (connection_of top) (list_items_at Connections top) → Lead top place d (list_items_at Connections top)
    → is_loose top d name ≡ false → is_crowded top d name ≡ false → is_sound_relationship flow place p name ≡ true
sound_relationship top flow place d p name read connections lead loose crowded =
    let cs : List Data = list_items_at Connections top in
    let n : ℕ = count_by (connection_carries d name) cs in
    let counted : connection_count flow place name ≡ n =
    ap (count_by (sound.carries place name)) connections ∙ counted_alike top place d name cs 0 lead in
    ap (λ m. cond (is_among name p.terminated) (m == 0) (within 1 m FAN_OUT_MAX)) counted
    ∙ ap (λ names. cond (is_among name names) (n == 0) (within 1 n FAN_OUT_MAX)) read.terminated
    ∙ either_way (is_among name (names_at Terminated d)) (is_connected top d name) n (none_counted (connection_carries d name) cs 0)
    (some_counted (connection_carries d name) cs 0) (ltb-false FAN_OUT_MAX n crowded) loose

each_sound : (top : Data) (flow : Flow) (place : ℕ) (d : Data) (p : Processor) (names : List (List ℕ)) → IsProcessorOf d p
    → flow.connections ≡ map (connection_of top) (list_items_at Connections top) → Lead top place d (list_items_at Connections top)
    → list_any (is_loose top d) names ≡ false → list_any (is_crowded top d) names ≡ false
    → list_all (is_sound_relationship flow place p) names ≡ true
each_sound top flow place d p [] read connections lead loose crowded = refl
each_sound top flow place d p (name ∷ names) read connections lead loose crowded =
    let l = or_parts (is_loose top d name) (list_any (is_loose top d) names) loose in
    let c = or_parts (is_crowded top d name) (list_any (is_crowded top d) names) crowded in
    and_from (is_sound_relationship flow place p name) _
    (sound_relationship top flow place d p name read connections lead l.0 c.0)
    (each_sound top flow place d p names read connections lead l.1 c.1)

pub sound_relationships : (top : Data) (flow : Flow) (before ds : List Data) (ps : List Processor)
    → list_items_at Processors top ≡ before ++ ds → length (list_items_at Processors top) ≤ PROCESSORS_MAX
    → flow.connections ≡ map (connection_of top) (list_items_at Connections top) → ArePassedConnections top [] (list_items_at Connections top)
    → ArePassedProcessors top before ds → AreProcessorsOf ds ps
    → list_all (are_sound_relationships flow) (enumerate_from (length before) ps) ≡ true
sound_relationships top flow before [] [] all few connections linked passed each = refl
sound_relationships top flow before [] (p ∷ ps) all few connections linked passed each = absurd each
sound_relationships top flow before (d ∷ ds) [] all few connections linked passed each = absurd each
sound_relationships top flow before (d ∷ ds) (p ∷ ps) all few connections linked passed each =
    let place : ℕ = length before in
    let typed = kind_typed d p.kind each.0.kind in
    let lead = all_lead top before ds d [] (list_items_at Connections top) all (named_processor top before d passed.0) few linked in
    and_from (are_sound_relationships flow (place, p)) _
    (subst (λ names. list_all (is_sound_relationship flow place p) names ≡ true) typed.names
    (each_sound top flow place d p (relationships_in d) each.0 connections lead passed.0.loose passed.0.few))
    (subst (λ n. list_all (are_sound_relationships flow) (enumerate_from n ps) ≡ true) (length_push before d)
    (sound_relationships top flow (before ++ d ∷ []) ds ps (all ∙ sym (append_assoc before (d ∷ []) ds)) few connections linked passed.1 each.1))
