-- The session of a RouteOnAttribute: the places of the relationships that are true, and what is made of them.
use Rattle.std.proofs.Common.{◌≡◌, ℕ, ◌+◌, ◌<◌, ◌≤◌, List, [], ◌∷◌, length, map, Some, sym, refl, ◌∙◌, ap, subst, arith, length-append}
use Rattle.std.specs.Prelude.{codes, nat_le, not, ◌&&◌}
use Rattle.std.specs.List.{All, list_all}
use Rattle.std.proofs.lemmas.Bool.{and_parts, leb-true}
use Rattle.std.proofs.lemmas.List.{length-map}
use Rattle.expr_lang.specs.Meaning.{Attributes}
use Rattle.machine_model.specs.Acting.{act}
use Rattle.machine_model.specs.Making.{TakenFile, found_in}
use Rattle.machine_model.specs.RouteOnAttribute.{is_true_of, routed, true_places}
use Rattle.machine_model.specs.Kinds.{is_among}
use Rattle.machine_model.specs.Sound.{IsSoundKind, are_ascending, are_own_names, within}
use Rattle.machine_model.specs.declared.limits.TheConstants.{OWN_NAME_MAX, OWN_PROPERTIES_MAX}
use Rattle.machine_model.specs.declared.given.Given.{Given}
use Rattle.machine_model.specs.declared.kind.Kind.TheVariants.{RouteOnAttribute}
use Rattle.machine_model.specs.declared.kind.OwnExpression.{OwnExpression}
use Rattle.process_session.specs.Bench.{Bench, bench_attributes, bench_of}
use Rattle.process_session.specs.Finish.{outcome_of}
use Rattle.process_session.specs.declared.file.Taken.{Taken}
use Rattle.processor_api.specs.Acts.{Begins, EndsAs, IsTakenAs}
use Rattle.processor_api.proofs.Began.{one-acts}
use Rattle.processor_api.specs.Sessions.{EndsWith}
use Rattle.proc_attribute.specs.Routing.{found_of, uuid_at}
use Rattle.processor_api.proofs.Clones.{took-relationships}
use Rattle.processor_api.proofs.Places.{places-below, places-few as few-pass}

-- what expressions find of a file of the machine that is taken
pub found-is : (before : Bench) (taken : Taken) (file : TakenFile) → before ≡ bench_of before.relationships (taken ∷ []) → IsTakenAs file taken → found_of before ≡ found_in file
found-is before taken file began alike =
    let attributes : bench_attributes before 0 ≡ file.attributes = ap (λ b. bench_attributes b 0) began ∙ sym alike.attributes in
    let uuid : uuid_at before 0 ≡ file.uuid = ap (λ b. uuid_at b 0) began ∙ sym alike.uuid in
    ap (λ a. found_in (record { attributes = a; uuid = uuid_at before 0; bytes = [] })) attributes
    ∙ ap (λ u. found_in (record { attributes = file.attributes; uuid = u; bytes = [] })) uuid

-- ---- the processor

pub own-few : (own : List OwnExpression) → IsSoundKind (RouteOnAttribute own) → length own ≤ OWN_PROPERTIES_MAX
own-few own sound =
    let names = map (λ (property : OwnExpression). property.name) own in
    let each = list_all (λ name. within 1 (length name) OWN_NAME_MAX) names in
    let named = and_parts (are_own_names names) (not (is_among (codes "unmatched") names)) sound.ranges in
    let unordered = and_parts (nat_le (length names) OWN_PROPERTIES_MAX && each) (are_ascending names) named.0 in
    let counted = and_parts (nat_le (length names) OWN_PROPERTIES_MAX) each unordered.0 in
    omega (arith, leb-true (length names) OWN_PROPERTIES_MAX counted.0, length-map own (λ (property : OwnExpression). property.name))

pub route-relationships : (own : List OwnExpression) (before : Bench) (given : Given) → Begins (RouteOnAttribute own) before given → before.relationships ≡ length own + 1
route-relationships own before given begins =
    let names = map (λ (property : OwnExpression). property.name) own in
    omega (arith, took-relationships (RouteOnAttribute own) before given begins, length-append names (codes "unmatched" ∷ []), length-map own (λ (property : OwnExpression). property.name))

-- each place that is true is one of a relationship
pub places-there : (own : List OwnExpression) (before : Bench) (given : Given) (places : List ℕ) → Begins (RouteOnAttribute own) before given → places ≡ true_places (found_of before) own
    → All (λ place. place < before.relationships) places
places-there own before given places begins are =
    subst (All (λ place. place < before.relationships)) (sym are) (places-below (is_true_of (found_of before)) own before.relationships (omega (arith, route-relationships own before given begins)))

pub places-few : (own : List OwnExpression) (find : Attributes) (places : List ℕ) → IsSoundKind (RouteOnAttribute own) → places ≡ true_places find own → length places ≤ OWN_PROPERTIES_MAX
places-few own find places sound are = omega (arith, ap length are, few-pass (is_true_of find) own, own-few own sound)

pub route-acts : (own : List OwnExpression) (before : Bench) (given : Given) (after : Bench) (places : List ℕ) → Begins (RouteOnAttribute own) before given → places ≡ true_places (found_of before) own
    → ((file : TakenFile) → file.attributes ≡ bench_attributes before 0 → EndsWith before after (routed (length own) file places)) → EndsAs (RouteOnAttribute own) before given after
route-acts own before given after places begins are ends =
    let some = ends (record { attributes = bench_attributes before 0; uuid = []; bytes = [] }) refl in
    one-acts (RouteOnAttribute own) before given after refl begins some.finished some.kept of_file
  where
    of_file : (taken : Taken) (file : TakenFile) → before ≡ bench_of before.relationships (taken ∷ []) → IsTakenAs file taken → act (RouteOnAttribute own) (file ∷ []) given ≡ Some (outcome_of after)
    of_file taken file began alike =
        let same : file.attributes ≡ bench_attributes before 0 = alike.attributes ∙ sym (ap (λ b. bench_attributes b 0) began) in
        ap (λ found. Some (routed (length own) file (true_places found own))) (sym (found-is before taken file began alike))
        ∙ ap (λ p. Some (routed (length own) file p)) (sym are) ∙ ap Some (sym (ends file same).outcome)
