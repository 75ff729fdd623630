-- The session of a RouteOnContent: the places of the relationships whose patterns find something.
use Rattle.std.proofs.Common.{◌≡◌, ℕ, ◌+◌, ◌<◌, ◌≤◌, true, false, List, [], ◌∷◌, length, map, Some, sym, refl, ◌∙◌, ap, subst, arith, length-append}
use Rattle.std.specs.Prelude.{codes, filter, nat_le, not, ◌&&◌}
use Rattle.std.specs.List.{All, enumerate_from, list_all}
use Rattle.std.specs.Str.{is_utf8}
use Rattle.std.proofs.lemmas.Bool.{and_parts, leb-true}
use Rattle.std.proofs.lemmas.List.{length-map}
use Rattle.machine_model.specs.Acting.{act}
use Rattle.machine_model.specs.Making.{TakenFile}
use Rattle.machine_model.specs.RouteOnAttribute.{places_where, routed}
use Rattle.machine_model.specs.RouteOnContent.{found_places, is_found_in}
use Rattle.machine_model.specs.Kinds.{is_among}
use Rattle.machine_model.specs.Sound.{IsSoundKind, are_ascending, are_own_names, within}
use Rattle.machine_model.specs.declared.limits.TheConstants.{OWN_NAME_MAX, OWN_PROPERTIES_MAX}
use Rattle.machine_model.specs.declared.given.Given.{Given}
use Rattle.machine_model.specs.declared.kind.Kind.TheVariants.{RouteOnContent}
use Rattle.machine_model.specs.declared.kind.MatchRequirement.{MatchRequirement}
use Rattle.machine_model.specs.declared.kind.OwnPattern.{OwnPattern}
use Rattle.process_session.specs.Bench.{Bench, bench_attributes, bench_of, bench_bytes}
use Rattle.process_session.specs.Finish.{outcome_of}
use Rattle.process_session.specs.declared.file.Taken.{Taken}
use Rattle.processor_api.specs.Acts.{Begins, EndsAs, IsTakenAs}
use Rattle.processor_api.proofs.Began.{one-acts, taken-content}
use Rattle.processor_api.specs.Sessions.{EndsWith}
use Rattle.processor_api.proofs.Clones.{took-relationships}
use Rattle.processor_api.proofs.Places.{places-below, places-few}
use Rattle.proc_text.specs.Finding.{finds}

-- ---- a content that is text, and one that isn't

pub found-in-text : (content : List ℕ) (own : List OwnPattern) → is_utf8 content ≡ true → places_where (finds content) own ≡ found_places content own
found-in-text content own is = ap (λ b. places_where (λ property. b && finds content property) own) (sym is)

none-pass : {X : Type 0} (n : ℕ) (xs : List X) → filter (λ (p : ℕ × X). false) (enumerate_from n xs) ≡ []
none-pass n [] = refl
none-pass n (x ∷ xs) = none-pass (n + 1) xs

pub none-found : (content : List ℕ) (own : List OwnPattern) → is_utf8 content ≡ false → [] ≡ found_places content own
none-found content own isnt =
    ap (map (λ (p : ℕ × OwnPattern). p.0)) (sym (none-pass 0 own))
    ∙ ap (λ b. places_where (λ property. b && finds content property) own) (sym isnt)

-- ---- the processor

pub own-few : (requirement : MatchRequirement) (own : List OwnPattern) → IsSoundKind (RouteOnContent requirement own) → length own ≤ OWN_PROPERTIES_MAX
own-few requirement own sound =
    let names = map (λ (property : OwnPattern). property.name) own in
    let each = list_all (λ name. within 1 (length name) OWN_NAME_MAX) names in
    let named = and_parts (are_own_names names) (not (is_among (codes "unmatched") names)) sound.ranges in
    let unordered = and_parts (nat_le (length names) OWN_PROPERTIES_MAX && each) (are_ascending names) named.0 in
    let counted = and_parts (nat_le (length names) OWN_PROPERTIES_MAX) each unordered.0 in
    omega (arith, leb-true (length names) OWN_PROPERTIES_MAX counted.0, length-map own (λ (property : OwnPattern). property.name))

pub route-relationships : (requirement : MatchRequirement) (own : List OwnPattern) (before : Bench) (given : Given) → Begins (RouteOnContent requirement own) before given → before.relationships ≡ length own + 1
route-relationships requirement own before given begins =
    let names = map (λ (property : OwnPattern). property.name) own in
    omega (arith, took-relationships (RouteOnContent requirement own) before given begins, length-append names (codes "unmatched" ∷ []), length-map own (λ (property : OwnPattern). property.name))

pub places-there : (requirement : MatchRequirement) (own : List OwnPattern) (before : Bench) (given : Given) (content places : List ℕ) → Begins (RouteOnContent requirement own) before given → places ≡ found_places content own
    → All (λ place. place < before.relationships) places
places-there requirement own before given content places begins are =
    subst (All (λ place. place < before.relationships)) (sym are)
    (places-below (is_found_in content) own before.relationships (omega (arith, route-relationships requirement own before given begins)))

pub few-found : (requirement : MatchRequirement) (own : List OwnPattern) (content places : List ℕ) → IsSoundKind (RouteOnContent requirement own) → places ≡ found_places content own → length places ≤ OWN_PROPERTIES_MAX
few-found requirement own content places sound are =
    omega (arith, ap length are, places-few (is_found_in content) own, own-few requirement own sound)

pub route-acts : (requirement : MatchRequirement) (own : List OwnPattern) (before : Bench) (given : Given) (after : Bench) (content places : List ℕ) → Begins (RouteOnContent requirement own) before given → bench_bytes before 0 ≡ Some content
    → places ≡ found_places content own → ((file : TakenFile) → file.attributes ≡ bench_attributes before 0 → EndsWith before after (routed (length own) file places)) → EndsAs (RouteOnContent requirement own) before given after
route-acts requirement own before given after content places begins shown are ends =
    let some = ends (record { attributes = bench_attributes before 0; uuid = []; bytes = [] }) refl in
    one-acts (RouteOnContent requirement own) before given after refl begins some.finished some.kept of_file
  where
    of_file : (taken : Taken) (file : TakenFile) → before ≡ bench_of before.relationships (taken ∷ []) → IsTakenAs file taken → act (RouteOnContent requirement own) (file ∷ []) given ≡ Some (outcome_of after)
    of_file taken file began alike =
        let same : file.attributes ≡ bench_attributes before 0 = alike.attributes ∙ sym (ap (λ b. bench_attributes b 0) began) in
        ap (λ bytes. Some (routed (length own) file (found_places bytes own))) (taken-content before taken file content began alike shown)
        ∙ ap (λ p. Some (routed (length own) file p)) (sym are) ∙ ap Some (sym (ends file same).outcome)
