-- What is known of own properties by their names.
use Rattle.std.proofs.Common.{◌≡◌, ℕ, ◌≤◌, true, ◌&&◌, List, map, length, arith}
use Rattle.std.specs.Prelude.{nat_le}
use Rattle.std.specs.List.{list_all}
use Rattle.std.proofs.lemmas.Bool.{and_parts, leb-true}
use Rattle.std.proofs.lemmas.List.{length-map}
use Rattle.machine_model.specs.declared.limits.TheConstants.{OWN_NAME_MAX, OWN_PROPERTIES_MAX}
use Rattle.machine_model.specs.Sound.{within, are_ascending, are_own_names}

-- few, with names of a key's length
pub are_names : {A : Type 0} (name : A → List ℕ) (own : List A) → are_own_names (map name own) ≡ true
    → (length own ≤ 64) × (list_all (λ name. within 1 (length name) OWN_NAME_MAX) (map name own) ≡ true)
are_names name own are =
    let names = map name own in
    let few = nat_le (length names) OWN_PROPERTIES_MAX in
    let sized = list_all (λ name. within 1 (length name) OWN_NAME_MAX) names in
    let parts = and_parts few sized (and_parts (few && sized) (are_ascending names) are).0 in
    (omega (arith, leb-true (length names) OWN_PROPERTIES_MAX parts.0, length-map own name), parts.1)
