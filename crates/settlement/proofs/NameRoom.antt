-- That a made file's attributes have room for its name.
use Rattle.std.proofs.Common.{◌≡◌, ℕ, ◌+◌, ◌≤◌, true, false, length, refl, ap, ◌∙◌, arith}
use Rattle.std.specs.Prelude.{◌&&◌, not, codes, is_some, Option, None, Some, if◌then◌else◌}
use Rattle.std.specs.Option.{option_map}
use Rattle.std.specs.FinMap.{contains_key, insert}
use Rattle.uuid.specs.Text.{hyphenated_text, lower}
use Rattle.uuid.proofs.TextLemmas.{by_index_length}
use Rattle.flowfile_record.specs.Attributes.{AttributeMap, encoded_size, pair_size}
use Rattle.flowfile_record.specs.Identifier.{identifier}
use Rattle.flowfile_record.specs.Outcome.{filename_to_come, is_made}
use Rattle.flowfile_record.specs.declared.worked.Origin.{Origin}
use Rattle.process_session.proofs.Encoded.{encoded_size-insert}

pub name_size : (store number : ℕ) → pair_size (codes "filename", hyphenated_text lower (identifier store number)) ≡ 50
name_size store number =
    let long : length (hyphenated_text lower (identifier store number)) ≡ 36 = by_index_length 36 _ in
    ap (λ n. 8 + n + 6) long

pub named_fits : (from : Origin) (attributes : AttributeMap) (store number : ℕ) → is_made from ≡ true → contains_key attributes (codes "filename") ≡ false
    → encoded_size attributes + filename_to_come from attributes ≤ 65536
    → encoded_size (insert attributes (codes "filename") (hyphenated_text lower (identifier store number))) ≤ 65536
named_fits from attributes store number made lacks fits =
    let come : filename_to_come from attributes ≡ 50 = ap (λ b. if b && not (contains_key attributes (codes "filename")) then 50 else 0) made ∙ ap (λ b. if true && not b then 50 else 0) lacks in
    omega (arith, encoded_size-insert attributes (codes "filename") (hyphenated_text lower (identifier store number)), name_size store number, come)

pub some_map : {X Y : Type 0} (f : X → Y) (found : Option X) → is_some (option_map f found) ≡ is_some found
some_map f None = refl
some_map f (Some x) = refl
