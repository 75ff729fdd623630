-- The ends of a connection: the processors with the ids that it names.
use Rattle.std.proofs.Common.{◌≡◌, ℕ, zero, suc, ◌<◌, ◌≤◌, Bool, true, false, List, [], ◌∷◌, ◌++◌, length, nat_lt, is_none, find, position, slice_get, Option, Some, None, bytes_eq, Decides, refl, sym, ap, ◌∙◌, subst, arith}
use Rattle.std.specs.Prelude.{◌==◌}
use Rattle.std.specs.Option.{option_map_or}
use Rattle.std.specs.List.{position_or_len}
use Rattle.std.proofs.lemmas.Bool.{true≢false, lt-ltb, cond-true}
use Rattle.std.proofs.lemmas.Bool.Decides.{same_from_decides, Decides-eqb, Decides-at, Decides-like}
use Rattle.std.proofs.lemmas.List.{get_or_at}
use Rattle.std.proofs.lemmas.List.Folds.{find_at}
use Rattle.std.proofs.lemmas.List.Sums.{passes_at_first}
use Rattle.std.proofs.lemmas.Option.{none-some, same_Some, slice_get_within}
use Rattle.std.proofs.lemmas.Slice.Eq.{bytes_eq-Decides}
use Rattle.serde_json.specs.Data.{Data}
use Rattle.machine_model.specs.declared.flow.Processor.{Processor}
use Rattle.machine_model.specs.declared.limits.TheConstants.{PROCESSORS_MAX}
use Rattle.flow_definition.specs.declared.field.Field.TheVariants.{Id, From, Processors}
use Rattle.flow_definition.specs.Looks.{field_text, has_text, list_items_at}
use Rattle.flow_definition.specs.Reading.{id_at, IsProcessorOf, AreProcessorsOf, place_below, place_at}
use Rattle.flow_definition.specs.Rules.{leaves}
use Rattle.flow_definition.proofs.Names.{IsNamed, has_given, place_of_id}

-- ---- the processor at a place

pub record HasProcessor (d : Data) (at : Option Processor) : Type 0 where
  pub processor : Processor
  pub is : at ≡ Some processor
  pub read : IsProcessorOf d processor

pub processor_at : (ds : List Data) (ps : List Processor) (k : ℕ) (d : Data) → AreProcessorsOf ds ps → slice_get ds k ≡ Some d
    → HasProcessor d (slice_get ps k)
processor_at [] ps k d each at = absurd (none-some d at)
processor_at (e ∷ ds) [] k d each at = absurd each
processor_at (e ∷ ds) (p ∷ ps) zero d each at = record {
  processor = p;
  is = refl;
  read = subst (λ x. IsProcessorOf x p) (same_Some e d at) each.0;
}
processor_at (e ∷ ds) (p ∷ ps) (suc k) d each at = processor_at ds ps k d each.1 at

pub processors_length : (ds : List Data) (ps : List Processor) → AreProcessorsOf ds ps → length ps ≡ length ds
processors_length [] [] each = refl
processors_length [] (p ∷ ps) each = absurd each
processors_length (d ∷ ds) [] each = absurd each
processors_length (d ∷ ds) (p ∷ ps) each = ap suc (processors_length ds ps each.1)

-- ---- the end that a field names

some_data : (o : Option Data) → is_none o ≡ false → (d : Data) × (o ≡ Some d)
some_data None there = absurd (true≢false there)
some_data (Some d) there = (d, refl)

-- where an item passes, its place is the first such
pub record HasPlace (p : Data → Bool) (ds : List Data) : Type 0 where
  pub found : Data
  pub is : find p ds ≡ Some found
  pub at : slice_get ds (position_or_len p ds) ≡ Some found
  pub below : position_or_len p ds < length ds
  pub place : place_below (position p ds) ≡ position_or_len p ds

pub place_found : (p : Data → Bool) (ds : List Data) → length ds ≤ PROCESSORS_MAX → is_none (find p ds) ≡ false → HasPlace p ds
place_found p ds few there =
    let some = some_data (find p ds) there in
    let at : slice_get ds (position_or_len p ds) ≡ Some some.0 = sym (find_at p ds) ∙ some.1 in
    let below : position_or_len p ds < length ds = slice_get_within ds (position_or_len p ds) some.0 at in
    record {
      found = some.0;
      is = some.1;
      at = at;
      below = below;
      place = ap place_below (cond-true (nat_lt (position_or_len p ds) (length ds)) (Some (position_or_len p ds)) None (lt-ltb _ _ below))
          ∙ cond-true (nat_lt (position_or_len p ds) PROCESSORS_MAX) (position_or_len p ds) 0 (lt-ltb _ _ (omega arith));
    }

-- ---- whether a connection leads from the processor at a place

pub leads_from : (top : Data) (earlier ds : List Data) (d c : Data) → list_items_at Processors top ≡ earlier ++ d ∷ ds → IsNamed earlier d
    → field_text From c ≡ Some (id_at From c) → HasPlace (has_text Id (id_at From c)) (list_items_at Processors top)
    → (place_at top From c == length earlier) ≡ leaves d c
leads_from top earlier ds d c all named given place =
    same_from_decides (place_at top From c == length earlier) (leaves d c) by_place by_id
  where
    id : List ℕ
    id = id_at Id d

    from : List ℕ
    from = id_at From c

    first : List Data → ℕ
    first xs = position_or_len (has_text Id from) xs

    leaves_is : leaves d c ≡ bytes_eq id from
    leaves_is =
        ap (λ (o : Option (List ℕ)). option_map_or (λ i. has_text From i c) o false) named.text
        ∙ ap (λ (o : Option (List ℕ)). option_map_or (bytes_eq id) o false) given

    by_id : Decides (leaves d c) (id ≡ from)
    by_id = Decides-at (leaves d c) (bytes_eq id from) leaves_is (bytes_eq-Decides id from)

    at_place : id ≡ from → first (earlier ++ d ∷ ds) ≡ length earlier
    at_place same = subst (λ x. position_or_len (has_text Id x) (earlier ++ d ∷ ds) ≡ length earlier) same (place_of_id earlier ds d named)

    passes : first (earlier ++ d ∷ ds) < length (earlier ++ d ∷ ds) → first (earlier ++ d ∷ ds) ≡ length earlier → has_text Id from d ≡ true
    passes below at =
        subst (λ x. has_text Id from x ≡ true) (get_or_at earlier d ds d (first (earlier ++ d ∷ ds)) (sym at))
        (passes_at_first (has_text Id from) (earlier ++ d ∷ ds) d below)

    has_id : first (earlier ++ d ∷ ds) ≡ length earlier → id ≡ from
    has_id at =
        let below = subst (λ xs. first xs < length xs) all place.below in
        sym ((bytes_eq-Decides from id).0 (sym (has_given from d named.text) ∙ passes below at))

    by_place : Decides (place_at top From c == length earlier) (id ≡ from)
    by_place =
        Decides-like _ (λ e. has_id (sym (place.place ∙ ap first all) ∙ e)) (λ same. place.place ∙ ap first all ∙ at_place same)
        (Decides-eqb (place_at top From c) (length earlier))
