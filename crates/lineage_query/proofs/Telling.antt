-- What is told of a file: that events name it, and the numbers of the events of the file and its relatives.
use Rattle.std.proofs.Common.{◌≡◌, ℕ, ◌+◌, ◌*◌, ◌<◌, ◌≤◌, ◌==◌, ◌||◌, Bool, true, false, cond, List, [], ◌∷◌, ◌++◌, length, get_or, ◌⊎◌, inl, inr, Some, is_some, refl, sym, ap, subst, ◌∙◌, arith}
use lib.Dec.{eqb}
use Rattle.std.specs.Prelude.{map, filter, Contains}
use Rattle.std.specs.List.{AllPairs, IsDistinct, dedup, find, flat_map, list_any, sum_by}
use Rattle.std.specs.List.Sorted.{IsPermutation, IsSorted}
use Rattle.std.specs.Ordering.{nat_cmp}
use Rattle.std.proofs.lemmas.Bool.{eq-eqb, eqb-true, ne_eqb, false≢true}
use Rattle.std.proofs.lemmas.List.{nil_from_length}
use Rattle.std.proofs.lemmas.List.Kept.{AllPairs-from_increasing, Contains-dedup_nat, Contains-from_dedup}
use Rattle.std.proofs.lemmas.List.Sorted.{Contains-permutation, IsPermutation-sym}
use Rattle.std.proofs.lemmas.List.Sums.{sum_by-cons, sum_by-append}
use Rattle.std.proofs.lemmas.Map.Keys.{IsDistinct-from_apart, IsStrictlyIncreasing-dedup}
use Rattle.flowfile_record.specs.declared.event.Event.{Event}
use Rattle.machine_model.specs.Files.{is_number_among}
use Rattle.machine_model.specs.Lineage as machine
use Rattle.machine_model.specs.Lineage.{HasTold, IsAncestor, IsDescendant, Lists, TellsOf, is_named}
use Rattle.prov_index.specs.Index.{event_number, names_file, numbers_naming}
use Rattle.lineage_query.specs.Walk.{Leads, Reaches, first, further}
use Rattle.lineage_query.specs.declared.kin.Way.TheVariants.{Up, Down}
use Rattle.lineage_query.specs.Work.{work}
use Rattle.lineage_query.specs.Told.{own_event_numbers, numbers_of_all}
use Rattle.lineage_query.proofs.Members.{Among, from-contains, to-contains, on-left, on-right, on-either, in-map, from-map, in-flat_map, from-flat_map, in-filter, from-filter}
use Rattle.lineage_query.proofs.Steps.{distinct-le}

-- ---- whether an event names a file

find-any : (p : ℕ → Bool) (ns : List ℕ) → is_some (find p ns) ≡ list_any p ns
find-any p [] = refl
find-any p (n ∷ ns) = elim (p n) as (λ b. is_some (cond b (Some n) (find p ns)) ≡ (b || list_any p ns)) [ true ↦ refl | false ↦ find-any p ns ]

same-names : (file : ℕ) (event : Event) → machine.names file event ≡ names_file file event
same-names file event =
    ap (λ b. event.file == file || b || is_number_among event.children file) (find-any (λ n. n == file) event.parents)
    ∙ ap (λ b. event.file == file || list_any (λ n. n == file) event.parents || b) (find-any (λ n. n == file) event.children)

any-named : (events : List Event) (file : ℕ) → is_named events file ≡ list_any (names_file file) events
any-named [] file = refl
any-named (event ∷ events) file = ap (λ b. b || is_named events file) (same-names file event) ∙ ap (λ b. names_file file event || b) (any-named events file)

none-named : (events : List Event) (file : ℕ) → numbers_naming events file ≡ [] → list_any (names_file file) events ≡ false
none-named [] file none = refl
none-named (event ∷ events) file none =
    elim (names_file file event) as (λ b. map event_number (cond b (event ∷ filter (names_file file) events) (filter (names_file file) events)) ≡ [] → (b || list_any (names_file file) events) ≡ false) [
      | true ↦ λ e. absurd cc
      | false ↦ λ e. none-named events file e
    ] none

some-named : (events : List Event) (file : ℕ) → list_any (names_file file) events ≡ false → numbers_naming events file ≡ []
some-named [] file none = refl
some-named (event ∷ events) file none =
    elim (names_file file event) as (λ b. (b || list_any (names_file file) events) ≡ false → map event_number (cond b (event ∷ filter (names_file file) events) (filter (names_file file) events)) ≡ []) [
      | true ↦ λ e. absurd cc
      | false ↦ λ e. some-named events file e
    ] none

pub unnamed : (events : List Event) (file : ℕ) → numbers_naming events file ≡ [] → is_named events file ≡ false
unnamed events file none = any-named events file ∙ none-named events file none

pub no-numbers : (events : List Event) (file : ℕ) → is_named events file ≡ false → numbers_naming events file ≡ []
no-numbers events file none = some-named events file (sym (any-named events file) ∙ none)

pub unlisted : (events : List Event) (numbers : List ℕ) (file : ℕ) → numbers ≡ numbers_naming events file → (length numbers == 0) ≡ true → is_named events file ≡ false
unlisted events numbers file are empty = unnamed events file (sym are ∙ nil_from_length numbers (eqb-true (length numbers) 0 empty))

pub listed : (events : List Event) (numbers : List ℕ) (file : ℕ) → numbers ≡ numbers_naming events file → (length numbers == 0) ≡ false → is_named events file ≡ false → ⊥
listed events numbers file are some none =
    let empty = eq-eqb (length numbers) 0 (ap length (are ∙ no-numbers events file none)) in
    false≢true (sym some ∙ empty)

-- ---- ancestors and descendants

module _ (events : List Event) (file : ℕ) where
  up-ancestor : (o : ℕ) → Reaches Up events file o → IsAncestor events file o
  up-ancestor o (first other leads) = IsAncestor.parent other leads
  up-ancestor o (further member other reaches leads) = IsAncestor.further member other (up-ancestor member reaches) leads

  ancestor-up : (o : ℕ) → IsAncestor events file o → Reaches Up events file o
  ancestor-up o (IsAncestor.parent other leads) = first other leads
  ancestor-up o (IsAncestor.further member other is leads) = further member other (ancestor-up member is) leads

  down-descendant : (o : ℕ) → Reaches Down events file o → IsDescendant events file o
  down-descendant o (first other leads) = IsDescendant.child other leads
  down-descendant o (further member other reaches leads) = IsDescendant.further member other (down-descendant member reaches) leads

  descendant-down : (o : ℕ) → IsDescendant events file o → Reaches Down events file o
  descendant-down o (IsDescendant.child other leads) = first other leads
  descendant-down o (IsDescendant.further member other is leads) = further member other (descendant-down member is) leads

  pub ancestors-from : (list : List ℕ) → Lists (Reaches Up events file) list → Lists (IsAncestor events file) list
  ancestors-from list is = record {
    ascend = is.ascend;
    just = λ o. (λ there. up-ancestor o ((is.just o).0 there), λ holds. (is.just o).1 (ancestor-up o holds));
  }

  pub ancestors-to : (list : List ℕ) → Lists (IsAncestor events file) list → Lists (Reaches Up events file) list
  ancestors-to list is = record {
    ascend = is.ascend;
    just = λ o. (λ there. ancestor-up o ((is.just o).0 there), λ holds. (is.just o).1 (up-ancestor o holds));
  }

  pub descendants-from : (list : List ℕ) → Lists (Reaches Down events file) list → Lists (IsDescendant events file) list
  descendants-from list is = record {
    ascend = is.ascend;
    just = λ o. (λ there. down-descendant o ((is.just o).0 there), λ holds. (is.just o).1 (descendant-down o holds));
  }

  pub descendants-to : (list : List ℕ) → Lists (IsDescendant events file) list → Lists (Reaches Down events file) list
  descendants-to list is = record {
    ascend = is.ascend;
    just = λ o. (λ there. descendant-down o ((is.just o).0 there), λ holds. (is.just o).1 (down-descendant o holds));
  }

-- ---- lists of the same files cost the same

lists-apart : (Holds : ℕ → Type 0) (list : List ℕ) → Lists Holds list → IsDistinct eqb list
lists-apart Holds list is =
    IsDistinct-from_apart eqb list (λ i j d lt within. let below : get_or list i d < get_or list j d = is.ascend i j d lt within in ne_eqb (get_or list i d) (get_or list j d) (λ e. omega (arith, below, e)))

pub lists-cost : (events : List Event) (Holds : ℕ → Type 0) (list other : List ℕ) → Lists Holds list → Lists Holds other → work events list ≤ work events other
lists-cost events Holds list other is also =
    distinct-le (λ file. length (numbers_naming events file)) list other (lists-apart Holds list is) (λ o a. from-contains o other ((also.just o).1 ((is.just o).0 (to-contains o list a))))

pub work-cons : (events : List Event) (file : ℕ) (files : List ℕ) → work events (file ∷ files) ≡ length (numbers_naming events file) + work events files
work-cons events file files = sum_by-cons (λ f. length (numbers_naming events f)) file files

pub work-both : (events : List Event) (file : ℕ) (up down : List ℕ) → work events (file ∷ up ++ down) ≡ length (numbers_naming events file) + work events up + work events down
work-both events file up down =
    omega (arith, sum_by-cons (λ f. length (numbers_naming events f)) file (up ++ down), sum_by-append (λ f. length (numbers_naming events f)) up down)

-- ---- the events of the file and of its relatives

in-numbers : (events : List Event) (event : Event) (file : ℕ) → Among event events → event.file ≡ file → Among event.number (own_event_numbers events file)
in-numbers events event file there is =
    in-map event_number event (filter (λ (e : Event). e.file == file) events) (in-filter (λ (e : Event). e.file == file) event events there (eq-eqb event.file file is))

from-numbers : (events : List Event) (number file : ℕ) → Among number (own_event_numbers events file) → (event : Event) × Among event events × (event.number ≡ number) × (event.file ≡ file)
from-numbers events number file a =
    let by = from-map event_number number (filter (λ (e : Event). e.file == file) events) a in
    let event : Event = by.0 in
    let passed = from-filter (λ (e : Event). e.file == file) event events by.1 in
    (event, passed.0, by.2, eqb-true event.file file passed.1)

-- all numbers that are told
abbrev pub all-told : List Event → (file : ℕ) → (up down : List ℕ) → List ℕ
all-told events file up down = own_event_numbers events file ++ numbers_of_all events up ++ numbers_of_all events down

module _ (events : List Event) (file : ℕ) (up down : List ℕ) (above : Lists (IsAncestor events file) up) (below : Lists (IsDescendant events file) down) where
  told-only : (number : ℕ) → Among number (all-told events file up down) → HasTold events file number
  told-only number a =
      let made : (f : ℕ) → Among number (own_event_numbers events f) → ((event : Event) → event.file ≡ f → TellsOf events file event) → HasTold events file number
      = λ f there tells. let by = from-numbers events number f there in record { event = by.0; there = to-contains by.0 events by.1; is = by.2; tells = tells by.0 by.3 } in
      elim (on-either number (own_event_numbers events file ++ numbers_of_all events up) (numbers_of_all events down) a) [
        | inl b ↦ elim (on-either number (own_event_numbers events file) (numbers_of_all events up) b) [
          | inl c ↦ made file c (λ event is. inl is)
          | inr c ↦
              let by = from-flat_map (own_event_numbers events) number up c in
              made by.0 by.2 (λ event is. inr (inl (subst (IsAncestor events file) (sym is) ((above.just by.0).0 (to-contains by.0 up by.1)))))
        ]
        | inr b ↦
            let by = from-flat_map (own_event_numbers events) number down b in
            made by.0 by.2 (λ event is. inr (inr (subst (IsDescendant events file) (sym is) ((below.just by.0).0 (to-contains by.0 down by.1)))))
      ]

  told-has : (number : ℕ) → HasTold events file number → Among number (all-told events file up down)
  told-has number told =
      let event : Event = told.event in
      let there = from-contains event events told.there in
      let here : (f : ℕ) → event.file ≡ f → Among number (own_event_numbers events f) = λ f is. subst (λ (n : ℕ). Among n (own_event_numbers events f)) told.is (in-numbers events event f there is) in
      elim told.tells [
        | inl is ↦ on-left number (own_event_numbers events file ++ numbers_of_all events up) (numbers_of_all events down) (on-left number (own_event_numbers events file) (numbers_of_all events up) (here file is))
        | inr kin ↦ elim kin [
          | inl is ↦
              on-left number (own_event_numbers events file ++ numbers_of_all events up) (numbers_of_all events down)
              (on-right number (own_event_numbers events file) (numbers_of_all events up)
              (in-flat_map (own_event_numbers events) event.file number up (from-contains event.file up ((above.just event.file).1 is)) (here event.file refl)))
          | inr is ↦
              on-right number (own_event_numbers events file ++ numbers_of_all events up) (numbers_of_all events down)
              (in-flat_map (own_event_numbers events) event.file number down (from-contains event.file down ((below.just event.file).1 is)) (here event.file refl))
        ]
      ]

  -- sorted, each once
  pub told-lists : (sorted : List ℕ) → IsPermutation (all-told events file up down) sorted → IsSorted nat_cmp sorted → Lists (HasTold events file) (dedup eqb sorted)
  told-lists sorted moved ascends = record {
    ascend = AllPairs-from_increasing (dedup eqb sorted) (IsStrictlyIncreasing-dedup sorted ascends);
    just = λ number. (
      λ there. told-only number (from-contains number (all-told events file up down)
          (Contains-permutation sorted (all-told events file up down) number (IsPermutation-sym (all-told events file up down) sorted moved) (Contains-from_dedup eqb sorted number there))),
      λ told. Contains-dedup_nat sorted number (Contains-permutation (all-told events file up down) sorted number moved (to-contains number (all-told events file up down) (told-has number told))),
    );
  }

-- ---- what a lineage costs, as far as it came

module _ (events : List Event) (file : ℕ) (up down : List ℕ) where
  abbrev pub bound : ℕ
  bound = 3 * work events (file ∷ up ++ down)

  pub cost-1 : (s0 s1 : ℕ) → s1 ≤ s0 + work events (file ∷ up) → s1 ≤ s0 + bound
  cost-1 s0 s1 one = omega (arith, one, work-cons events file up, work-both events file up down)

  pub cost-2 : (s0 s1 s2 : ℕ) → s1 ≤ s0 + work events (file ∷ up) → s2 ≤ s1 + work events (file ∷ down) → s2 ≤ s0 + bound
  cost-2 s0 s1 s2 one two = omega (arith, one, two, work-cons events file up, work-cons events file down, work-both events file up down)

  pub cost-3 : (s0 s1 s2 s3 : ℕ) → s1 ≤ s0 + work events (file ∷ up) → s2 ≤ s1 + work events (file ∷ down) → s3 ≤ s2 + length (numbers_naming events file) → s3 ≤ s0 + bound
  cost-3 s0 s1 s2 s3 one two three = omega (arith, one, two, three, work-cons events file up, work-cons events file down, work-both events file up down)

  pub cost-4 : (s0 s1 s2 s3 s4 : ℕ) (over : List ℕ) → s1 ≤ s0 + work events (file ∷ up) → s2 ≤ s1 + work events (file ∷ down) → s3 ≤ s2 + length (numbers_naming events file)
      → s4 ≤ s3 + work events over → work events over ≤ work events up → s4 ≤ s0 + bound
  cost-4 s0 s1 s2 s3 s4 over one two three four le = omega (arith, one, two, three, four, le, work-cons events file up, work-cons events file down, work-both events file up down)

  pub cost-5 : (s0 s1 s2 s3 s4 s5 : ℕ) (over under : List ℕ) → s1 ≤ s0 + work events (file ∷ up) → s2 ≤ s1 + work events (file ∷ down) → s3 ≤ s2 + length (numbers_naming events file)
      → s4 ≤ s3 + work events over → work events over ≤ work events up → s5 ≤ s4 + work events under → work events under ≤ work events down → s5 ≤ s0 + bound
  cost-5 s0 s1 s2 s3 s4 s5 over under one two three four le five less =
      omega (arith, one, two, three, four, le, five, less, work-cons events file up, work-cons events file down, work-both events file up down)
