-- The events of a file, asked for one after the other.
use Rattle.std.proofs.Common.{◌≡◌, ℕ, zero, suc, ◌+◌, ◌<◌, ◌≤◌, ◌==◌, ◌||◌, Bool, true, false, cond, List, [], ◌∷◌, ◌++◌, length, get_or, take, Some, None, inl, inr, refl, sym, ap, subst, ◌∙◌, append_assoc, arith}
use Rattle.std.specs.Prelude.{map, filter}
use Rattle.std.specs.List.{flat_map, list_any, slice_get}
use Rattle.std.proofs.lemmas.Bool.{eq-eqb, ne_eqb}
use Rattle.std.proofs.lemmas.Option.{get_or_from_slice_get}
use Rattle.std.proofs.lemmas.List.{take_more, take_all, get_or-map, flat_map_more, get_or_default, length-map, map-append, append-nil}
use Rattle.std.proofs.lemmas.List.Elements.{filter-append}
use Rattle.flowfile_record.specs.NumberedItems.{AscendsByNumber}
use Rattle.flowfile_record.specs.declared.event.Event.{Event}
use Rattle.flowfile_record.specs.declared.event.EventKind.{EventKind}
use Rattle.flowfile_record.specs.declared.event.EventKind.TheVariants.{Create, Receive, Fork, Join, Clone, ContentModified, AttributesModified, Route, Send, Drop, Expire, Replay}
use Rattle.prov_index.specs.Index.{event_number, names_file, numbers_naming, event_of}
use Rattle.prov_index.proofs.Numbered.{item_of-at}
use Rattle.lineage_query.specs.declared.kin.Way.{Way}
use Rattle.lineage_query.specs.declared.kin.Way.TheVariants.{Up, Down}
use Rattle.lineage_query.specs.Walk.{far_of, kin_towards, kin_in, with_all}
use Rattle.lineage_query.specs.Told.{own_event_numbers}
use Rattle.lineage_query.proofs.Joining.{all-append}
use Rattle.lineage_query.proofs.Members.{Among, at-place, to-contains, from-filter}

abbrev pub naming : List Event → ℕ → List Event
naming events file = filter (names_file file) events

some-at : {A : Type 0} (xs : List A) (i : ℕ) → i < length xs → (x : A) × (slice_get xs i ≡ Some x)
some-at [] i lt = absurd (omega arith)
some-at (x ∷ xs) zero lt = (x, refl)
some-at (x ∷ xs) (suc i) lt = some-at xs i (omega arith)

-- each number of a file's list is that of an event
pub asked : (events : List Event) (file i : ℕ) → AscendsByNumber event_number events → i < length (numbers_naming events file)
    → (event : Event) × (slice_get (naming events file) i ≡ Some event) × (event_of events (get_or (numbers_naming events file) i 0) ≡ Some event)
asked events file i up lt =
    let within : i < length (naming events file) = omega (arith, lt, length-map (naming events file) event_number) in
    let some = some-at (naming events file) i within in
    let event : Event = some.0 in
    let here : get_or (naming events file) i event ≡ event = get_or_from_slice_get (naming events file) i event event some.1 in
    let number : get_or (numbers_naming events file) i 0 ≡ event.number = get_or-map event_number (naming events file) i event 0 within ∙ ap event_number here in
    let there = to-contains event events (from-filter (names_file file) event events (at-place event (naming events file) i within here)).0 in
    let at : (d : Event) → get_or events there.0 d ≡ event = λ d. get_or_default events there.0 d event there.1 ∙ there.2 in
    let is = item_of-at event_number events there.0 event.number event up there.1 (λ d. ap event_number (at d)) in
    (event, some.1, ap (event_of events) number ∙ is ∙ ap Some (at event))

-- so there is an event at each place of the list
pub never : (events : List Event) (numbers : List ℕ) (file i : ℕ) → numbers ≡ numbers_naming events file → AscendsByNumber event_number events → i < length numbers → None ≡ event_of events (get_or numbers i 0) → ⊥
never events numbers file i are up lt none =
    let some = asked events file i up (subst (λ (l : List ℕ). i < length l) are lt) in
    let is : None ≡ Some some.0 = none ∙ ap (λ (l : List ℕ). event_of events (get_or l i 0)) are ∙ some.2 in
    cc

pub the-event : (events : List Event) (numbers : List ℕ) (file i : ℕ) (event : Event) → numbers ≡ numbers_naming events file → AscendsByNumber event_number events → i < length numbers → Some event ≡ event_of events (get_or numbers i 0)
    → (slice_get (naming events file) i ≡ Some event) × (get_or numbers i 0 ≡ event.number) × (i < length (numbers_naming events file))
the-event events numbers file i event are up lt found =
    let within : i < length (numbers_naming events file) = subst (λ (l : List ℕ). i < length l) are lt in
    let some = asked events file i up within in
    let is : Some event ≡ Some some.0 = found ∙ ap (λ (l : List ℕ). event_of events (get_or l i 0)) are ∙ some.2 in
    let same : some.0 ≡ event = cc in
    let here : slice_get (naming events file) i ≡ Some event = some.1 ∙ ap Some same in
    let number = get_or-map event_number (naming events file) i event 0 (omega (arith, within, length-map (naming events file) event_number)) ∙ ap event_number (get_or_from_slice_get (naming events file) i event event here) in
    (here, ap (λ (l : List ℕ). get_or l i 0) are ∙ number, within)

one-more : {A : Type 0} (xs : List A) (i : ℕ) (x : A) → i < length xs → slice_get xs i ≡ Some x → take (i + 1) xs ≡ take i xs ++ x ∷ []
one-more xs i x lt is = take_more xs i x lt ∙ ap (λ y. take i xs ++ y ∷ []) (get_or_from_slice_get xs i x x is)

-- ---- kin

far-none : (kind : EventKind) (file : ℕ) (near others : List ℕ) → list_any (λ n. n == file) near ≡ false → far_of kind file near others ≡ []
far-none Fork file near others none = ap (λ b. cond b others []) none
far-none Join file near others none = ap (λ b. cond b others []) none
far-none Clone file near others none = ap (λ b. cond b others []) none
far-none Create file near others none = refl
far-none Receive file near others none = refl
far-none ContentModified file near others none = refl
far-none AttributesModified file near others none = refl
far-none Route file near others none = refl
far-none Send file near others none = refl
far-none Drop file near others none = refl
far-none Expire file near others none = refl
far-none Replay file near others none = refl

neither : (a b c : Bool) → (a || b || c) ≡ false → (b ≡ false) × (c ≡ false)
neither false false c is = (refl, is)
neither false true c is = absurd cc
neither true b c is = absurd cc

no-kin : (way : Way) (file : ℕ) (event : Event) → names_file file event ≡ false → kin_towards way file event ≡ []
no-kin Up file event none = far-none event.kind file event.children event.parents (neither (event.file == file) _ _ none).1
no-kin Down file event none = far-none event.kind file event.parents event.children (neither (event.file == file) _ _ none).0

flat-filter : {A B : Type 0} (f : A → List B) (p : A → Bool) (xs : List A) → ((x : A) → p x ≡ false → f x ≡ []) → flat_map f (filter p xs) ≡ flat_map f xs
flat-filter f p [] none = refl
flat-filter f p (x ∷ xs) none =
    elim (p x) as (λ b. p x ≡ b → flat_map f (cond b (x ∷ filter p xs) (filter p xs)) ≡ f x ++ flat_map f xs) [
      | true ↦ λ _. ap (λ l. f x ++ l) (flat-filter f p xs none)
      | false ↦ λ is. flat-filter f p xs none ∙ ap (λ l. l ++ flat_map f xs) (sym (none x is))
    ] refl

-- the kin by the events that name a file are all
pub all-kin : (way : Way) (events : List Event) (file : ℕ) → flat_map (kin_towards way file) (naming events file) ≡ kin_in way events file
all-kin way events file = flat-filter (kin_towards way file) (names_file file) events (no-kin way file)

-- what was found by some events, and by one more
abbrev pub found-by : Way → List Event → (file i : ℕ) → List ℕ → List ℕ
found-by way events file i found = with_all found (flat_map (kin_towards way file) (take i (naming events file)))

pub found-more : (way : Way) (events : List Event) (file i : ℕ) (found : List ℕ) (event : Event) → i < length (numbers_naming events file) → slice_get (naming events file) i ≡ Some event
    → with_all (found-by way events file i found) (kin_towards way file event) ≡ found-by way events file (i + 1) found
found-more way events file i found event lt is =
    let named = naming events file in
    sym (all-append found (flat_map (kin_towards way file) (take i named)) (kin_towards way file event))
    ∙ ap (with_all found) (flat_map_more (kin_towards way file) [] (take i named) event ∙ ap (flat_map (kin_towards way file)) (sym (one-more named i event (omega (arith, lt, length-map named event_number)) is)))

pub found-all : (way : Way) (events : List Event) (file i : ℕ) (found : List ℕ) → length (numbers_naming events file) ≤ i → found-by way events file i found ≡ with_all found (kin_in way events file)
found-all way events file i found le =
    let named = naming events file in
    ap (λ l. with_all found (flat_map (kin_towards way file) l)) (take_all i named (omega (arith, le, length-map named event_number))) ∙ ap (with_all found) (all-kin way events file)

-- ---- a file's own events

abbrev own : ℕ → Event → Bool
own file event = event.file == file

filter-both : {A : Type 0} (p q : A → Bool) (xs : List A) → ((x : A) → q x ≡ false → p x ≡ false) → filter p (filter q xs) ≡ filter p xs
filter-both p q [] less = refl
filter-both p q (x ∷ xs) less =
    elim (q x) as (λ b. q x ≡ b → filter p (cond b (x ∷ filter q xs) (filter q xs)) ≡ cond (p x) (x ∷ filter p xs) (filter p xs)) [
      | true ↦ λ _. ap (λ l. cond (p x) (x ∷ l) l) (filter-both p q xs less)
      | false ↦ λ is. filter-both p q xs less ∙ ap (λ b. cond b (x ∷ filter p xs) (filter p xs)) (sym (less x is))
    ] refl

not-own : (file : ℕ) (event : Event) → names_file file event ≡ false → own file event ≡ false
not-own file event none =
    elim (event.file == file) as (λ b. (b || list_any (λ n. n == file) event.parents || list_any (λ n. n == file) event.children) ≡ false → b ≡ false) [
      | true ↦ λ is. is
      | false ↦ λ _. refl
    ] none

one-mapped : (named : Bool) (event : Event) → map event_number (cond named (event ∷ []) []) ≡ cond named (event.number ∷ []) []
one-mapped true event = refl
one-mapped false event = refl

-- the numbers of a file's own events among the first that name it
abbrev pub told-by : List Event → (file i : ℕ) → List ℕ
told-by events file i = map event_number (filter (own file) (take i (naming events file)))

pub told-more : (events : List Event) (file i : ℕ) (event : Event) → i < length (numbers_naming events file) → slice_get (naming events file) i ≡ Some event
    → told-by events file (i + 1) ≡ told-by events file i ++ cond (event.file == file) (event.number ∷ []) []
told-more events file i event lt is =
    let named = naming events file in
    ap (λ l. map event_number (filter (own file) l)) (one-more named i event (omega (arith, lt, length-map named event_number)) is)
    ∙ ap (map event_number) (filter-append (own file) (take i named) (event ∷ [])) ∙ map-append event_number (filter (own file) (take i named)) (filter (own file) (event ∷ []))
    ∙ ap (λ l. told-by events file i ++ l) (one-mapped (event.file == file) event)

pub told-all : (events : List Event) (file i : ℕ) → length (numbers_naming events file) ≤ i → told-by events file i ≡ own_event_numbers events file
told-all events file i le =
    let named = naming events file in
    ap (λ l. map event_number (filter (own file) l)) (take_all i named (omega (arith, le, length-map named event_number))) ∙ ap (map event_number) (filter-both (own file) (names_file file) events (not-own file))

-- .. behind what was told before
pub told-here : (events : List Event) (file i number : ℕ) (event : Event) (before items now : List ℕ) → i < length (numbers_naming events file) → slice_get (naming events file) i ≡ Some event → number ≡ event.number → event.file ≡ file
    → items ≡ before ++ told-by events file i → now ≡ items ++ number ∷ [] → now ≡ before ++ told-by events file (i + 1)
told-here events file i number event before items now lt is number_is own_is was pushed =
    let one : number ∷ [] ≡ cond (event.file == file) (event.number ∷ []) [] = ap (λ n. n ∷ []) number_is ∙ sym (ap (λ b. cond b (event.number ∷ []) []) (eq-eqb event.file file own_is)) in
    pushed ∙ ap (λ l. l ++ number ∷ []) was ∙ append_assoc before (told-by events file i) (number ∷ []) ∙ ap (λ l. before ++ (told-by events file i ++ l)) one ∙ ap (λ l. before ++ l) (sym (told-more events file i event lt is))

pub told-past : (events : List Event) (file i : ℕ) (event : Event) (before items : List ℕ) → i < length (numbers_naming events file) → slice_get (naming events file) i ≡ Some event → (event.file ≡ file → ⊥)
    → items ≡ before ++ told-by events file i → items ≡ before ++ told-by events file (i + 1)
told-past events file i event before items lt is other was =
    let none : cond (event.file == file) (event.number ∷ []) [] ≡ [] = ap (λ b. cond b (event.number ∷ []) []) (ne_eqb event.file file other) in
    was ∙ ap (λ l. before ++ l) (sym (told-more events file i event lt is ∙ ap (λ l. told-by events file i ++ l) none ∙ append-nil (told-by events file i)))
