-- Where no file has expired and no session comes, it ends as the machine does.
use Rattle.std.proofs.Common.{◌≡◌, ℕ, zero, suc, ◌+◌, ◌<◌, ◌≤◌, ◌==◌, ◌&&◌, ◌||◌, not, Bool, true, false, cond, List, [], ◌∷◌, ◌++◌, length, map, take, drop, min, refl, sym, ap, subst, ◌∙◌, arith, take-append-drop}
use Rattle.std.specs.Prelude.{All, nat_le, nat_lt, Option, Some, None, filter, find, is_some, option_map, option_and_then, slice_get, slice_index, bytes_eq}
use Rattle.std.specs.List.{cons_option, enumerate_from, filter_map, flat_map, list_all, list_any, reduce}
use Rattle.std.proofs.lemmas.Bool.{and_parts, leb-true, lt-ltb, true≢false}
use Rattle.std.proofs.lemmas.List.Elements.{All-head, All-tail}
use Rattle.machine_model.specs.declared.flow.Connection.{Connection}
use Rattle.machine_model.specs.declared.flow.Flow.{Flow}
use Rattle.machine_model.specs.declared.flow.Processor.{Processor}
use Rattle.machine_model.specs.declared.kind.Kind.{Kind}
use Rattle.machine_model.specs.declared.kind.Kind.TheVariants.{GetFile, GenerateFlowFile}
use Rattle.machine_model.specs.declared.pattern.Pattern.{Pattern}
use Rattle.machine_model.specs.Acting.{passes}
use Rattle.machine_model.specs.Due.{at_place, due_expiry, expired_numbers, some_numbers}
use Rattle.machine_model.specs.Files.{queues_of}
use Rattle.machine_model.specs.Quiet.{gives_a_pick, has_source, holds_back, holds_back_any, is_held_back, is_nothing_due_in, nothing_due, quiet_but_for_swaps, blocked_but_for_swaps, wanting, wants}
use Rattle.machine_model.specs.declared.limits.TheConstants.{PENALTY_MAX, TASKS_MAX}
use Rattle.machine_model.specs.Kinds.{is_among, is_source, relationships_of, take_rule_of}
use Rattle.machine_model.specs.Order.{eligible_files}
use Rattle.machine_model.specs.Sound.{are_distinct_texts, is_id, is_sound_processor, within}
use Rattle.machine_model.specs.State.{State, World}
use Rattle.machine_model.specs.Taking.{picks}
use Rattle.machine_model.specs.Stepping.{may_get}
use Rattle.machine_model.specs.View.{FileView, QueueView, is_penalised}
use Rattle.engine_queues.specs.Picking.{first_pick}
use Rattle.engine_queues.specs.Laws.{BlockedIsSeen, QuietIsSeen, wants_by}
use Rattle.engine_choice.specs.declared.choice.Ending.{Ending}
use Rattle.engine_choice.specs.declared.choice.Ending.TheVariants.{Blocked, Quiet, Rest}
use Rattle.engine_choice.specs.declared.choice.Taking.{Taking}
use Rattle.engine_choice.specs.declared.choice.Taking.TheVariants.{Files, Generate, Receive}
use Rattle.engine_choice.specs.Choice.{Known, may_begin, choice_at, choice_of, coming_of, ending_by, ending_of, first_blocking, first_penalty_end, fits_content, in_turn, is_ready, next_choice, place_behind, takers, taking_by, taking_of}
use Rattle.engine_choice.specs.Laws.{EndsAreMachineEnds, IsEndAt, IsKnownAtRest, IsMachineEnd}
use Rattle.engine_choice.proofs.Found.{Each, any-append, each-weaker, none-found-any}
use Rattle.engine_choice.proofs.Sessions.{stands-among}

-- a processor has a first pick exactly where some connection gives it one
abbrev pub PicksAreGiven : Type 0
PicksAreGiven =
    (flow : Flow) (queues : ℕ → QueueView) (moment place : ℕ) (p : Processor)
    → is_some (first_pick flow queues moment (place, p)) ≡ list_any (gives_a_pick queues moment place p) (enumerate_from 0 flow.connections)

-- ---- tests

and-left : (a b : Bool) → (a && b) ≡ true → a ≡ true
and-left true b is = refl
and-left false b is = is

and-right : (a b : Bool) → (a && b) ≡ true → b ≡ true
and-right true b is = is
and-right false b is = absurd (true≢false (sym is))

none-left : (a b : Bool) → (a || b) ≡ false → a ≡ false
none-left true b is = is
none-left false b is = refl

none-right : (a b : Bool) → (a || b) ≡ false → b ≡ false
none-right true b is = absurd (true≢false is)
none-right false b is = is

-- ---- no processor is ready

found-passes : {X : Type 0} (test : X → Bool) (xs : List X) (x : X) → find test xs ≡ Some x → test x ≡ true
found-passes test [] x is = cc
found-passes {X} test (y ∷ xs) x is = by_test (test y) refl is (λ later. found-passes test xs x later)
  where
    by_test : (b : Bool) → test y ≡ b → cond b (Some y) (find test xs) ≡ Some x → (find test xs ≡ Some x → test x ≡ true) → test x ≡ true
    by_test true holds is rest = let same : y ≡ x = cc in ap test (sym same) ∙ holds
    by_test false fails is rest = rest is

module _ (flow : Flow) (known : Known) where
  abbrev ready : ℕ × Processor → Bool
  ready = is_ready flow known

  abbrev takes : ℕ × Processor → Bool
  takes p = is_some (taking_of flow known p)

  ready-chooses : (p : ℕ × Processor) → is_ready flow known p ≡ true → choice_of flow known p ≡ None → ⊥
  ready-chooses p is none = by_parts (taking_of flow known p) (may_begin flow known p) is none
    where
      by_parts : (t : Option Taking) (begins : Bool) → (is_some t && begins) ≡ true
          → cond begins (option_map (choice_at p.0) t) None ≡ None → ⊥
      by_parts None begins is none = true≢false (sym is)
      by_parts (Some t) false is none = true≢false (sym is)
      by_parts (Some t) true is none = cc

  none-ready-found : (last : Option ℕ) → next_choice flow known last ≡ None → find ready (in_turn last (enumerate_from 0 flow.processors)) ≡ None
  none-ready-found last none = by_found (find ready (in_turn last (enumerate_from 0 flow.processors))) refl none
    where
      by_found : (o : Option (ℕ × Processor)) → find ready (in_turn last (enumerate_from 0 flow.processors)) ≡ o → option_and_then (choice_of flow known) o ≡ None
          → find ready (in_turn last (enumerate_from 0 flow.processors)) ≡ None
      by_found None e none = e
      by_found (Some p) e none = absurd (ready-chooses p (found-passes ready (in_turn last (enumerate_from 0 flow.processors)) p e) none)

  none-ready : (last : Option ℕ) → next_choice flow known last ≡ None → list_any ready (enumerate_from 0 flow.processors) ≡ false
  none-ready last none =
      let all = enumerate_from 0 flow.processors in
      let n = place_behind last in
      let fails : (list_any ready (drop n all) || list_any ready (take n all)) ≡ false = sym (any-append ready (drop n all) (take n all)) ∙ none-found-any ready (in_turn last all) (none-ready-found last none) in
      ap (list_any ready) (sym (take-append-drop n all)) ∙ any-append ready (take n all) (drop n all)
      ∙ ap (λ b. b || list_any ready (drop n all)) (none-right (list_any ready (drop n all)) (list_any ready (take n all)) fails)
      ∙ none-left (list_any ready (drop n all)) (list_any ready (take n all)) fails

  -- each that has something to take is held back, where each has a task that is free
  abbrev is_free : ℕ × Processor → Bool
  is_free p = nat_lt (slice_index known.busy p.0) p.1.tasks

  takers-held : (ps : List (ℕ × Processor)) → Each (λ p. is_free p ≡ true) ps → list_any ready ps ≡ false → list_all (is_held_back flow known.queues) (filter takes ps) ≡ true
  takers-held [] free none = refl
  takers-held (p ∷ ps) free none =
      by_parts (takes p) (is_held_back flow known.queues p) refl
      (ap (λ b. takes p && (b && not (is_held_back flow known.queues p))) (sym free.0) ∙ none-left (ready p) (list_any ready ps) none)
      (takers-held ps free.1 (none-right (ready p) (list_any ready ps) none))
    where
      by_parts : (t held : Bool) → is_held_back flow known.queues p ≡ held → (t && (true && not held)) ≡ false → list_all (is_held_back flow known.queues) (filter takes ps) ≡ true
          → list_all (is_held_back flow known.queues) (cond t (p ∷ filter takes ps) (filter takes ps)) ≡ true
      by_parts false held e isnt rest = rest
      by_parts true true e isnt rest = ap (λ b. b && list_all (is_held_back flow known.queues) (filter takes ps)) e ∙ rest
      by_parts true false e isnt rest = absurd (true≢false isnt)

any-more : {X : Type 0} (test other : X → Bool) → ((x : X) → test x ≡ true → other x ≡ true) → (xs : List X) → list_any test xs ≡ true → list_any other xs ≡ true
any-more test other more [] is = is
any-more test other more (x ∷ xs) is = by_test (test x) (other x) (more x) is (λ later. any-more test other more xs later)
  where
    by_test : (b c : Bool) → (b ≡ true → c ≡ true) → (b || list_any test xs) ≡ true → (list_any test xs ≡ true → list_any other xs ≡ true) → (c || list_any other xs) ≡ true
    by_test b true m is rest = refl
    by_test true false m is rest = absurd (true≢false (sym (m refl)))
    by_test false false m is rest = rest is

-- with a processor that is held back among some, a connection holds one of these back
some-holds : (flow : Flow) (queues : ℕ → QueueView) (p : ℕ × Processor) (ps : List (ℕ × Processor)) → is_held_back flow queues p ≡ true
    → find (holds_back_any queues (p ∷ ps)) (enumerate_from 0 flow.connections) ≡ None → ⊥
some-holds flow queues p ps held none =
    let any = any-more (holds_back queues p.0) (holds_back_any queues (p ∷ ps)) (λ c is. ap (λ b. b || holds_back_any queues ps c) is) (enumerate_from 0 flow.connections) held in
    true≢false (sym any ∙ none-found-any (holds_back_any queues (p ∷ ps)) (enumerate_from 0 flow.connections) none)

none-holds : (queues : ℕ → QueueView) (cs : List (ℕ × Connection)) → find (holds_back_any queues []) cs ≡ None
none-holds queues [] = refl
none-holds queues (c ∷ cs) = none-holds queues cs

-- ---- no session is in flight

none-busy : (busy : List ℕ) (place : ℕ) → All (λ n. n ≡ 0) busy → slice_index busy place ≡ 0
none-busy [] zero idle = refl
none-busy [] (suc place) idle = refl
none-busy (n ∷ busy) zero idle = All-head (λ m. m ≡ 0) n busy idle
none-busy (n ∷ busy) (suc place) idle = none-busy busy place (All-tail (λ m. m ≡ 0) n busy idle)

-- a sound processor may have a session
has-tasks : (p : Processor) → is_sound_processor p ≡ true → 0 < p.tasks
has-tasks p sound =
    let a = and_parts (is_id p.id && within 1 p.tasks TASKS_MAX && nat_le p.penalty PENALTY_MAX && are_distinct_texts p.terminated)
    (list_all (λ name. is_among name (relationships_of p.kind)) p.terminated) sound in
    let b = and_parts (is_id p.id && within 1 p.tasks TASKS_MAX && nat_le p.penalty PENALTY_MAX) (are_distinct_texts p.terminated) a.0 in
    let c = and_parts (is_id p.id && within 1 p.tasks TASKS_MAX) (nat_le p.penalty PENALTY_MAX) b.0 in
    let d = and_parts (is_id p.id) (within 1 p.tasks TASKS_MAX) c.0 in
    let e = and_parts (nat_le 1 p.tasks) (nat_le p.tasks TASKS_MAX) d.1 in
    let one : 1 ≤ p.tasks = leb-true 1 p.tasks e.0 in
    omega (arith, one)

all-free : (flow : Flow) (known : Known) → All (λ n. n ≡ 0) known.busy → (from : ℕ) (ps : List Processor) → list_all is_sound_processor ps ≡ true → Each (λ p. is_free flow known p ≡ true) (enumerate_from from ps)
all-free flow known idle from [] sound = tt
all-free flow known idle from (p ∷ ps) sound =
    let parts = and_parts (is_sound_processor p) (list_all is_sound_processor ps) sound in
    (ap (λ n. nat_lt n p.tasks) (none-busy known.busy from idle) ∙ lt-ltb 0 p.tasks (has-tasks p parts.0), all-free flow known idle (from + 1) ps parts.1)

-- ---- what a processor wants is what it has to take

any-same-among : {X : Type 0} (test other : X → Bool) (xs : List X) → Each (λ x. test x ≡ other x) xs → list_any test xs ≡ list_any other xs
any-same-among test other [] each = refl
any-same-among test other (x ∷ xs) each = ap (λ b. b || list_any test xs) each.0 ∙ ap (λ b. other x || b) (any-same-among test other xs each.1)

some-mapped : {X Y : Type 0} (f : X → Y) (o : Option X) → is_some (option_map f o) ≡ is_some o
some-mapped f None = refl
some-mapped f (Some x) = refl

some-found : {X : Type 0} (test : X → Bool) (xs : List X) → is_some (find test xs) ≡ list_any test xs
some-found test [] = refl
some-found test (x ∷ xs) = elim (test x) as (λ b. is_some (cond b (Some x) (find test xs)) ≡ (b || list_any test xs)) [ true ↦ refl | false ↦ some-found test xs ]

any-filtered : {X : Type 0} (test kept : X → Bool) (xs : List X) → list_any test (filter kept xs) ≡ list_any (λ x. test x && kept x) xs
any-filtered test kept [] = refl
any-filtered test kept (x ∷ xs) = by_kept (kept x) (any-filtered test kept xs)
  where
    and_true : (b : Bool) → b ≡ (b && true)
    and_true true = refl
    and_true false = refl

    and_false : (b : Bool) → false ≡ (b && false)
    and_false true = refl
    and_false false = refl

    by_kept : (k : Bool) → list_any test (filter kept xs) ≡ list_any (λ x. test x && kept x) xs
        → list_any test (cond k (x ∷ filter kept xs) (filter kept xs)) ≡ ((test x && k) || list_any (λ x. test x && kept x) xs)
    by_kept true rest = ap (λ b. test x || b) rest ∙ ap (λ b. b || list_any (λ x. test x && kept x) xs) (and_true (test x))
    by_kept false rest = rest ∙ ap (λ b. b || list_any (λ x. test x && kept x) xs) (and_false (test x))

-- a source picks from no connection
abbrev IsNoneOfSource : Kind → Bool → Type 0
IsNoneOfSource kind any = is_source kind ≡ true → any ≡ false

or-none : (b any : Bool) → (true ≡ true → any ≡ false) → b ≡ (b || any)
or-none true any none = refl
or-none false any none = sym (none refl)

some-if : {X : Type 0} (b : Bool) (x : X) → is_some (cond b (Some x) None) ≡ b
some-if true x = refl
some-if false x = refl

three-same : (there passes fits : Bool) → there ≡ true → (passes && fits) ≡ (there && passes && fits)
three-same true passes fits is = refl
three-same false passes fits is = absurd (true≢false (sym is))

module _ (flow : Flow) (state : State) (world : World) (known : Known) (knows : IsKnownAtRest flow state world known) where
  got-same : (filter : Option Pattern) → is_some (find (passes filter) (coming_of world)) ≡ list_any (may_get filter world) world.left
  got-same filter =
      some-found (passes filter) (coming_of world) ∙ any-filtered (passes filter) (fits_content world) world.left
      ∙ any-same-among (λ name. passes filter name && fits_content world name) (may_get filter world) world.left
      (each-weaker (λ name. is_some (find (bytes_eq name) world.left) ≡ true) (λ name. (passes filter name && fits_content world name) ≡ may_get filter world name)
      (λ name there. three-same (is_some (find (bytes_eq name) world.left)) (passes filter name) (fits_content world name) there) world.left (stands-among world.left))

  -- fails rule of a source picks
  kind-wants : (kind : Kind) (place : ℕ) (pick : Option (ℕ × List ℕ)) (any : Bool) → is_some pick ≡ any → IsNoneOfSource kind any
      → is_some (taking_by kind (coming_of world) (slice_index state.counts place) 0 pick) ≡ (has_source kind place state world || any)
  kind-wants (GetFile filter) place pick any same none =
      some-mapped (λ name. Receive name) (find (passes filter) (coming_of world)) ∙ got-same filter ∙ or-none (list_any (may_get filter world) world.left) any none
  kind-wants (GenerateFlowFile count text) place pick any same none =
      some-if (nat_lt (slice_index state.counts place + 0) count) (Generate (slice_index state.counts place + 1))
      ∙ (let none_busy : slice_index state.counts place + 0 ≡ slice_index state.counts place = omega arith in ap (λ n. nat_lt n count) none_busy) ∙ or-none (nat_lt (slice_index state.counts place) count) any none
  kind-wants kind place pick any same none = some-mapped (λ files. Files files.0 files.1) pick ∙ same

  source-picks-none : (kind : Kind) (files : List FileView) → is_source kind ≡ true → is_some (picks (take_rule_of kind) files) ≡ false
  source-picks-none (GetFile filter) files is = refl
  source-picks-none (GenerateFlowFile count text) files is = refl
  source-picks-none kind files is = absurd (true≢false (sym is))

  none-gives : (place : ℕ) (processor : Processor) → is_source processor.kind ≡ true → (cs : List (ℕ × Connection)) → list_any (gives_a_pick known.queues known.moment place processor) cs ≡ false
  none-gives place processor is [] = refl
  none-gives place processor is (c ∷ cs) =
      let fails = source-picks-none processor.kind (eligible_files c.1.order c.1.limits known.moment (known.queues c.0).active) is in
      ap (λ b. ((c.1.target == place) && b) || list_any (gives_a_pick known.queues known.moment place processor) cs) fails ∙ by_target (c.1.target == place) (none-gives place processor is cs)
    where
      by_target : (b : Bool) → list_any (gives_a_pick known.queues known.moment place processor) cs ≡ false → ((b && false) || list_any (gives_a_pick known.queues known.moment place processor) cs) ≡ false
      by_target true rest = rest
      by_target false rest = rest

  pub wants-takes : PicksAreGiven → (p : ℕ × Processor) → takes flow known p ≡ wants_by flow known.queues state world known.moment p
  wants-takes given p =
      (λ i. is_some (taking_by p.1.kind (knows.coming i) (slice_index (knows.counts i) p.0) (none-busy known.busy p.0 knows.idle i) (first_pick flow known.queues known.moment p)))
      ∙ kind-wants p.1.kind p.0 (first_pick flow known.queues known.moment p) (list_any (gives_a_pick known.queues known.moment p.0 p.1) (enumerate_from 0 flow.connections))
      (given flow known.queues known.moment p.0 p.1) (λ is. none-gives p.0 p.1 is (enumerate_from 0 flow.connections))

-- ---- nothing waits for its penalty's end

none-waits : (moment : ℕ) (files more : List FileView) → list_all (λ file. not (is_penalised moment file)) files ≡ true
    → filter (nat_lt moment) (map (λ file. file.penalty_end) (files ++ more)) ≡ filter (nat_lt moment) (map (λ file. file.penalty_end) more)
none-waits moment [] more is = refl
none-waits moment (file ∷ files) more is = by_test (nat_lt moment file.penalty_end) is (λ later. none-waits moment files more later)
  where
    by_test : (b : Bool) → (not b && list_all (λ file. not (is_penalised moment file)) files) ≡ true
        → (list_all (λ file. not (is_penalised moment file)) files ≡ true → filter (nat_lt moment) (map (λ file. file.penalty_end) (files ++ more)) ≡ filter (nat_lt moment) (map (λ file. file.penalty_end) more))
        → cond b (file.penalty_end ∷ filter (nat_lt moment) (map (λ file. file.penalty_end) (files ++ more))) (filter (nat_lt moment) (map (λ file. file.penalty_end) (files ++ more)))
        ≡ filter (nat_lt moment) (map (λ file. file.penalty_end) more)
    by_test true is rest = absurd (true≢false (sym is))
    by_test false is rest = rest is

no-ends : (queues : ℕ → QueueView) (moment : ℕ) (cs : List (ℕ × Connection)) → list_all (is_nothing_due_in queues moment) cs ≡ true
    → filter (nat_lt moment) (map (λ file. file.penalty_end) (flat_map (λ c. (queues c.0).active) cs)) ≡ []
no-ends queues moment [] is = refl
no-ends queues moment (c ∷ cs) is =
    let queue = queues c.0 in
    let here = and-left (is_nothing_due_in queues moment c) (list_all (is_nothing_due_in queues moment) cs) is in
    let rest = and-right (is_nothing_due_in queues moment c) (list_all (is_nothing_due_in queues moment) cs) is in
    let waits = and-right (length (expired_numbers c.1.limits moment queue.active) == 0) (list_all (λ file. not (is_penalised moment file)) queue.active) here in
    none-waits moment queue.active (flat_map (λ c. (queues c.0).active) cs) waits ∙ no-ends queues moment cs rest

no-penalty : (flow : Flow) (queues : ℕ → QueueView) (moment : ℕ) → nothing_due flow queues moment ≡ true → first_penalty_end flow queues moment ≡ None
no-penalty flow queues moment is = ap (reduce min) (no-ends queues moment (enumerate_from 0 flow.connections) is)

-- ---- nothing is due where no file has expired and none waits for its penalty's end

abbrev expires : ℕ → Connection → QueueView → Option (List ℕ)
expires moment connection queue = some_numbers (expired_numbers connection.limits moment queue.active)

none-numbered : (place : ℕ) (numbers : List ℕ) → option_map {U = ℕ × List ℕ} (λ ns. (place, ns)) (some_numbers numbers) ≡ None → (length numbers == 0) ≡ true
none-numbered place numbers none = by_test (length numbers == 0) none
  where
    by_test : (b : Bool) → option_map {U = ℕ × List ℕ} (λ ns. (place, ns)) (cond b None (Some numbers)) ≡ None → b ≡ true
    by_test true none = refl
    by_test false none = cc

first-owes-none : {X Y : Type 0} (owes : X → Option Y) (x : X) (xs : List X) → slice_get (filter_map owes (x ∷ xs)) 0 ≡ None → (owes x ≡ None) × (slice_get (filter_map owes xs) 0 ≡ None)
first-owes-none {X} {Y} owes x xs none = by_owed (owes x) (filter_map owes xs) none
  where
    by_owed : (owed : Option Y) (rest : List Y) → slice_get (cons_option owed rest) 0 ≡ None → (owed ≡ None) × (slice_get rest 0 ≡ None)
    by_owed None rest none = (refl, none)
    by_owed (Some y) rest none = cc

abbrev ends_past : ℕ → List FileView → List ℕ
ends_past moment files = filter (nat_lt moment) (map (λ file. file.penalty_end) files)

abbrev NoneWait : ℕ → List FileView → Type 0
NoneWait moment files = list_all (λ file. not (is_penalised moment file)) files ≡ true

no-ends-first : (moment : ℕ) (files more : List FileView) → ends_past moment (files ++ more) ≡ [] → NoneWait moment files × (ends_past moment more ≡ [])
no-ends-first moment [] more none = (refl, none)
no-ends-first moment (file ∷ files) more none = by_test (nat_lt moment file.penalty_end) none (λ later. no-ends-first moment files more later)
  where
    by_test : (b : Bool) → cond b (file.penalty_end ∷ ends_past moment (files ++ more)) (ends_past moment (files ++ more)) ≡ []
        → (ends_past moment (files ++ more) ≡ [] → NoneWait moment files × (ends_past moment more ≡ []))
        → ((not b && list_all (λ file. not (is_penalised moment file)) files) ≡ true) × (ends_past moment more ≡ [])
    by_test true none rest = cc
    by_test false none rest = rest none

none-due-in : (queues : ℕ → QueueView) (moment : ℕ) (cs : List (ℕ × Connection)) → slice_get (filter_map (at_place (expires moment) queues) cs) 0 ≡ None
    → ends_past moment (flat_map (λ c. (queues c.0).active) cs) ≡ [] → list_all (is_nothing_due_in queues moment) cs ≡ true
none-due-in queues moment [] fresh free = refl
none-due-in queues moment (c ∷ cs) fresh free =
    let queue = queues c.0 in
    let none = first-owes-none (at_place (expires moment) queues) c cs fresh in
    let waits = no-ends-first moment queue.active (flat_map (λ d. (queues d.0).active) cs) free in
    ap (λ b. b && list_all (λ file. not (is_penalised moment file)) queue.active && list_all (is_nothing_due_in queues moment) cs) (none-numbered c.0 (expired_numbers c.1.limits moment queue.active) none.0)
    ∙ ap (λ b. b && list_all (is_nothing_due_in queues moment) cs) waits.0
    ∙ none-due-in queues moment cs none.1 waits.1

reduces-none : (ns : List ℕ) → reduce min ns ≡ None → ns ≡ []
reduces-none [] none = refl
reduces-none (n ∷ ns) none = cc

none-due : (flow : Flow) (queues : ℕ → QueueView) (moment : ℕ) → due_expiry flow queues moment ≡ None → first_penalty_end flow queues moment ≡ None → nothing_due flow queues moment ≡ true
none-due flow queues moment fresh free = none-due-in queues moment (enumerate_from 0 flow.connections) fresh (reduces-none _ free)

none-filtered : {X : Type 0} (test : X → Bool) (xs : List X) → filter test xs ≡ [] → list_any test xs ≡ false
none-filtered test [] is = refl
none-filtered test (x ∷ xs) is = by_test (test x) is (λ later. none-filtered test xs later)
  where
    by_test : (b : Bool) → cond b (x ∷ filter test xs) (filter test xs) ≡ [] → (filter test xs ≡ [] → list_any test xs ≡ false) → (b || list_any test xs) ≡ false
    by_test true is rest = cc
    by_test false is rest = rest is

-- ---- the end

module _ (given : PicksAreGiven) (quiet_law : QuietIsSeen) (blocked_law : BlockedIsSeen) (flow : Flow) (state : State) (world : World) (known : Known)
    (knows : IsKnownAtRest flow state world known) (due : nothing_due flow known.queues known.moment ≡ true)
    (held : list_all (is_held_back flow known.queues) (takers flow known) ≡ true) where
  wanting-is : filter (wants_by flow known.queues state world known.moment) (enumerate_from 0 flow.processors) ≡ takers flow known
  wanting-is = λ i. filter (λ p. sym (wants-takes flow state world known knows given p) i) (enumerate_from 0 flow.processors)

  blocked-at : (p : ℕ × Processor) (ps : List (ℕ × Processor)) (c : ℕ × Connection) → takers flow known ≡ p ∷ ps
      → find (holds_back_any known.queues (p ∷ ps)) (enumerate_from 0 flow.connections) ≡ Some c → blocked_but_for_swaps flow state world known.moment ≡ Some c.0
  blocked-at p ps c are is =
      let wanting = wanting-is ∙ are in
      let held_all : list_all (is_held_back flow known.queues) (p ∷ ps) ≡ true = ap (list_all (is_held_back flow known.queues)) (sym are) ∙ held in
      let nonempty : nat_lt 0 (length (p ∷ ps)) ≡ true = lt-ltb 0 (length (p ∷ ps)) (omega arith) in
      let answer = option_map (λ c. c.0) (find (holds_back_any known.queues (p ∷ ps)) (enumerate_from 0 flow.connections)) in
      blocked_law flow known.queues state world known.moment knows.seen
      ∙ (λ i. let processors = wanting i in
      cond (due i && nat_lt 0 (length processors) && list_all (is_held_back flow known.queues) processors)
      (option_map (λ c. c.0) (find (holds_back_any known.queues processors) (enumerate_from 0 flow.connections))) None)
      ∙ (λ i. cond (true && nonempty i && held_all i) answer None)
      ∙ ap (option_map (λ c. c.0)) is

  quiet-at : takers flow known ≡ [] → quiet_but_for_swaps flow state world known.moment ≡ true
  quiet-at none =
      quiet_law flow known.queues state world known.moment knows.seen
      ∙ ap (λ b. b && not (list_any (wants_by flow known.queues state world known.moment) (enumerate_from 0 flow.processors))) due
      ∙ ap not (none-filtered (wants_by flow known.queues state world known.moment) (enumerate_from 0 flow.processors) (wanting-is ∙ none))

  pub end-at : IsEndAt flow state world known.moment (ending_of flow known)
  end-at =
      let Is : Ending → Type 0 = IsEndAt flow state world known.moment in
      subst Is (ap (λ rest. ending_by rest (first_blocking flow known)) (sym (no-penalty flow known.queues known.moment due)))
      (by_takers (takers flow known) refl)
    where
      by_takers : (ps : List (ℕ × Processor)) → takers flow known ≡ ps
          → IsEndAt flow state world known.moment (ending_by None (first_blocking flow known))
      by_takers [] are =
          let nothing : first_blocking flow known ≡ None =
          ap (λ l. option_map (λ c. c.0) (find (holds_back_any known.queues l) (enumerate_from 0 flow.connections))) are
          ∙ ap (option_map (λ c. c.0)) (none-holds known.queues (enumerate_from 0 flow.connections)) in
          let Is : Ending → Type 0 = IsEndAt flow state world known.moment in
          subst Is (ap (ending_by None) (sym nothing)) (quiet-at are)
      by_takers (p ∷ ps) are = by_found (find (holds_back_any known.queues (p ∷ ps)) (enumerate_from 0 flow.connections)) refl
        where
          by_found : (o : Option (ℕ × Connection)) → find (holds_back_any known.queues (p ∷ ps)) (enumerate_from 0 flow.connections) ≡ o
              → IsEndAt flow state world known.moment (ending_by None (first_blocking flow known))
          by_found None e =
              absurd (some-holds flow known.queues p ps (and-left (is_held_back flow known.queues p) (list_all (is_held_back flow known.queues) ps) (ap (list_all (is_held_back flow known.queues)) (sym are) ∙ held)) e)
          by_found (Some c) e =
              let it : first_blocking flow known ≡ Some c.0 =
              ap (λ l. option_map (λ c. c.0) (find (holds_back_any known.queues l) (enumerate_from 0 flow.connections))) are ∙ ap (option_map (λ c. c.0)) e in
              let Is : Ending → Type 0 = IsEndAt flow state world known.moment in
              subst Is (ap (ending_by None) (sym it)) (blocked-at p ps c are e)

-- ---- it is quiet and blocked exactly where the machine is

not-true : (b : Bool) → not b ≡ true → b ≡ false
not-true true is = absurd (true≢false (sym is))
not-true false is = refl

keeps-none : {X : Type 0} (test : X → Bool) (xs : List X) → list_any test xs ≡ false → filter test xs ≡ []
keeps-none test [] none = refl
keeps-none test (x ∷ xs) none = by_test (test x) none (λ later. keeps-none test xs later)
  where
    by_test : (b : Bool) → (b || list_any test xs) ≡ false → (list_any test xs ≡ false → filter test xs ≡ []) → cond b (x ∷ filter test xs) (filter test xs) ≡ []
    by_test true none rest = absurd (true≢false none)
    by_test false none rest = rest none

blocked-if : (due some held : Bool) (connection : ℕ) (found : Option ℕ) → cond (due && some && held) found None ≡ Some connection → (due ≡ true) × (some ≡ true)
blocked-if true true held connection found is = (refl, refl)
blocked-if true false held connection found is = cc
blocked-if false some held connection found is = cc

module _ (flow : Flow) (state : State) (world : World) (moment : ℕ) where
  none-wants : quiet_but_for_swaps flow state world moment ≡ true → wanting flow state world moment ≡ []
  none-wants is =
      let all = enumerate_from 0 flow.processors in
      let test = wants flow state world moment in
      keeps-none test all (not-true (list_any test all) (and-right (nothing_due flow (queues_of state) moment) (not (list_any test all)) is))

  some-wants : (connection : ℕ) → blocked_but_for_swaps flow state world moment ≡ Some connection → nat_lt 0 (length (wanting flow state world moment)) ≡ true
  some-wants connection is = (blocked-if _ (nat_lt 0 (length (wanting flow state world moment))) _ connection _ is).1

  not-both : (connection : ℕ) → quiet_but_for_swaps flow state world moment ≡ true → blocked_but_for_swaps flow state world moment ≡ Some connection → ⊥
  not-both connection quiets blocks =
      true≢false (sym (some-wants connection blocks) ∙ ap (λ (ps : List (ℕ × Processor)). nat_lt 0 (length ps)) (none-wants quiets))

  exactly : (ending : Ending) → IsEndAt flow state world moment ending → IsMachineEnd flow state world moment ending
  exactly (Rest until) is = absurd is
  exactly (Blocked connection) is = record {
    is_quiet = (λ same. absurd cc, λ quiets. absurd (not-both connection quiets is));
    is_blocked = λ other. (λ same. is ∙ (let it : connection ≡ other = cc in ap (λ n. Some n) it), λ blocks. let it : connection ≡ other = cc in ap (λ n. Blocked n) it);
  }
  exactly Quiet is = record {
    is_quiet = (λ same. is, λ quiets. refl);
    is_blocked = λ other. (λ same. absurd cc, λ blocks. absurd (not-both other is blocks));
  }

  rests : (until : ℕ) → (nothing_due flow (queues_of state) moment ≡ true → ⊥) → IsMachineEnd flow state world moment (Rest until)
  rests until waits = record {
    is_quiet = (λ same. absurd cc, λ quiets. absurd (waits (and-left (nothing_due flow (queues_of state) moment) _ quiets)));
    is_blocked = λ connection. (λ same. absurd cc, λ blocks. absurd (waits (blocked-if (nothing_due flow (queues_of state) moment) _ _ connection _ blocks).0));
  }

pub ends-are-machine-ends : PicksAreGiven → QuietIsSeen → BlockedIsSeen → EndsAreMachineEnds
ends-are-machine-ends given quiet_law blocked_law flow state world known last sound knows fresh none = by_rest (first_penalty_end flow known.queues known.moment) refl
  where
    by_rest : (rest : Option ℕ) → first_penalty_end flow known.queues known.moment ≡ rest → IsMachineEnd flow state world known.moment (ending_of flow known)
    by_rest (Some until) is =
        let Is : Ending → Type 0 = IsMachineEnd flow state world known.moment in
        let waits : nothing_due flow (queues_of state) known.moment ≡ true → ⊥ = λ due. let free = sym is ∙ no-penalty flow known.queues known.moment (knows.seen.due known.moment ∙ due) in absurd cc in
        subst Is (ap (λ rest. ending_by rest (first_blocking flow known)) (sym is)) (rests flow state world known.moment until waits)
    by_rest None is =
        exactly flow state world known.moment (ending_of flow known)
        (end-at given quiet_law blocked_law flow state world known knows (none-due flow known.queues known.moment fresh is)
        (takers-held flow known (enumerate_from 0 flow.processors) (all-free flow known knows.idle 0 flow.processors sound.processors) (none-ready flow known last none)))
