-- The session that comes next is one of the machine.
use Rattle.std.proofs.Common.{◌≡◌, ℕ, ◌+◌, ◌==◌, ◌&&◌, ◌<◌, Bool, true, false, cond, List, [], ◌∷◌, take, drop, refl, sym, ap, subst, ◌∙◌, arith}
use Rattle.std.specs.Prelude.{All, Contains, nat_lt, nat_le, Option, Some, None, IfSome, find, is_some, option_map, option_and_then, slice_get, slice_index, bytes_eq}
use Rattle.std.specs.List.{enumerate_from}
use Rattle.std.proofs.lemmas.Bool.{ltb-true, le-leb, eqb-true, eq-eqb}
use Rattle.std.proofs.lemmas.List.Elements.{All-nil}
use Rattle.std.proofs.lemmas.Slice.Eq.{bytes_eq-Decides}
use Rattle.machine_model.proofs.Among.{among_contained}
use Rattle.flowfile_record.specs.NamedFile.{bytes_of}
use Rattle.machine_model.specs.declared.flow.Connection.{Connection}
use Rattle.machine_model.specs.declared.flow.Flow.{Flow}
use Rattle.machine_model.specs.declared.flow.Processor.{Processor}
use Rattle.machine_model.specs.declared.given.Given.{Given}
use Rattle.machine_model.specs.declared.kind.Kind.{Kind}
use Rattle.machine_model.specs.declared.kind.Kind.TheVariants.{GetFile, GenerateFlowFile, PutFile}
use Rattle.machine_model.specs.declared.kind.TakeRule.{TakeRule}
use Rattle.machine_model.specs.declared.pattern.Pattern.{Pattern}
use Rattle.machine_model.specs.Acting.{passes}
use Rattle.machine_model.specs.Due.{numbers_of, at_place}
use Rattle.machine_model.specs.Files.{active_views, queue_at, queues_of}
use Rattle.machine_model.specs.Kinds.{take_rule_of}
use Rattle.machine_model.specs.Laws.{IsTaking, OneConnectionHas, PicksMayBeTaken}
use Rattle.machine_model.specs.Order.{eligible_files}
use Rattle.machine_model.specs.State.{QueuedFile, State, World}
use Rattle.machine_model.specs.Stepping.{given_in, is_there, may_generate, may_get, same_bool, taken_files}
use Rattle.machine_model.specs.Taking.{picks}
use Rattle.machine_model.specs.Valid.{IsValid}
use Rattle.machine_model.specs.View.{FileView, QueueView}
use Rattle.engine_queues.specs.Picking.{first_pick, picked_from}
use Rattle.engine_queues.specs.Beside.{beside, is_out}
use Rattle.engine_queues.specs.Laws.{SeesTheSame}
use Rattle.engine_choice.specs.declared.choice.Choice.{Choice}
use Rattle.engine_choice.specs.declared.choice.Taking.{Taking}
use Rattle.engine_choice.specs.declared.choice.Taking.TheVariants.{Files, Generate, Receive}
use Rattle.engine_choice.specs.Choice.{Known, ProcessorTakes, choice_at, choice_of, coming_of, fits_content, in_turn, is_ready, may_begin, next_choice, place_behind, taking_by, taking_of}
use Rattle.engine_choice.specs.Laws.{ChoicesAreSessions, TakingsAreSessions, given_for, numbers_in}
use Rattle.engine_choice.proofs.AtRest.{MayTakeAtRest, eligible-beside, queue-without, takes-at-rest, valid-without, without_out}
use Rattle.engine_choice.proofs.Found.{Each, Stands, GivenBy, each-among, each-append, each-drop, each-of, each-take, each-passed, each-stands, each-weaker, found, given-by}

-- ---- which processor it is of

record AreParts (place : ℕ) (taken : Option Taking) (choice : Choice) : Type 0 where
  processor : place ≡ choice.processor
  taking : taken ≡ Some choice.taking

choice-parts : (begins : Bool) (place : ℕ) (taking : Option Taking) (choice : Choice)
    → cond begins (option_map (choice_at place) taking) None ≡ Some choice → AreParts place taking choice
choice-parts false place taking choice is = cc
choice-parts true place None choice is = cc
choice-parts true place (Some taking) choice is =
    let same : choice_at place taking ≡ choice = cc in
    record { processor = ap (λ c. c.processor) same; taking = ap (λ c. Some c.taking) same }

module _ (flow : Flow) (known : Known) where
  each-in-turn : (last : Option ℕ) → Each (Stands flow.processors) (in_turn last (enumerate_from 0 flow.processors))
  each-in-turn last =
      let all = enumerate_from 0 flow.processors in
      let each = each-stands flow.processors in
      each-append (Stands flow.processors) (drop (place_behind last) all) (take (place_behind last) all)
      (each-drop (Stands flow.processors) (place_behind last) all each) (each-take (Stands flow.processors) (place_behind last) all each)

  pub chosen : (last : Option ℕ) (choice : Choice) → next_choice flow known last ≡ Some choice → ProcessorTakes flow known choice
  chosen last choice is = by_found (find (is_ready flow known) (in_turn last (enumerate_from 0 flow.processors))) refl is
    where
      by_found : (o : Option (ℕ × Processor)) → find (is_ready flow known) (in_turn last (enumerate_from 0 flow.processors)) ≡ o
          → option_and_then (choice_of flow known) o ≡ Some choice → ProcessorTakes flow known choice
      by_found None e is = cc
      by_found (Some (place, processor)) e is =
          let parts = choice-parts (may_begin flow known (place, processor)) place (taking_of flow known (place, processor)) choice is in
          let stands = found (Stands flow.processors) (is_ready flow known) (in_turn last (enumerate_from 0 flow.processors)) (place, processor) (each-in-turn last) e in
          record {
            processor = processor;
            there = ap (slice_get flow.processors) (sym parts.processor) ∙ stands.0;
            taking = ap (λ n. taking_of flow known (n, processor)) (sym parts.processor) ∙ parts.taking;
          }

-- ---- what is picked may be taken

record IsPickedFrom (rule : TakeRule) (place moment : ℕ) (connection : Connection) (queue : QueueView) (numbers : List ℕ) : Type 0 where
  files : List FileView
  target : connection.target ≡ place
  picked : picks rule (eligible_files connection.order connection.limits moment queue.active) ≡ Some files
  numbers_are : numbers_of files ≡ numbers

picked-parts : (rule : TakeRule) (place moment : ℕ) (connection : Connection) (queue : QueueView) (numbers : List ℕ)
    → picked_from rule place moment connection queue ≡ Some numbers → IsPickedFrom rule place moment connection queue numbers
picked-parts rule place moment connection queue numbers is =
    by_target (connection.target == place) refl (picks rule (eligible_files connection.order connection.limits moment queue.active)) refl is
  where
    by_target : (b : Bool) → (connection.target == place) ≡ b → (o : Option (List FileView)) → picks rule (eligible_files connection.order connection.limits moment queue.active) ≡ o
        → cond b (option_map numbers_of o) None ≡ Some numbers → IsPickedFrom rule place moment connection queue numbers
    by_target false fails o e is = cc
    by_target true holds None e is = cc
    by_target true holds (Some files) e is = record { files = files; target = eqb-true connection.target place holds; picked = e; numbers_are = cc }

-- the files of the numbers that were picked may be taken
module _ (picks_law : PicksMayBeTaken) (one_has : OneConnectionHas) (flow : Flow) (queues : ℕ → QueueView) (state : State) (out : List ℕ) (moment : ℕ) (valid : IsValid flow state)
    (same : SeesTheSame flow queues (beside out (queues_of state))) where
  pub picks-taken : (place : ℕ) (processor : Processor) (connection : ℕ) (numbers : List ℕ) → first_pick flow queues moment (place, processor) ≡ Some (connection, numbers)
      → MayTakeAtRest flow state out place (take_rule_of processor.kind) numbers moment
  picks-taken place processor connection numbers is =
      let rule = take_rule_of processor.kind in
      by_item (given-by (Stands flow.connections) (at_place (picked_from rule place moment) queues) (enumerate_from 0 flow.connections) (connection, numbers) (each-stands flow.connections) is)
    where
      by_connection : (k : ℕ) (c : Connection) → slice_get flow.connections k ≡ Some c → IsPickedFrom (take_rule_of processor.kind) place moment c (queues k) numbers
          → MayTakeAtRest flow state out place (take_rule_of processor.kind) numbers moment
      by_connection k c there from =
          let rule = take_rule_of processor.kind in
          let less = without_out out state in
          let seen : picks rule (eligible_files c.order c.limits moment (active_views (queue_at less k))) ≡ Some from.files =
          ap (λ (files : List QueuedFile). picks rule (eligible_files c.order c.limits moment (active_views files))) (queue-without out state k)
          ∙ ap (picks rule) (sym (same.eligible k moment c.order c.limits ∙ eligible-beside out c.limits moment c.order (queue_at state k))) ∙ from.picked in
          let P : Option (List FileView) → Type 0 = λ o. IfSome o (IsTaking flow less c.target rule moment) in
          let taking : IsTaking flow less c.target rule moment from.files = subst P seen (picks_law flow less k c rule moment (valid-without out flow state valid) there) in
          takes-at-rest one_has out flow state valid place rule moment numbers taking.files
          (ap (λ n. taken_files flow less n rule numbers moment) (sym from.target)
          ∙ ap (λ ns. taken_files flow less c.target rule ns moment) (sym from.numbers_are) ∙ taking.taken)

      by_parts : (k : ℕ) (c : Connection) → slice_get flow.connections k ≡ Some c → (o : Option (List ℕ)) → picked_from (take_rule_of processor.kind) place moment c (queues k) ≡ o
          → option_map {U = ℕ × List ℕ} (λ x. (k, x)) o ≡ Some (connection, numbers) → MayTakeAtRest flow state out place (take_rule_of processor.kind) numbers moment
      by_parts k c there None e is = cc
      by_parts k c there (Some ns) e is =
          let one : ℕ × List ℕ = (k, ns) in
          let other : ℕ × List ℕ = (connection, numbers) in
          let pairs : one ≡ other = cc in
          by_connection k c there (picked-parts (take_rule_of processor.kind) place moment c (queues k) numbers (e ∙ ap (λ p. Some p.1) pairs))

      by_item : GivenBy (Stands flow.connections) (at_place (picked_from (take_rule_of processor.kind) place moment) queues) (connection, numbers)
          → MayTakeAtRest flow state out place (take_rule_of processor.kind) numbers moment
      by_item given = by_parts given.item.0 given.item.1 given.stands (picked_from (take_rule_of processor.kind) place moment given.item.1 (queues given.item.0)) refl given.is_given

-- ---- names that come

pub stands-among : (names : List (List ℕ)) → Each (λ name. is_some (find (bytes_eq name) names) ≡ true) names
stands-among [] = tt
stands-among (first ∷ names) =
    let here : bytes_eq first first ≡ true = (bytes_eq-Decides first first).1 refl in
    (rw here refl, each-weaker (λ name. is_some (find (bytes_eq name) names) ≡ true) (λ name. is_some (find (bytes_eq name) (first ∷ names)) ≡ true) later names (stands-among names))
  where
    later : (name : List ℕ) → is_some (find (bytes_eq name) names) ≡ true → is_some (find (bytes_eq name) (first ∷ names)) ≡ true
    later name is = elim (bytes_eq name first) as (λ b. is_some (cond b (Some first) (find (bytes_eq name) names)) ≡ true) [ true ↦ refl | false ↦ is ]

all-three : (a b c : Bool) → a ≡ true → b ≡ true → c ≡ true → (a && b && c) ≡ true
all-three true true true one other third = refl
all-three true true false one other third = third
all-three true false c one other third = other
all-three false b c one other third = one

pub coming-may-be-got : (filter : Option Pattern) (world : World) (coming : List (List ℕ)) (name : List ℕ) → All (Contains (coming_of world)) coming → find (passes filter) coming ≡ Some name → may_get filter world name ≡ true
coming-may-be-got filter world coming name all is =
    let among = λ (name : List ℕ). is_some (find (bytes_eq name) world.left) ≡ true in
    let comes = λ (name : List ℕ). among name × (fits_content world name ≡ true) in
    let it = found (Contains (coming_of world)) (passes filter) coming name (each-of (Contains (coming_of world)) coming all) is in
    let there = each-among comes name (coming_of world) (each-passed among (fits_content world) world.left (stands-among world.left)) (among_contained name (coming_of world) it.0) in
    all-three (is_some (find (bytes_eq name) world.left)) (passes filter name) (fits_content world name) there.0 it.1 there.1

-- ---- what a session is given

-- it takes what the rule of its kind admits, and what it is given stands in the state and the world
record IsHandled (flow : Flow) (state : State) (world : World) (out : List ℕ) (moment place : ℕ) (kind : Kind) (taking : Taking) : Type 0 where
  files : List QueuedFile
  handed : Given
  taken : taken_files flow state place (take_rule_of kind) (numbers_in taking) moment ≡ Some files
  given : given_in kind place state world files (given_for moment (is_there world files) taking) ≡ Some handed
  at_rest : All (λ n. is_out out n ≡ false) (numbers_in taking)

same-same : (b : Bool) → same_bool b b ≡ true
same-same true = refl
same-same false = refl

module _ (flow : Flow) (state : State) (world : World) (out : List ℕ) (coming : List (List ℕ)) (comes : All (Contains (coming_of world)) coming) (moment place busy : ℕ) (pick : Option (ℕ × List ℕ)) where
  abbrev Picks : TakeRule → Type 0
  Picks rule = (connection : ℕ) (numbers : List ℕ) → pick ≡ Some (connection, numbers) → MayTakeAtRest flow state out place rule numbers moment

  handled-pick : (kind : Kind) (taking : Taking) → ((files : List QueuedFile) (given : Given) → given.there ≡ is_there world files → (handed : Given) × (given_in kind place state world files given ≡ Some handed))
      → Picks (take_rule_of kind) → option_map (λ files. Files files.0 files.1) pick ≡ Some taking → IsHandled flow state world out moment place kind taking
  handled-pick kind taking gives may is = by_pick pick refl is
    where
      by_pick : (o : Option (ℕ × List ℕ)) → pick ≡ o → option_map (λ files. Files files.0 files.1) o ≡ Some taking → IsHandled flow state world out moment place kind taking
      by_pick None e is = cc
      by_pick (Some (connection, numbers)) e is =
          let same : Files connection numbers ≡ taking = cc in
          let take = may connection numbers e in
          let given = gives take.files (given_for moment (is_there world take.files) (Files connection numbers)) refl in
          subst (IsHandled flow state world out moment place kind) same (record { files = take.files; handed = given.0; taken = take.taken; given = given.1; at_rest = take.at_rest })

  handled : (kind : Kind) (taking : Taking) → Picks (take_rule_of kind) → taking_by kind coming (slice_index state.counts place) busy pick ≡ Some taking
      → IsHandled flow state world out moment place kind taking
  handled (GetFile filter) taking may is = by_name (find (passes filter) coming) refl is
    where
      by_name : (o : Option (List ℕ)) → find (passes filter) coming ≡ o → option_map (λ name. Receive name) o ≡ Some taking → IsHandled flow state world out moment place (GetFile filter) taking
      by_name None e is = cc
      by_name (Some name) e is =
          let same : Receive name ≡ taking = cc in
          let given : Given = given_for moment (is_there world []) (Receive name) in
          let got = coming-may-be-got filter world coming name comes e in
          subst (IsHandled flow state world out moment place (GetFile filter)) same (record {
            files = [];
            handed = record given { bytes = bytes_of world.inbox name };
            taken = refl;
            given = rw got refl;
            at_rest = All-nil (λ n. is_out out n ≡ false);
          })
  handled (GenerateFlowFile count text) taking may is = by_count (nat_lt (slice_index state.counts place + busy) count) refl is
    where
      by_count : (b : Bool) → nat_lt (slice_index state.counts place + busy) count ≡ b → cond b (Some (Generate (slice_index state.counts place + 1))) None ≡ Some taking
          → IsHandled flow state world out moment place (GenerateFlowFile count text) taking
      by_count false fails is = cc
      by_count true holds is =
          let index = slice_index state.counts place + 1 in
          let same : Generate index ≡ taking = cc in
          let less : slice_index state.counts place + busy < count = ltb-true (slice_index state.counts place + busy) count holds in
          let here : (index == index) ≡ true = eq-eqb index index refl in
          let within : nat_le index count ≡ true = le-leb index count (omega arith) in
          let may : may_generate count (slice_index state.counts place) index ≡ true = ap (λ b. b && nat_le index count) here ∙ within in
          subst (IsHandled flow state world out moment place (GenerateFlowFile count text)) same (record {
            files = [];
            handed = given_for moment (is_there world []) (Generate index);
            taken = refl;
            given = rw may refl;
            at_rest = All-nil (λ n. is_out out n ≡ false);
          })
  handled (PutFile conflict) taking may is =
      handled-pick (PutFile conflict) taking (λ files given there. (given, ap (λ b. cond (same_bool b (is_there world files)) (Some given) None) there ∙ ap (λ b. cond b (Some given) None) (same-same (is_there world files)))) may is
  handled kind taking may is = handled-pick kind taking (λ files given there. (given, refl)) may is

pub takings-are-sessions : PicksMayBeTaken → OneConnectionHas → TakingsAreSessions
takings-are-sessions law one_has flow state world out known choice valid knows it =
    let place = choice.processor in
    let pick = first_pick flow known.queues known.moment (place, it.processor) in
    let taking : taking_by it.processor.kind known.coming (slice_index state.counts place) (slice_index known.busy place) pick ≡ Some choice.taking =
    ap (λ (made : List ℕ). taking_by it.processor.kind known.coming (slice_index made place) (slice_index known.busy place) pick) (sym knows.counts) ∙ it.taking in
    let done = handled flow state world out known.coming knows.coming known.moment place (slice_index known.busy place) pick it.processor.kind choice.taking
    (picks-taken law one_has flow known.queues state out known.moment valid knows.seen place it.processor) taking in
    (record { processor = it.processor; files = done.files; handed = done.handed; found = it.there; taken = done.taken; given = done.given }, done.at_rest)

pub choices-are-sessions : PicksMayBeTaken → OneConnectionHas → ChoicesAreSessions
choices-are-sessions law one_has flow state world out known last choice valid knows is =
    takings-are-sessions law one_has flow state world out known choice valid knows (chosen flow known last choice is)
