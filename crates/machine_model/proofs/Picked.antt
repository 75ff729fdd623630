-- That what a rule picks of the eligible files of a connection is what a session at its end takes.
use Rattle.std.proofs.Common.{◌≡◌, ◌≢◌, inl, inr, ℕ, zero, suc, ◌-◌, ◌<◌, ◌≤◌, Bool, true, false, cond, not, ◌&&◌, ◌||◌, List, [], ◌∷◌, map, length, refl, sym, ap, subst, ◌∙◌, arith}
use Rattle.std.specs.Prelude.{◌==◌, nat_le, nat_lt, Contains, Some, None, IfSome, filter, option_and_then, slice_get}
use Rattle.std.specs.List.{AllPairs, list_all, cons_option, flat_map, enumerate_from}
use Rattle.std.proofs.lemmas.Bool.{and_parts, and_from, eq-eqb, le-leb, ltb-true, true≢false}
use Rattle.std.proofs.lemmas.List.Sorted.{IsPermutation-sym, Contains-permutation}
use Rattle.flowfile_record.specs.declared.TheConstants.{CONTENT_MAX}
use Rattle.prioritizer.specs.declared.prioritizer.Prioritizer.{Prioritizer}
use Rattle.machine_model.specs.declared.flow.Connection.{Connection}
use Rattle.machine_model.specs.declared.flow.Flow.{Flow}
use Rattle.machine_model.specs.declared.kind.TakeRule.{TakeRule}
use Rattle.machine_model.specs.declared.kind.TakeRule.TheVariants.{Source, One, Bin, Defragment}
use Rattle.machine_model.specs.Due.{numbers_of}
use Rattle.machine_model.specs.Files.{active_files, active_views, are_active, are_distinct, file_numbered, is_active, queue_at, view_of}
use Rattle.machine_model.specs.Laws.{PicksMayBeTaken, IsTaking}
use Rattle.machine_model.specs.Order.{in_order, is_eligible, eligible_files}
use Rattle.machine_model.specs.State.{QueuedFile, State}
use Rattle.machine_model.specs.Stepping.{source_of, may_be_taken, is_in_turn, admits, files_of, taken_from, taken_files}
use Rattle.machine_model.specs.Taking.{filling, next_would_pass, bin_of, picks}
use Rattle.machine_model.specs.Valid.{IsValid}
use Rattle.machine_model.specs.View.{FileView, is_penalised, is_expired}
use Rattle.machine_model.proofs.Among.{Among, is_made, kept_by, all_among, contains_among, among_contained}
use Rattle.machine_model.proofs.DueSteps.{active-seen, views-once}
use Rattle.machine_model.proofs.Fragments.{ArePicked, AreApart, first-whole-picked}
use Rattle.machine_model.proofs.Keyed.{once_from_differ, differ_from_once, same_key}
use Rattle.machine_model.proofs.Numbered.{HaveOwnNumbers, all-active, found-itself, once-distinct, order-weighs, own-numbers, at-weighs, one-has}
use Rattle.machine_model.proofs.OnlyOrder.{Leads, all_lead}
use Rattle.machine_model.proofs.Options.{if_when, if_weaker}
use Rattle.machine_model.proofs.Ordered.{in_order-permutes, in_order-ordered, pairs_head, pairs_tail}
use Rattle.machine_model.proofs.Places.{enumerated}
use Rattle.machine_model.proofs.Tally.{tally, bit, many, at_most, tally-map, tally-filter}

-- ---- the files of views

files-of-views : (queue : List QueuedFile) (views : List FileView) → HaveOwnNumbers queue → ((view : FileView) → Among view views → Among view (active_views queue))
    → map view_of (files_of queue (numbers_of views)) ≡ views
files-of-views queue [] own there = refl
files-of-views queue (view ∷ views) own there =
    let made = is_made view_of (active_files queue) view (there view (inl refl)) in
    let number : made.source.number ≡ view.number = ap (λ (v : FileView). v.number) made.is in
    let found : file_numbered queue view.number ≡ Some made.source = ap (file_numbered queue) (sym number) ∙ found-itself queue own made.source (kept_by is_active queue made.source made.there).0 in
    ap (λ o. map view_of (cons_option o (files_of queue (numbers_of views)))) found
    ∙ (λ i. made.is i ∷ files-of-views queue views own (λ v h. there v (inr h)) i)

all-may : (connection : Connection) (moment : ℕ) (views : List FileView) → ((view : FileView) → Among view views → is_eligible connection.limits moment view ≡ true)
    → list_all (may_be_taken connection moment) views ≡ true
all-may connection moment [] each = refl
all-may connection moment (view ∷ views) each =
    let outer = and_parts _ (not (is_expired connection.limits.expiration moment view)) (each view (inl refl)) in
    let inner = and_parts (not view.in_flight) (not (is_penalised moment view)) outer.0 in
    and_from _ _ (and_from _ _ inner.1 outer.1) (all-may connection moment views (λ v h. each v (inr h)))

-- ---- what is picked of eligible files may be taken

passing : {X : Type 0} (b : Bool) (x : X) → b ≡ true → cond b (Some x) None ≡ Some x
passing true x h = refl
passing false x h = absurd (true≢false (sym h))

-- the eligible files of a connection's queue
abbrev eligible : State → ℕ → Connection → ℕ → List FileView
eligible state place connection moment = eligible_files connection.order connection.limits moment (active_views (queue_at state place))

among-eligible : (state : State) (place : ℕ) (connection : Connection) (moment : ℕ) (view : FileView) → Among view (eligible state place connection moment)
    → Among view (active_views (queue_at state place)) × (is_eligible connection.limits moment view ≡ true)
among-eligible state place connection moment view h =
    let kept = filter (is_eligible connection.limits moment) (active_views (queue_at state place)) in
    let ordered = in_order connection.order kept in
    kept_by (is_eligible connection.limits moment) (active_views (queue_at state place)) view
    (among_contained view kept (Contains-permutation ordered kept view (IsPermutation-sym kept ordered (in_order-permutes connection.order kept)) (contains_among view ordered h)))

taken-by : (flow : Flow) (state : State) (processor : ℕ) (rule : TakeRule) (number : ℕ) (numbers : List ℕ) (moment : ℕ) → rule ≢ Source
    → taken_files flow state processor rule (number ∷ numbers) moment ≡ option_and_then (taken_from state rule (number ∷ numbers) moment) (source_of flow state processor (number ∷ numbers))
taken-by flow state processor Source number numbers moment other = absurd (other refl)
taken-by flow state processor One number numbers moment other = refl
taken-by flow state processor (Bin min max) number numbers moment other = refl
taken-by flow state processor Defragment number numbers moment other = refl

takes : (flow : Flow) (state : State) (place : ℕ) (connection : Connection) (rule : TakeRule) (moment most : ℕ) (picked : List FileView) → IsValid flow state
    → slice_get flow.connections place ≡ Some connection → rule ≢ Source → ArePicked most (eligible state place connection moment) picked → admits rule connection.order picked ≡ true
    → IsTaking flow state connection.target rule moment picked
takes flow state place connection rule moment most [] valid is other are admitted = absurd (omega (arith, are.some))
takes flow state place connection rule moment most (first ∷ rest) valid is other are admitted =
    let queue = queue_at state place in
    let picked = first ∷ rest in
    let numbers = numbers_of picked in
    let own = own-numbers flow state place valid in
    let seen : (view : FileView) → Among view picked → Among view (active_views queue) = λ view h. (among-eligible state place connection moment view (are.there view h)).0 in
    let good : (view : FileView) → Among view picked → is_eligible connection.limits moment view ≡ true = λ view h. (among-eligible state place connection moment view (are.there view h)).1 in
    let files : map view_of (files_of queue numbers) ≡ picked = files-of-views queue picked own seen in
    let active : are_active queue numbers ≡ true = all-active (λ view. true) queue numbers (λ n h.
    let made = is_made (λ (view : FileView). view.number) picked n h in
    active-seen (λ view. true) queue n made.source (seen made.source made.there) made.is refl) in
    let here : Contains (enumerate_from 0 flow.connections) (place, connection)
    = contains_among (place, connection) (enumerate_from 0 flow.connections) (subst (λ n. Among (n, connection) (enumerate_from 0 flow.connections)) (omega arith) (enumerated 0 flow.connections place connection is)) in
    let source : source_of flow state connection.target numbers ≡ Some (place, connection)
    = one-has flow state connection.target first.number (numbers_of rest) (place, connection) valid here (and_from _ _ (eq-eqb connection.target connection.target refl) active) in
    let distinct : are_distinct numbers ≡ true
    = once-distinct numbers (λ n. omega (arith, tally-map (λ m. bit (m == n)) (λ (view : FileView). view.number) picked, are.once n)) in
    let tests = and_from _ _ (and_from _ _ distinct (ap (list_all (may_be_taken connection moment)) files ∙ all-may connection moment picked good)) (ap (admits rule connection.order) files ∙ admitted) in
    record {
      files = files_of queue numbers;
      taken = taken-by flow state connection.target rule first.number (numbers_of rest) moment other
          ∙ ap (option_and_then (taken_from state rule numbers moment)) source
          ∙ passing _ (files_of queue numbers) tests;
      seen = files;
    }

-- ---- the rules

apart-eligible : (flow : Flow) (state : State) (place : ℕ) (connection : Connection) (moment : ℕ) → IsValid flow state → AreApart (eligible state place connection moment)
apart-eligible flow state place connection moment valid one other h k same =
    let queue = queue_at state place in
    let views = active_views queue in
    same_key (λ (view : FileView). view.number) views one other
    (differ_from_once (λ (view : FileView). view.number) views (λ n. views-once queue n (own-numbers flow state place valid)))
    (contains_among one views (among-eligible state place connection moment one h).0) (contains_among other views (among-eligible state place connection moment other k).0) same

eligible-once : (flow : Flow) (state : State) (place : ℕ) (connection : Connection) (moment n : ℕ) → IsValid flow state → many (λ (view : FileView). view.number) n (eligible state place connection moment) ≤ 1
eligible-once flow state place connection moment n valid =
    let queue = queue_at state place in
    let w = λ (view : FileView). bit (view.number == n) in
    omega (
      arith,
      views-once queue n (own-numbers flow state place valid),
      order-weighs w connection.order (filter (is_eligible connection.limits moment) (active_views queue)),
      tally-filter w (is_eligible connection.limits moment) (active_views queue),
    )

arrivals-once : (flow : Flow) (state : State) (place : ℕ) (connection : Connection) (moment n : ℕ) → IsValid flow state → many (λ (view : FileView). view.arrival) n (eligible state place connection moment) ≤ 1
arrivals-once flow state place connection moment n valid =
    let queue = queue_at state place in
    let w = λ (view : FileView). bit (view.arrival == n) in
    let u = λ (file : QueuedFile). bit (file.arrival == n) in
    omega (
      arith,
      order-weighs w connection.order (filter (is_eligible connection.limits moment) (active_views queue)),
      tally-filter w (is_eligible connection.limits moment) (active_views queue),
      tally-map w view_of (active_files queue),
      tally-filter u is_active queue,
      at-weighs u state.queues place,
      once_from_differ (λ (file : QueuedFile). file.arrival) (flat_map (λ queue. queue) state.queues) valid.numbered.arrivals.differ n,
    )

filling-among : (most room : ℕ) (files : List FileView) (view : FileView) → Among view (filling most room files) → Among view files
filling-among most room [] view h = h
filling-among zero room (file ∷ files) view h = absurd h
filling-among (suc most) room (file ∷ files) view h =
    elim (nat_le file.size room) as (λ b. Among view (cond b (file ∷ filling most (room - file.size) files) []) → Among view (file ∷ files)) [
      | true ↦ λ h. elim h [ inl is ↦ inl is | inr later ↦ inr (filling-among most (room - file.size) files view later) ]
      | false ↦ λ h. absurd h
    ] h

filling-weighs : (w : FileView → ℕ) (most room : ℕ) (files : List FileView) → tally w (filling most room files) ≤ tally w files
filling-weighs w most room [] = omega arith
filling-weighs w zero room (file ∷ files) = omega arith
filling-weighs w (suc most) room (file ∷ files) =
    let rest = filling-weighs w most (room - file.size) files in
    elim (nat_le file.size room) as (λ b. tally w (cond b (file ∷ filling most (room - file.size) files) []) ≤ tally w (file ∷ files)) [ true ↦ omega arith | false ↦ omega arith ]

filling-most : (most room : ℕ) (files : List FileView) → length (filling most room files) ≤ most
filling-most most room [] = omega arith
filling-most zero room (file ∷ files) = omega arith
filling-most (suc most) room (file ∷ files) =
    let rest = filling-most most (room - file.size) files in
    elim (nat_le file.size room) as (λ b. length (cond b (file ∷ filling most (room - file.size) files) []) ≤ suc most) [ true ↦ omega arith | false ↦ omega arith ]

-- the files that fill a room stand in turn, as those that they are the first of
turn-on : (order : List Prioritizer) (file : FileView) (picked files : List FileView) → ((view : FileView) → Among view picked → Among view files) → AllPairs (Leads order) (file ∷ files)
    → is_in_turn order picked ≡ true → is_in_turn order (file ∷ picked) ≡ true
turn-on order file [] files there leads turn = refl
turn-on order file (next ∷ picked) files there leads turn =
    and_from _ _ (all_among (Leads order file) next files (pairs_head (Leads order) file files leads) (there next (inl refl))) turn

filling-turn : (order : List Prioritizer) (most room : ℕ) (files : List FileView) → AllPairs (Leads order) files → is_in_turn order (filling most room files) ≡ true
filling-turn order most room [] leads = refl
filling-turn order zero room (file ∷ files) leads = refl
filling-turn order (suc most) room (file ∷ files) leads =
    let rest = filling-turn order most (room - file.size) files (pairs_tail (Leads order) file files leads) in
    elim (nat_le file.size room) as (λ b. is_in_turn order (cond b (file ∷ filling most (room - file.size) files) []) ≡ true) [
      | true ↦ turn-on order file (filling most (room - file.size) files) files (filling-among most (room - file.size) files) leads rest
      | false ↦ refl
    ]

eligible-leads : (flow : Flow) (state : State) (place : ℕ) (connection : Connection) (moment : ℕ) → IsValid flow state → AllPairs (Leads connection.order) (eligible state place connection moment)
eligible-leads flow state place connection moment valid =
    let kept = filter (is_eligible connection.limits moment) (active_views (queue_at state place)) in
    all_lead connection.order (in_order connection.order kept)
    (differ_from_once (λ (view : FileView). view.arrival) (in_order connection.order kept) (λ n. arrivals-once flow state place connection moment n valid))
    (in_order-ordered connection.order kept)

one-is : (flow : Flow) (state : State) (place : ℕ) (connection : Connection) (moment : ℕ) (files : List FileView) → IsValid flow state → slice_get flow.connections place ≡ Some connection
    → files ≡ eligible state place connection moment → IfSome (picks One files) (IsTaking flow state connection.target One moment)
one-is flow state place connection moment [] valid is same = tt
one-is flow state place connection moment (file ∷ files) valid is same =
    takes flow state place connection One moment 1 (file ∷ []) valid is (λ e. one-no-source e) (record {
      there = λ view h. subst (Among view) same (elim h [ inl e ↦ inl e | inr none ↦ absurd none ]);
      once = λ n. omega (arith, at_most (file.number == n) 1);
      some = omega arith;
      enough = omega arith;
    }) refl
  where
    one-no-source : One ≡ Source → ⊥
    one-no-source e = cc

bin-is : (flow : Flow) (state : State) (place : ℕ) (connection : Connection) (moment min max : ℕ) → IsValid flow state → slice_get flow.connections place ≡ Some connection
    → IfSome (bin_of min max (eligible state place connection moment)) (IsTaking flow state connection.target (Bin min max) moment)
bin-is flow state place connection moment min max valid is =
    let files = eligible state place connection moment in
    let bin = filling max CONTENT_MAX files in
    if_when (nat_lt 0 (length bin) && (nat_le min (length bin) || next_would_pass (length bin) CONTENT_MAX files)) bin (IsTaking flow state connection.target (Bin min max) moment) (λ passes.
    let some : 0 < length bin = ltb-true 0 (length bin) (and_parts (nat_lt 0 (length bin)) _ passes).0 in
    let enough = filling-most max CONTENT_MAX files in
    takes flow state place connection (Bin min max) moment max bin valid is (λ e. bin-no-source e) (record {
      there = filling-among max CONTENT_MAX files;
      once = λ n. omega (arith, filling-weighs (λ view. bit (view.number == n)) max CONTENT_MAX files, eligible-once flow state place connection moment n valid);
      some = omega arith;
      enough = enough;
    }) (and_from _ _ (and_from _ _ (le-leb 1 (length bin) (omega arith)) (le-leb (length bin) max enough))
    (filling-turn connection.order max CONTENT_MAX files (eligible-leads flow state place connection moment valid))))
  where
    bin-no-source : Bin min max ≡ Source → ⊥
    bin-no-source e = cc

defragment-no-source : Defragment ≡ Source → ⊥
defragment-no-source e = cc

pub picks-taken : PicksMayBeTaken
picks-taken flow state place connection Source moment valid is = tt
picks-taken flow state place connection One moment valid is = one-is flow state place connection moment (eligible state place connection moment) valid is refl
picks-taken flow state place connection (Bin min max) moment valid is = bin-is flow state place connection moment min max valid is
picks-taken flow state place connection Defragment moment valid is =
    let files = eligible state place connection moment in
    if_weaker (picks Defragment files) (ArePicked 1000 files) (IsTaking flow state connection.target Defragment moment)
    (λ picked are. takes flow state place connection Defragment moment 1000 picked valid is defragment-no-source are
    (and_from _ _ (le-leb 1 (length picked) are.some) (le-leb (length picked) 1000 are.enough)))
    (first-whole-picked files files (apart-eligible flow state place connection moment valid) (λ view h. h))
