-- Which queues have files, as they change; and what is told by the queues that have none.
use Rattle.std.proofs.Common.{◌≡◌, ℕ, zero, suc, ◌+◌, ◌<◌, ◌≤◌, ◌==◌, ◌&&◌, ◌||◌, nat_lt, Bool, true, false, cond, List, [], ◌∷◌, length, map, set, drop, get_or, replicate, inl, inr, refl, sym, ap, ◌∙◌, arith}
use Rattle.std.specs.Prelude.{Option, Some, None, option_map, slice_get}
use Rattle.std.specs.List.{cons_option, filter_map, list_any, enumerate_from}
use Rattle.std.proofs.lemmas.Bool.{true≢false, cases_eq, eq-eqb, ne_eqb, lt-ltb}
use Rattle.std.proofs.lemmas.List.{at_drop_all, at_drop_more, get_or-set_other, get_or-set_same, length-map, length-replicate, length-set}
use Rattle.std.proofs.lemmas.Option.{get_or_from_slice_get, slice_get-map, slice_get_within}
use Rattle.flowfile_record.specs.NumberedItems.{with_item}
use Rattle.flowfile_record.specs.declared.flow_file.FlowFile.{FlowFile}
use Rattle.machine_model.specs.declared.flow.Connection.{Connection}
use Rattle.machine_model.specs.declared.flow.Flow.{Flow}
use Rattle.machine_model.specs.declared.flow.Processor.{Processor}
use Rattle.machine_model.specs.declared.flow.QueueLimits.{QueueLimits}
use Rattle.machine_model.specs.declared.kind.TakeRule.{TakeRule}
use Rattle.machine_model.specs.declared.kind.TakeRule.TheVariants.{Source, One, Bin, Defragment}
use Rattle.machine_model.specs.Due.{numbers_of, expired_numbers, at_place}
use Rattle.machine_model.specs.Kinds.{take_rule_of}
use Rattle.machine_model.specs.Order.{eligible_files}
use Rattle.machine_model.specs.Taking.{picks}
use Rattle.machine_model.specs.View.{FileView, QueueView}
use Rattle.prioritizer.specs.declared.prioritizer.Prioritizer.{Prioritizer}
use Rattle.flow_queue.specs.Queue.{QueueState, held_number, held_view, queue_as_seen, views_of}
use Rattle.flow_queue.specs.declared.held.Held.{Held}
use Rattle.engine_queues.specs.Picking.{picked_from, first_pick}
use Rattle.engine_queues.specs.Queues.{queue_seen}
use Rattle.engine_queues.specs.Settling.{as_at_rest, changed_at, queue_with, without_flights, without_room}
use Rattle.engine_queues.specs.Waiting.{AreWaits, brings_files, files_wait_for, has_files}
use Rattle.engine_queues.proofs.Due.{seen-at}

-- ---- the marks of queues that change

pub marked-changed : (place : ℕ) (change : QueueState → QueueState) (queues : List QueueState) (before : QueueState) (mark : Bool) → slice_get queues place ≡ Some before
    → mark ≡ has_files (change before) → set (map has_files queues) place mark ≡ map has_files (changed_at place change queues)
marked-changed place change [] before mark got is = absurd cc
marked-changed zero change (queue ∷ queues) before mark got is =
    let same : before ≡ queue = cc in
    ap (λ (b : Bool). b ∷ map has_files queues) (is ∙ ap (λ (q : QueueState). has_files (change q)) same)
marked-changed (suc place) change (queue ∷ queues) before mark got is = ap (λ (l : List Bool). has_files queue ∷ l) (marked-changed place change queues before mark got is)

some-with : (held : Held) (files : List Held) → true ≡ nat_lt 0 (length (with_item held_number held files))
some-with held [] = sym (lt-ltb 0 (length (held ∷ [])) (omega arith))
some-with held (first ∷ files) = by_order (nat_lt (held_number first) (held_number held))
  where
    by_order : (b : Bool) → true ≡ nat_lt 0 (length (cond b (first ∷ with_item held_number held files) (held ∷ first ∷ files)))
    by_order true = sym (lt-ltb 0 (length (first ∷ with_item held_number held files)) (omega arith))
    by_order false = sym (lt-ltb 0 (length (held ∷ first ∷ files)) (omega arith))

pub with-file : (file : FlowFile) (queue : QueueState) → true ≡ has_files (queue_with file queue)
with-file file queue = some-with (record { file = file; in_flight = false }) queue.files

-- the marks go by what stays of each queue
same-marks : (part : QueueState → QueueState) → ((queue : QueueState) → has_files queue ≡ has_files (part queue)) → (new old : List QueueState) → map part new ≡ map part old
    → map has_files new ≡ map has_files old
same-marks part is new old same = by_parts new ∙ ap (map has_files) same ∙ sym (by_parts old)
  where
    by_parts : (queues : List QueueState) → map has_files queues ≡ map has_files (map part queues)
    by_parts [] = refl
    by_parts (queue ∷ queues) = ap (λ (b : Bool). b ∷ map has_files queues) (is queue) ∙ ap (λ (l : List Bool). has_files (part queue) ∷ l) (by_parts queues)

pub marks-beside-flights : (new old : List QueueState) → map without_flights new ≡ map without_flights old → map has_files new ≡ map has_files old
marks-beside-flights new old same = same-marks without_flights (λ queue. sym (ap (nat_lt 0) (length-map queue.files as_at_rest))) new old same

pub marks-beside-room : (new old : List QueueState) → map without_room new ≡ map without_room old → map has_files new ≡ map has_files old
marks-beside-room new old same = same-marks without_room (λ queue. refl) new old same

-- the mark of a queue
mark-at : (queues : List QueueState) (occupied : List Bool) (place : ℕ) (queue : QueueState) (d : Bool) → occupied ≡ map has_files queues → slice_get queues place ≡ Some queue
    → get_or occupied place d ≡ has_files queue
mark-at queues occupied place queue d are there =
    ap (λ (l : List Bool). get_or l place d) are
    ∙ get_or_from_slice_get (map has_files queues) place (has_files queue) d (slice_get-map has_files queues place ∙ ap (option_map has_files) there)

-- the same, as it is read
pub mark-read : (queues : List QueueState) (occupied read : List Bool) (place : ℕ) (queue : QueueState) (d mark : Bool) → occupied ≡ map has_files queues → read ≡ occupied → get_or read place d ≡ mark
    → slice_get queues place ≡ Some queue → has_files queue ≡ mark
mark-read queues occupied read place queue d mark are same is there =
    sym (mark-at queues occupied place queue d are there) ∙ ap (λ (l : List Bool). get_or l place d) (sym same) ∙ is

-- ---- no files

no-items : {X : Type 0} (items : List X) → nat_lt 0 (length items) ≡ false → items ≡ []
no-items [] none = refl
no-items (item ∷ items) none = absurd (true≢false (sym (lt-ltb 0 (length (item ∷ items)) (omega arith)) ∙ none))

-- none of no files has expired
pub none-to-expire : (moment : ℕ) (queue : QueueState) → has_files queue ≡ false → expired_numbers queue.limits moment (queue_as_seen queue).active ≡ []
none-to-expire moment queue none = ap (λ (files : List Held). expired_numbers queue.limits moment (views_of files)) (no-items queue.files none)

-- no rule picks from no files
none-to-pick : (rule : TakeRule) → picks rule [] ≡ None
none-to-pick Source = refl
none-to-pick One = refl
none-to-pick (Bin min zero) = refl
none-to-pick (Bin min (suc max)) = refl
none-to-pick Defragment = refl

module _ (flow : Flow) (queues : ℕ → QueueView) (moment place : ℕ) (processor : Processor) where
  abbrev rule : TakeRule
  rule = take_rule_of processor.kind

  none-eligible : (order : List Prioritizer) (limits : QueueLimits) (active : List FileView) → nat_lt 0 (length active) ≡ false → option_map numbers_of (picks rule (eligible_files order limits moment active)) ≡ None
  none-eligible order limits active none =
      ap (λ (files : List FileView). option_map numbers_of (picks rule (eligible_files order limits moment files))) (no-items active none)
      ∙ ap (option_map numbers_of) (none-to-pick rule)

  none-from : (c : ℕ × Connection) → brings_files queues place c ≡ false → at_place (picked_from rule place moment) queues c ≡ None
  none-from c none = ap (option_map (λ (x : List ℕ). (c.0, x))) (by_target (c.1.target == place) none)
    where
      by_target : (ends : Bool) → (ends && nat_lt 0 (length (queues c.0).active)) ≡ false
          → cond ends (option_map numbers_of (picks rule (eligible_files c.1.order c.1.limits moment (queues c.0).active))) None ≡ None
      by_target true none = none-eligible c.1.order c.1.limits (queues c.0).active none
      by_target false none = refl

  none-among : (connections : List (ℕ × Connection)) → list_any (brings_files queues place) connections ≡ false
      → slice_get (filter_map (at_place (picked_from rule place moment) queues) connections) 0 ≡ None
  none-among [] none = refl
  none-among (c ∷ connections) none = by_first (brings_files queues place c) refl none (none-among connections)
    where
      by_first : (b : Bool) → brings_files queues place c ≡ b → (b || list_any (brings_files queues place) connections) ≡ false
          → (list_any (brings_files queues place) connections ≡ false → slice_get (filter_map (at_place (picked_from rule place moment) queues) connections) 0 ≡ None)
          → slice_get (cons_option (at_place (picked_from rule place moment) queues c) (filter_map (at_place (picked_from rule place moment) queues) connections)) 0 ≡ None
      by_first true is none later = absurd (true≢false none)
      by_first false is none later =
          ap (λ (o : Option (ℕ × List ℕ)). slice_get (cons_option o (filter_map (at_place (picked_from rule place moment) queues) connections)) 0) (none-from c is)
          ∙ later none

  -- nothing is picked for a processor for which no files wait
  pub none-picked : files_wait_for flow queues place ≡ false → first_pick flow queues moment (place, processor) ≡ None
  none-picked none = none-among (enumerate_from 0 flow.connections) none

-- ---- a mark for each processor

-- some connection from one place on brings files to a processor
abbrev pub brings_from : Flow → List QueueState → (place processor : ℕ) → Bool
brings_from flow queues place processor = list_any (brings_files (queue_seen queues) processor) (enumerate_from place (drop place flow.connections))

-- the marks by the connections before a place: with those from there on, they tell for which processors files wait
pub record AreWaitsSoFar (flow : Flow) (queues : List QueueState) (place : ℕ) (waits : List Bool) : Type 0 where
  pub count : length waits ≡ length flow.processors
  pub each : (processor : ℕ) → processor < length waits → (get_or waits processor false || brings_from flow queues place processor) ≡ files_wait_for flow (queue_seen queues) processor

or_true : (b : Bool) → (b || true) ≡ true
or_true true = refl
or_true false = refl

or_false : (b : Bool) → (b || false) ≡ b
or_false true = refl
or_false false = refl

-- a connection without files, or that ends elsewhere, brings none
brings_none : (ends b rest : Bool) → (b || ((ends && false) || rest)) ≡ (b || rest)
brings_none true b rest = refl
brings_none false b rest = refl

module _ (flow : Flow) (queues : List QueueState) where
  none-marked : (n processor : ℕ) → get_or (replicate n false) processor false ≡ false
  none-marked zero processor = refl
  none-marked (suc n) zero = refl
  none-marked (suc n) (suc processor) = none-marked n processor

  pub no-marks : (waits : List Bool) → waits ≡ replicate (length flow.processors) false → AreWaitsSoFar flow queues 0 waits
  no-marks waits are = record {
    count = ap length are ∙ length-replicate (length flow.processors) false;
    each = λ processor lt.
        ap (λ (l : List Bool). get_or l processor false || files_wait_for flow (queue_seen queues) processor) are
        ∙ ap (λ b. b || files_wait_for flow (queue_seen queues) processor) (none-marked (length flow.processors) processor);
  }

  module _ (place : ℕ) (connection : Connection) (queue : QueueState) (at : slice_get flow.connections place ≡ Some connection) (there : slice_get queues place ≡ Some queue) where
    brings-here : (processor : ℕ) → brings_files (queue_seen queues) processor (place, connection) ≡ ((connection.target == processor) && has_files queue)
    brings-here processor =
        ap (λ view. (connection.target == processor) && nat_lt 0 (length view.active)) (seen-at queues place queue there)
        ∙ ap (λ n. (connection.target == processor) && nat_lt 0 n) (length-map queue.files held_view)

    brings-or : (processor : ℕ) → brings_from flow queues place processor ≡ (((connection.target == processor) && has_files queue) || brings_from flow queues (place + 1) processor)
    brings-or processor =
        at_drop_more (λ (l : List Connection). list_any (brings_files (queue_seen queues) processor) (enumerate_from place l)) flow.connections place connection (slice_get_within flow.connections place connection at)
        ∙ ap (λ (c : Connection). brings_files (queue_seen queues) processor (place, c) || brings_from flow queues (place + 1) processor) (get_or_from_slice_get flow.connections place connection connection at)
        ∙ ap (λ b. b || brings_from flow queues (place + 1) processor) (brings-here processor)

    -- by the next connection, if it has no files
    pub still-waits : (waits : List Bool) → has_files queue ≡ false → AreWaitsSoFar flow queues place waits → AreWaitsSoFar flow queues (place + 1) waits
    still-waits waits none before = record {
      count = before.count;
      each = λ processor lt.
          let rest = brings_from flow queues (place + 1) processor in
          let b = get_or waits processor false in
          sym (brings_none (connection.target == processor) b rest)
          ∙ ap (λ has. b || (((connection.target == processor) && has) || rest)) (sym none)
          ∙ ap (λ l. b || l) (sym (brings-or processor)) ∙ before.each processor lt;
    }

    -- by the next connection, if it has files
    pub one-waits : (waits : List Bool) → has_files queue ≡ true → AreWaitsSoFar flow queues place waits → AreWaitsSoFar flow queues (place + 1) (set waits connection.target true)
    one-waits waits has before = record {
      count = length-set waits connection.target true ∙ before.count;
      each = λ processor lt.
          let rest = brings_from flow queues (place + 1) processor in
          let b = get_or waits processor false in
          let within : processor < length waits = omega (arith, lt, length-set waits connection.target true) in
          let was : (b || (((connection.target == processor) && true) || rest)) ≡ files_wait_for flow (queue_seen queues) processor =
          ap (λ h. b || (((connection.target == processor) && h) || rest)) (sym has) ∙ ap (λ l. b || l) (sym (brings-or processor)) ∙ before.each processor within in
          elim (cases_eq processor connection.target) [
            | inl same ↦
                let marked : get_or (set waits connection.target true) processor false ≡ true =
                ap (λ n. get_or (set waits connection.target true) n false) same
                ∙ get_or-set_same waits connection.target true false (omega (arith, within, same)) in
                ap (λ m. m || rest) marked ∙ sym (or_true b)
                ∙ ap (λ e. b || ((e && true) || rest)) (sym (eq-eqb connection.target processor (sym same))) ∙ was
            | inr differ ↦
                ap (λ m. m || rest) (get_or-set_other waits connection.target processor true false differ)
                ∙ ap (λ e. b || ((e && true) || rest)) (sym (ne_eqb connection.target processor (λ e. differ (sym e)))) ∙ was
          ];
    }

  pub all-waits : (place : ℕ) (waits : List Bool) → length flow.connections ≤ place → AreWaitsSoFar flow queues place waits → AreWaits flow (queue_seen queues) waits
  all-waits place waits past so = record {
    count = so.count;
    each = λ processor waiting there.
        let none : brings_from flow queues place processor ≡ false =
        at_drop_all (λ (l : List Connection). list_any (brings_files (queue_seen queues) processor) (enumerate_from place l)) flow.connections place past in
        let is : get_or waits processor false ≡ waiting = get_or_from_slice_get waits processor waiting false there in
        sym is ∙ sym (or_false (get_or waits processor false)) ∙ ap (λ b. get_or waits processor false || b) (sym none) ∙ so.each processor (slice_get_within waits processor waiting there);
  }
