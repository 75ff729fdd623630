-- Files that expire: the live files of their numbers, their events, the state behind them, and the machine's step.
use Rattle.std.proofs.Common.{length-drop, ◌≡◌, ◌≢◌, ℕ, zero, suc, ◌+◌, ◌^◌, ◌<◌, ◌≤◌, ◌==◌, ◌&&◌, not, Bool, true, false, cond, List, [], ◌∷◌, ◌++◌, length, map, drop, refl, sym, ap, subst, ◌∙◌, inl, inr, arith}
use Rattle.std.specs.Prelude.{All, Contains, Option, None, Some, filter, is_some, nat_le, nat_lt, option_and_then, slice_get, slice_set, unwrap_or}
use Rattle.std.specs.FinSet.{from_list, union}
use Rattle.std.specs.List.{cons_option, enumerate_from, list_all, list_any}
use Rattle.std.proofs.lemmas.Bool.{and_from, and_parts, cases_Bool, eq-eqb, eqb-true, false≢true, le-leb, leb-false, leb-true, lt-ltb, ne_eqb}
use Rattle.std.proofs.lemmas.List.{append-nil, length-map, length-take-le}
use Rattle.std.proofs.lemmas.List.Elements.{All-weaker}
use Rattle.disk_trait.specs.Files.{Files}
use Rattle.sha2.specs.Sha256.{sha256}
use Rattle.flowfile_record.specs.Kin.{kin_of_all}
use Rattle.flowfile_record.specs.NumberedItems.{AscendsByNumber}
use Rattle.flowfile_record.specs.Stored.{Kept}
use Rattle.flowfile_record.specs.declared.change.Settled.{Settled}
use Rattle.flowfile_record.specs.declared.content.ContentRef.{ContentRef}
use Rattle.flowfile_record.specs.declared.event.Event.{Event}
use Rattle.flowfile_record.specs.declared.event.EventKind.TheVariants as kind
use Rattle.flowfile_record.specs.declared.stored.ActiveFile.{ActiveFile}
use Rattle.flowfile_record.specs.declared.stored.Placed.{Placed}
use Rattle.checkpoint_store.specs.Consistent.{IsConsistent, IsFileIn}
use Rattle.content_repo.specs.Claims.{claim, content_in}
use Rattle.kept_state.specs.Applied.{active_number, session_applied}
use Rattle.kept_state.specs.Changes.{settled_of_expiry}
use Rattle.kept_state.specs.Changes.{entry_of_session as session_entry}
use Rattle.kept_state.specs.Fits.{active_of, are_active_in, is_in_connection}
use Rattle.kept_state.specs.Fits as kept
use Rattle.kept_state.specs.Moves as moves
use Rattle.machine_model.specs.declared.flow.Connection.{Connection}
use Rattle.machine_model.specs.declared.flow.Flow.{Flow}
use Rattle.machine_model.specs.declared.limits.TheConstants.{ID_MAX}
use Rattle.machine_model.specs.Changing.{queue_after, state_after}
use Rattle.machine_model.specs.Events.{Draft, ascending, numbered_from, put_ascending}
use Rattle.machine_model.specs.Files as files
use Rattle.machine_model.specs.Files.{active_files, are_active, file_numbered, is_active, is_number_among, queue_at, view_of}
use Rattle.machine_model.specs.State.{Kin, QueuedFile, State}
use Rattle.machine_model.specs.Stepping.{expire_step, expired, expiry_of, files_of, same_world, without_files}
use Rattle.machine_model.specs.Valid.{IsValid}
use Rattle.machine_model.specs.View.{is_expired}
use Rattle.machine_model.proofs.Among.{Among, all_among, among_contained, contains_among, keeps, makes}
use Rattle.machine_model.proofs.Drafted.{IsDraft, draft-of-plain, length-numbered, numbers_in_row}
use Rattle.machine_model.proofs.KinSets.{kin_joined}
use Rattle.machine_model.proofs.Numbered.{find-some, found-itself, own-numbers}
use Rattle.machine_model.proofs.Tally.{Each, each-map}
use Rattle.kept_state.proofs.Expiring.{last_event_below}
use Rattle.prov_store.specs.State.{HasBlock}
use Rattle.store_core.specs.Change.{MayExpire}
use Rattle.store_core.specs.Flow as store
use Rattle.store_core.specs.Flow.{flow_in}
use Rattle.store_core.specs.State.{live_contents, queued_active, state_with}
use Rattle.store_core.specs.Store.{kept_by}
use Rattle.store_core.specs.Valid.{KeptIsValid, LiveFilesAreQueued, QueuedFilesAreLive}
use Rattle.store_core.proofs.Sound.{IsSoundIn, each_sound}
use Rattle.engine_change.specs.Committing.{AreEventsUpTo, HasTexts, identity_of}
use Rattle.engine_change.specs.Expiring.{AscendingStay, ExpiriesAreSteps, HaveContents, HeldContentsAreRead, StandsForItsBytes, LeavesExpired, MayExpireIn, expiring_files, expiry_draft, expiry_events}
use Rattle.engine_change.proofs.Each.{all_from_each, each_from_all, each_made}
use Rattle.engine_change.proofs.Fits.{AreFew, FitsAsAny, have_blocks}

-- ---- numbers in their order

-- none of them is below the number
abbrev Leads : ℕ → List ℕ → Type 0
Leads n [] = Unit {0}
Leads n (m ∷ ns) = n ≤ m

abbrev Ascend : List ℕ → Type 0
Ascend [] = Unit {0}
Ascend (n ∷ ns) = Leads n ns × Ascend ns

leads_put : (m n : ℕ) (ns : List ℕ) → m ≤ n → Leads m ns → Leads m (put_ascending n ns)
leads_put m n [] le leads = le
leads_put m n (k ∷ ns) le leads = elim (nat_le n k) as (λ b. Leads m (cond b (n ∷ k ∷ ns) (k ∷ put_ascending n ns))) [ true ↦ le | false ↦ leads ]

put_ascends : (n : ℕ) (ns : List ℕ) → Ascend ns → Ascend (put_ascending n ns)
put_ascends n [] up = (tt, tt)
put_ascends n (m ∷ ns) up =
    elim (cases_Bool (nat_le n m)) [
      | inl t ↦ rw t (leb-true n m t, up)
      | inr f ↦ let lt = leb-false n m f in rw f (leads_put m n ns (omega (arith, lt)) up.0, put_ascends n ns up.1)
    ]

ascending_ascends : (ns : List ℕ) → Ascend (ascending ns)
ascending_ascends [] = tt
ascending_ascends (n ∷ ns) = put_ascends n (ascending ns) (ascending_ascends ns)

put_first : (n : ℕ) (ns : List ℕ) → Leads n ns → put_ascending n ns ≡ n ∷ ns
put_first n [] leads = refl
put_first n (m ∷ ns) leads = let yes : nat_le n m ≡ true = le-leb n m leads in rw yes refl

stays_ascending : (ns : List ℕ) → Ascend ns → ascending ns ≡ ns
stays_ascending [] up = refl
stays_ascending (n ∷ ns) up = ap (put_ascending n) (stays_ascending ns up.1) ∙ put_first n ns up.0

pub ascending_stay : AscendingStay
ascending_stay numbers = stays_ascending (ascending numbers) (ascending_ascends numbers)

-- ---- the live files of the numbers

pub record IsLiveAt (k : Kept) (connection number : ℕ) : Type 0 where
  pub active : ActiveFile
  pub found : active_of number k.files ≡ Some active
  pub there : Among active k.files
  pub place : active.connection ≡ connection
  pub named : active_number active ≡ number

some_same : (x y : ActiveFile) → ◌≡◌ {A = Option ActiveFile} (Some x) (Some y) → x ≡ y
some_same x y is = cc

item_found : (files : List ActiveFile) (number : ℕ) (a : ActiveFile) → active_of number files ≡ Some a → Among a files × (active_number a ≡ number)
item_found [] number a is = absurd cc
item_found (b ∷ files) number a is =
    elim (cases_Bool (active_number b == number)) [
      | inl t ↦ let same : b ≡ a = some_same b a (sym (ap (λ t. cond t (Some b) (active_of number files)) t) ∙ is) in
          (inl same, ap active_number (sym same) ∙ eqb-true (active_number b) number t)
      | inr f ↦ let rest = item_found files number a (sym (ap (λ t. cond t (Some b) (active_of number files)) f) ∙ is) in
          (inr rest.0, rest.1)
    ]

live_at : (k : Kept) (connection number : ℕ) (o : Option ActiveFile) → active_of number k.files ≡ o → is_in_connection connection o ≡ true → IsLiveAt k connection number
live_at k connection number None is within = absurd (false≢true within)
live_at k connection number (Some a) is within =
    let item = item_found k.files number a is in
    record { active = a; found = is; there = item.0; place = eqb-true a.connection connection within; named = item.1 }

first_live : (k : Kept) (connection number : ℕ) (numbers : List ℕ) → are_active_in k.files connection (number ∷ numbers) ≡ true → IsLiveAt k connection number
first_live k connection number numbers are =
    live_at k connection number (active_of number k.files) refl (and_parts (is_in_connection connection (active_of number k.files)) (are_active_in k.files connection numbers) are).0

others_live : (k : Kept) (connection number : ℕ) (numbers : List ℕ) → are_active_in k.files connection (number ∷ numbers) ≡ true → are_active_in k.files connection numbers ≡ true
others_live k connection number numbers are = (and_parts (is_in_connection connection (active_of number k.files)) (are_active_in k.files connection numbers) are).1

pub each_expiring : (k : Kept) (connection : ℕ) (P : ActiveFile → Type 0) → ((n : ℕ) (is : IsLiveAt k connection n) → P is.active) → (numbers : List ℕ) → are_active_in k.files connection numbers ≡ true
    → Each P (expiring_files k numbers)
each_expiring k connection P each [] are = tt
each_expiring k connection P each (n ∷ numbers) are =
    let is = first_live k connection n numbers are in
    subst (λ (o : Option ActiveFile). Each P (cons_option o (expiring_files k numbers))) (sym is.found) (each n is, each_expiring k connection P each numbers (others_live k connection n numbers are))

pub count_expiring : (k : Kept) (connection : ℕ) (numbers : List ℕ) → are_active_in k.files connection numbers ≡ true → length (expiring_files k numbers) ≡ length numbers
count_expiring k connection [] are = refl
count_expiring k connection (n ∷ numbers) are =
    let is = first_live k connection n numbers are in
    ap (λ (o : Option ActiveFile). length (cons_option o (expiring_files k numbers))) is.found ∙ ap suc (count_expiring k connection numbers (others_live k connection n numbers are))

-- ---- distinct numbers

found_any : (n : ℕ) (ns : List ℕ) → is_number_among ns n ≡ list_any (λ m. m == n) ns
found_any n [] = refl
found_any n (m ∷ ns) = elim (cases_Bool (m == n)) [ inl t ↦ rw t refl | inr f ↦ rw f (found_any n ns) ]

pub distinct_same : (ns : List ℕ) → files.are_distinct ns ≡ kept.are_distinct_numbers ns
distinct_same [] = refl
distinct_same (n ∷ ns) = ap (λ b. not b && files.are_distinct ns) (found_any n ns) ∙ ap (λ b. not (list_any (λ m. m == n) ns) && b) (distinct_same ns)

-- ---- the queue of the connection

-- what is kept, as the machine sees it
pub record Seen (contents : ContentRef → List ℕ) (events : List Event) (k : Kept) : Type 0 where
  pub flow : Flow
  pub valid : IsValid flow (state_with contents events k)
  pub consistent : IsConsistent k
  pub queued : LiveFilesAreQueued
  pub live : QueuedFilesAreLive

pub found_active : (a : ActiveFile) (files : List ActiveFile) → AscendsByNumber active_number files → Among a files → active_of (active_number a) files ≡ Some a
found_active a [] ascends there = absurd there
found_active a (b ∷ files) ascends (inl same) =
    let yes : (active_number b == active_number a) ≡ true = eq-eqb (active_number b) (active_number a) (ap active_number same) in
    rw yes (ap (λ (x : ActiveFile). Some x) same)
found_active a (b ∷ files) ascends (inr later) =
    let above : active_number b < active_number a = all_among (λ l. active_number b < active_number l) a files ascends.0 later in
    let other : (active_number b == active_number a) ≡ false = ne_eqb (active_number b) (active_number a) (λ e. omega arith) in
    rw other (found_active a files ascends.1 later)

-- a live file of another connection is none of these
not_named : (ns : List ℕ) (n : ℕ) (place : ℕ) (a : ActiveFile) (files : List ActiveFile) → active_of n files ≡ Some a → a.connection ≢ place → are_active_in files place ns ≡ true → is_number_among ns n ≡ false
not_named [] n place a files found other are = refl
not_named (m ∷ ns) n place a files found other are =
    let parts = and_parts (is_in_connection place (active_of m files)) (are_active_in files place ns) are in
    elim (cases_Bool (m == n)) [
      | inl t ↦
          let here : is_in_connection place (Some a) ≡ true = sym (ap (is_in_connection place) (ap (λ j. active_of j files) (eqb-true m n t) ∙ found)) ∙ parts.0 in
          absurd (other (eqb-true a.connection place here))
      | inr f ↦ rw f (not_named ns n place a files found other parts.1)
    ]

all_pass : {X : Type 0} (test : X → Bool) (xs : List X) → ((x : X) → Among x xs → test x ≡ true) → filter test xs ≡ xs
all_pass test [] each = refl
all_pass test (x ∷ xs) each =
    let here : test x ≡ true = each x (inl refl) in
    rw here (ap (λ rest. x ∷ rest) (all_pass test xs (λ y h. each y (inr h))))

module _ {Q : Type 0} (change : List Q → List Q) where
  all_stay : (queues : List (List Q)) → ((i : ℕ) (q : List Q) → slice_get queues i ≡ Some q → change q ≡ q) → map change queues ≡ queues
  all_stay [] stay = refl
  all_stay (q ∷ queues) stay =
      ap (λ (first : List Q). first ∷ map change queues) (stay 0 q refl) ∙ ap (λ (rest : List (List Q)). q ∷ rest) (all_stay queues (λ i r at. stay (suc i) r at))

  -- where a change leaves each queue but one, that one alone is changed
  one_changes : (queues : List (List Q)) (place : ℕ) → ((i : ℕ) (q : List Q) → slice_get queues i ≡ Some q → i ≢ place → change q ≡ q)
      → map change queues ≡ slice_set queues place (change (unwrap_or (slice_get queues place) []))
  one_changes [] place stay = refl
  one_changes (q ∷ queues) zero stay = ap (λ (rest : List (List Q)). change q ∷ rest) (all_stay queues (λ i r at. stay (suc i) r at (λ e. absurd (omega arith))))
  one_changes (q ∷ queues) (suc place) stay =
      ap (λ (first : List Q). first ∷ map change queues) (stay 0 q refl (λ e. absurd (omega arith)))
      ∙ ap (λ (rest : List (List Q)). q ∷ rest) (one_changes queues place (λ i r at other. stay (suc i) r at (λ e. other (omega arith))))

module _ (contents : ContentRef → List ℕ) (events : List Event) (k : Kept) (seen : Seen contents events k) where
  abbrev state : State
  state = state_with contents events k

  queue_has : (place n : ℕ) (is : IsLiveAt k place n) → Among (queued_active contents is.active) (queue_at state place)
  queue_has place n is =
      among_contained (queued_active contents is.active) (queue_at state place)
      (subst (λ p. Contains (queue_at state p) (queued_active contents is.active)) is.place (seen.queued contents events k is.active seen.consistent (contains_among is.active k.files is.there)))

  queue_file : (place n : ℕ) (is : IsLiveAt k place n) → file_numbered (queue_at state place) n ≡ Some (queued_active contents is.active)
  queue_file place n is =
      ap (file_numbered (queue_at state place)) (sym is.named)
      ∙ found-itself (queue_at state place) (own-numbers seen.flow state place seen.valid) (queued_active contents is.active) (queue_has place n is)

  files_are : (place : ℕ) (numbers : List ℕ) → are_active_in k.files place numbers ≡ true → files_of (queue_at state place) numbers ≡ map (queued_active contents) (expiring_files k numbers)
  files_are place [] are = refl
  files_are place (n ∷ numbers) are =
      let is = first_live k place n numbers are in
      ap (λ (o : Option QueuedFile). cons_option o (files_of (queue_at state place) numbers)) (queue_file place n is)
      ∙ ap (λ (rest : List QueuedFile). queued_active contents is.active ∷ rest) (files_are place numbers (others_live k place n numbers are))
      ∙ sym (ap (λ (o : Option ActiveFile). map (queued_active contents) (cons_option o (expiring_files k numbers))) is.found)

  pub all_active : (place : ℕ) (numbers : List ℕ) → are_active_in k.files place numbers ≡ true → are_active (queue_at state place) numbers ≡ true
  all_active place [] are = refl
  all_active place (n ∷ numbers) are =
      let is = first_live k place n numbers are in
      and_from (is_some (file_numbered (active_files (queue_at state place)) n)) (are_active (queue_at state place) numbers)
      (find-some (λ (file : QueuedFile). file.number == n) (active_files (queue_at state place)) (queued_active contents is.active)
      (keeps is_active (queue_at state place) (queued_active contents is.active) (queue_has place n is) refl) (eq-eqb (active_number is.active) n is.named))
      (all_active place numbers (others_live k place n numbers are))

  -- ---- the other queues

  stays_queued : (place other : ℕ) (numbers : List ℕ) → are_active_in k.files place numbers ≡ true → other ≢ place → (file : QueuedFile) → Among file (queue_at state other) → not (is_number_among numbers file.number) ≡ true
  stays_queued place other numbers are differ file there =
      let live = seen.live contents events k other file (contains_among file (queue_at state other) there) in
      let among = among_contained live.active k.files live.there in
      let found = found_active live.active k.files seen.consistent.numbers among in
      let none = not_named numbers (active_number live.active) place live.active k.files found (λ e. differ (sym live.connection ∙ e)) are in
      ap not (ap (λ (f : QueuedFile). is_number_among numbers f.number) (sym live.is) ∙ none)

  queues_are : (place : ℕ) (numbers : List ℕ) → are_active_in k.files place numbers ≡ true
      → map (λ (queue : List QueuedFile). without_files queue numbers) state.queues ≡ slice_set state.queues place (without_files (queue_at state place) numbers)
  queues_are place numbers are =
      one_changes (λ (queue : List QueuedFile). without_files queue numbers) state.queues place
      (λ i queue at differ.
      let is : queue_at state i ≡ queue = ap (λ (o : Option (List QueuedFile)). unwrap_or o []) at in
      all_pass (λ (file : QueuedFile). not (is_number_among numbers file.number)) queue
      (λ file there. stays_queued place i numbers are differ file (subst (λ (q : List QueuedFile). Among file q) (sym is) there)))

-- ---- the events

content_of : (contents : ContentRef → List ℕ) (k : Kept) (a : ActiveFile) → HaveContents contents k → Among a k.files → StandsForItsBytes contents a.file.content
content_of contents k a have there = all_among (StandsForItsBytes contents) a.file.content (live_contents k) have (makes (λ (b : ActiveFile). b.file.content) k.files a there)

same_draft : (contents : ContentRef → List ℕ) (connection : Connection) (moment : ℕ) (a : ActiveFile) → StandsForItsBytes contents a.file.content
    → expiry_of connection moment (queued_active contents a) ≡ expiry_draft connection.id moment a
same_draft contents connection moment a is =
    let draft : ℕ → List ℕ → Draft = λ size digest. record {
      event = λ number. record {
        number = number;
        kind = kind.Expire;
        moment = moment;
        component = connection.id;
        file = a.file.number;
        parents = [];
        children = [];
        detail = [];
        size = size;
        digest = digest;
      };
      kin = [];
    } in
    ap (λ n. draft n (sha256 (contents a.file.content))) is.size ∙ ap (draft a.file.content.size) is.digest

drafts_are : (contents : ContentRef → List ℕ) (connection : Connection) (moment : ℕ) (all : List ActiveFile) → Each (λ a. StandsForItsBytes contents a.file.content) all
    → map (expiry_of connection moment) (map (queued_active contents) all) ≡ map (expiry_draft connection.id moment) all
drafts_are contents connection moment [] each = refl
drafts_are contents connection moment (a ∷ all) each =
    ap (λ (d : Draft). d ∷ map (expiry_of connection moment) (map (queued_active contents) all)) (same_draft contents connection moment a each.0)
    ∙ ap (λ (ds : List Draft). expiry_draft connection.id moment a ∷ ds) (drafts_are contents connection moment all each.1)

-- the machine's events are these
events_are : (contents : ContentRef → List ℕ) (events : List Event) (k : Kept) → Seen contents events k → (place : ℕ) (connection : Connection) (numbers : List ℕ) (moment : ℕ)
    → HaveContents contents k → are_active_in k.files place numbers ≡ true → ascending numbers ≡ numbers
    → numbered_from (k.last_event + 1) (map (expiry_of connection moment) (files_of (queue_at (state_with contents events k) place) (ascending numbers)))
    ≡ expiry_events connection.id moment k k.last_event numbers
events_are contents events k seen place connection numbers moment have are in_order =
    let queue = queue_at (state_with contents events k) place in
    ap (λ (ns : List ℕ). numbered_from (k.last_event + 1) (map (expiry_of connection moment) (files_of queue ns))) in_order
    ∙ ap (λ (all : List QueuedFile). numbered_from (k.last_event + 1) (map (expiry_of connection moment) all)) (files_are contents events k seen place numbers are)
    ∙ ap (numbered_from (k.last_event + 1))
    (drafts_are contents connection moment (expiring_files k numbers) (each_expiring k place (λ a. StandsForItsBytes contents a.file.content) (λ n is. content_of contents k is.active have is.there) numbers are))

no_kin : (component : List ℕ) (moment first : ℕ) (all : List ActiveFile) → kin_of_all (numbered_from first (map (expiry_draft component moment) all)) ≡ []
no_kin component moment first [] = refl
no_kin component moment first (a ∷ all) = no_kin component moment (first + 1) all

-- ---- the state behind them

queues_after : (contents : ContentRef → List ℕ) (k : Kept) (moment : ℕ) (numbers : List ℕ) (told : List Event) (from : ℕ) (queues : List (List QueuedFile))
    → map (queue_after contents (settled_of_expiry k moment numbers told)) (enumerate_from from queues) ≡ map (λ (queue : List QueuedFile). without_files queue numbers) queues
queues_after contents k moment numbers told from [] = refl
queues_after contents k moment numbers told from (queue ∷ queues) =
    ap (λ (rest : List (List QueuedFile)). without_files queue numbers ∷ rest) (queues_after contents k moment numbers told (from + 1) queues)

pub leaves_expired : (contents : ContentRef → List ℕ) (events : List Event) (k : Kept) → Seen contents events k → (place : ℕ) (connection : Connection) (numbers : List ℕ) (moment : ℕ)
    → HaveContents contents k → are_active_in k.files place numbers ≡ true → ascending numbers ≡ numbers
    → state_after contents (state_with contents events k) (settled_of_expiry k moment numbers (expiry_events connection.id moment k k.last_event numbers))
    ≡ expired (state_with contents events k) place connection numbers moment
leaves_expired contents events k seen place connection numbers moment have are in_order =
    let state = state_with contents events k in
    let told = expiry_events connection.id moment k k.last_event numbers in
    let made : List (List QueuedFile) → List Event → Kin → ℕ → State = λ queues all kin last. record {
      store = k.store;
      line = state.line;
      queues = queues;
      events = all;
      kin = kin;
      next_number = k.next_number;
      next_arrival = k.next_arrival;
      next_batch = k.next_batch;
      last_event = last;
      counts = k.counts;
    } in
    let queues = queues_after contents k moment numbers told 0 state.queues ∙ queues_are contents events k seen place numbers are in
    let kin : ◌≡◌ {A = Kin} (union (from_list (kin_of_all events)) (from_list (kin_of_all told))) (from_list (kin_of_all events)) =
    kin_joined (kin_of_all events) (kin_of_all told)
    ∙ ap {B = Kin} from_list (ap (λ (more : List (ℕ × ℕ × ℕ)). kin_of_all events ++ more) (no_kin connection.id moment (k.last_event + 1) (expiring_files k numbers)) ∙ append-nil (kin_of_all events)) in
    let after = slice_set state.queues place (without_files (queue_at state place) numbers) in
    let drafts = map (expiry_of connection moment) (files_of (queue_at state place) (ascending numbers)) in
    let same = events_are contents events k seen place connection numbers moment have are in_order in
    let many : length told ≡ length drafts = ap length (sym same) ∙ length-numbered (k.last_event + 1) drafts in
    ap (λ (qs : List (List QueuedFile)). made qs (events ++ told) (union (from_list (kin_of_all events)) (from_list (kin_of_all told))) (k.last_event + length told)) queues
    ∙ ap (λ (kin : Kin). made after (events ++ told) kin (k.last_event + length told)) kin
    ∙ ap (λ (es : List Event). made after (events ++ es) (from_list (kin_of_all events)) (k.last_event + length told)) (sym same)
    ∙ ap (λ n. made after (events ++ numbered_from (k.last_event + 1) drafts) (from_list (kin_of_all events)) (k.last_event + n)) many

-- ---- what the machine sees

pub connections_same : (flow : Flow) (k : Kept) → flow_in k ≡ identity_of flow → length k.connections ≡ length flow.connections
connections_same flow k same = ap (λ (f : store.Flow). length f.connections) same ∙ length-map flow.connections (λ (connection : Connection). connection.id)

pub counts_same : (flow : Flow) (k : Kept) → flow_in k ≡ identity_of flow → length k.counts ≡ length flow.processors
counts_same flow k same = ap (λ (f : store.Flow). f.processors) same

pub seen_by : KeptIsValid → LiveFilesAreQueued → QueuedFilesAreLive → (flow : Flow) (contents : ContentRef → List ℕ) (events : List Event) (k : Kept) → IsConsistent k → k.batches ≡ [] → flow_in k ≡ identity_of flow
    → AreEventsUpTo k.last_event events → Seen contents events k
seen_by valid queued live flow contents events k was none same up_to = record {
  flow = flow;
  valid = valid flow contents events k was none up_to.1 up_to.0 (connections_same flow k same) (counts_same flow k same);
  consistent = was;
  queued = queued;
  live = live;
}

-- ---- the step

pub expiry_steps : KeptIsValid → LiveFilesAreQueued → QueuedFilesAreLive → ExpiriesAreSteps
expiry_steps valid queued live flow world contents events k place connection numbers moment was none same up_to at may some passes =
    let state = state_with contents events k in
    let seen = seen_by valid queued live flow contents events k was none same up_to in
    let left = list_all (is_expired connection.limits.expiration moment) (map view_of (files_of (queue_at state place) numbers)) in
    let a : nat_lt 0 (length numbers) ≡ true = lt-ltb 0 (length numbers) some in
    let b : files.are_distinct numbers ≡ true = distinct_same numbers ∙ may.distinct in
    let d : are_active (queue_at state place) numbers ≡ true = all_active contents events k seen place numbers may.active in
    let all : (nat_lt 0 (length numbers) && files.are_distinct numbers && are_active (queue_at state place) numbers && left) ≡ true =
    and_from (nat_lt 0 (length numbers) && files.are_distinct numbers && are_active (queue_at state place) numbers) left
    (and_from (nat_lt 0 (length numbers) && files.are_distinct numbers) (are_active (queue_at state place) numbers) (and_from (nat_lt 0 (length numbers)) (files.are_distinct numbers) a b) d) passes in
    ap (λ (o : Option Connection). same_world world (option_and_then (expire_step state place numbers moment) o)) at
    ∙ ap (λ (b : Bool). same_world world (cond b (Some (expired state place connection numbers moment)) None)) all

-- ---- the change

abbrev drafts_of : (component : List ℕ) → (moment : ℕ) → Kept → List ℕ → List Draft
drafts_of component moment k numbers = map (expiry_draft component moment) (expiring_files k numbers)

fits_any : (k : Kept) (component : List ℕ) (moment : ℕ) (a : ActiveFile) → moment < 2 ^ 64 → length component ≤ ID_MAX → IsFileIn k a → FitsAsAny (expiry_draft component moment a)
fits_any k component moment a short id is n =
    let none : AreFew [] = record { each = tt; few = omega arith } in
    let size = is.encoded.file.content.size in
    record {
      moment = short;
      component = id;
      first_file = is.encoded.file.first_number;
      file = is.encoded.file.number;
      parents = none;
      children = none;
      detail = omega arith;
      size = omega (arith, size);
      digest = is.encoded.file.content.digest;
    }

told_count : (component : List ℕ) (moment : ℕ) (k : Kept) (place : ℕ) (numbers : List ℕ) → are_active_in k.files place numbers ≡ true
    → (length (drafts_of component moment k numbers) ≡ length numbers) × (length (expiry_events component moment k k.last_event numbers) ≡ length numbers)
told_count component moment k place numbers are =
    let all : length (drafts_of component moment k numbers) ≡ length numbers = length-map (expiring_files k numbers) (expiry_draft component moment) ∙ count_expiring k place numbers are in
    (all, length-numbered (k.last_event + 1) (drafts_of component moment k numbers) ∙ all)

pub may_expire : (flow : Flow) (k : Kept) (place : ℕ) (component : List ℕ) (numbers : List ℕ) (moment : ℕ) → IsConsistent k → MayExpireIn flow k place numbers → moment < 2 ^ 64 → length component ≤ ID_MAX
    → All HasTexts (expiry_events component moment k k.last_event numbers)
    → MayExpire k (record { connection = place; settled = settled_of_expiry k moment numbers (expiry_events component moment k k.last_event numbers) })
may_expire flow k place component numbers moment was may short id texts =
    let told = expiry_events component moment k k.last_event numbers in
    let drafts = drafts_of component moment k numbers in
    let count = told_count component moment k place numbers may.active in
    let honest = each-map IsDraft (expiry_draft component moment) (expiring_files k numbers) (λ a. draft-of-plain (expiry_draft component moment a) (record { number = λ n. refl; named = λ n. refl; kin = refl })) in
    record {
      expires = record {
        as_session = refl;
        moment = short;
        fits = and_from (kept.are_distinct_numbers numbers && are_active_in k.files place numbers) (k.last_event + length told == k.last_event + length numbers)
            (and_from (kept.are_distinct_numbers numbers) (are_active_in k.files place numbers) may.distinct may.active)
            (eq-eqb (k.last_event + length told) (k.last_event + length numbers) (ap (λ n. k.last_event + n) count.1));
      };
      numbered = numbers_in_row (k.last_event + 1) drafts honest;
      events = λ none.
          let last = last_event_below (session_applied k (session_entry k (settled_of_expiry k moment numbers told))) none in
          all_from_each HasBlock told
          (have_blocks (k.last_event + 1) drafts (omega arith) (omega (arith, last, count.0, count.1)) honest
          (each_made (IsFileIn k) FitsAsAny (expiry_draft component moment) (λ a is. fits_any k component moment a short id is) (expiring_files k numbers)
          (each_expiring k place (IsFileIn k) (λ n is. all_among (IsFileIn k) is.active k.files was.files is.there) numbers may.active))
          (each_from_all HasTexts told texts));
    }

-- the settled session that is made of what a store keeps
pub session_is : (k l : Kept) (moment : ℕ) (numbers : List ℕ) (placed : List Placed) (all told : List Event) → l ≡ k → placed ≡ [] → all ≡ told
    → settled_of_expiry k moment numbers told
    ≡ (record { processor = 0; moment = moment; gone = numbers; placed = placed; events = all; next_number = l.next_number; next_arrival = l.next_arrival; count = None })
session_is k l moment numbers placed all told kept none are =
    let made : Kept → List Placed → List Event → Settled = λ by ps es. record {
      processor = 0;
      moment = moment;
      gone = numbers;
      placed = ps;
      events = es;
      next_number = by.next_number;
      next_arrival = by.next_arrival;
      count = None;
    } in
    sym (ap (λ (by : Kept). made by placed all) kept ∙ ap (λ (ps : List Placed). made k ps all) none ∙ ap (made k []) are)

pub behind : KeptIsValid → LiveFilesAreQueued → QueuedFilesAreLive → (flow : Flow) (k : Kept) (place : ℕ) (component : List ℕ) (numbers : List ℕ) (moment : ℕ) → IsConsistent k → k.batches ≡ [] → flow_in k ≡ identity_of flow
    → MayExpireIn flow k place numbers → ((connection : Connection) → slice_get flow.connections place ≡ Some connection → component ≡ connection.id)
    → LeavesExpired flow k place numbers moment (settled_of_expiry k moment numbers (expiry_events component moment k k.last_event numbers))
behind valid queued live flow k place component numbers moment was none same may id connection at contents have events up_to =
    let state = state_with contents events k in
    ap (λ (c : List ℕ). state_after contents state (settled_of_expiry k moment numbers (expiry_events c moment k k.last_event numbers))) (id connection at)
    ∙ leaves_expired contents events k (seen_by valid queued live flow contents events k was none same up_to) place connection numbers moment have may.active may.in_order

-- ---- events one after the other

-- those of the first numbers are told, and those of the others follow
pub record IsTold (component : List ℕ) (moment : ℕ) (k : Kept) (numbers : List ℕ) (done last : ℕ) (told : List Event) : Type 0 where
  pub counted : last ≡ k.last_event + done
  pub active : moves.are_all_active k.files (drop done numbers) ≡ true
  pub whole : told ++ expiry_events component moment k last (drop done numbers) ≡ expiry_events component moment k k.last_event numbers

-- ---- contents that are held

held_content : (files : Files) (at : ContentRef) → IsSoundIn files at → StandsForItsBytes (content_in files) at
held_content files at sound =
    let bytes = files (claim at.slot) in
    let covered = sound.covered in
    record {
      size = length-take-le at.size (drop at.offset bytes) (omega (arith, covered, length-drop at.offset bytes));
      digest = sound.digest;
    }

pub held_read : HeldContentsAreRead
held_read s files holds = All-weaker (IsSoundIn files) (StandsForItsBytes (content_in files)) (held_content files) (live_contents (kept_by s)) (each_sound files (live_contents (kept_by s)) holds.contents)
