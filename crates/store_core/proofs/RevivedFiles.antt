-- What files keep once their log is mended or made, and once their claims are cut.
use Rattle.std.proofs.Common.{◌≡◌, ◌⊎◌, ⊎_elim, inl, inr, ℕ, ◌+◌, ◌-◌, ◌^◌, ◌<◌, ◌≤◌, min, ltb, Bool, true, false, IsTrue, List, [], length, get_or, refl, sym, ap, subst, ◌∙◌, arith}
use Rattle.std.specs.Prelude.{Option, Some, None, Result, Ok, Err, All, option_map, nat_le, nat_lt, ◌&&◌}
use Rattle.std.proofs.lemmas.Bool.{le-leb}
use Rattle.std.proofs.lemmas.List.{nil_from_length, length-map}
use Rattle.std.proofs.lemmas.List.Elements.{All-nil}
use Rattle.disk_trait.specs.Files.{Files, Shortened, named}
use Rattle.disk_trait.specs.Images.{After, Since, IsOnly}
use Rattle.disk_trait.specs.Search.{least_below}
use Rattle.disk_trait.specs.declared.damage.Damage.{Damage}
use Rattle.disk_trait.specs.declared.file_name.FileKind.{FileKind}
use Rattle.disk_trait.specs.declared.file_name.FileKind.TheVariants.{Log, Snapshot, Swap, Claim, Events}
use Rattle.disk_trait.specs.declared.file_name.FileName.{FileName}
use Rattle.disk_trait.proofs.Moments.{wider_where_left, one_after_another, at_the_end}
use Rattle.disk_trait.proofs.Search.{least_found}
use Rattle.flowfile_record.specs.Stored.{Kept}
use Rattle.flowfile_record.specs.declared.content.ContentRef.{ContentRef}
use Rattle.flowfile_record.specs.declared.event.Event.{Event}
use Rattle.flowfile_record.specs.declared.limits.TheConstants.{LIVE_FILES_MAX}
use Rattle.flowfile_record.specs.declared.stored.ActiveFile.{ActiveFile}
use Rattle.checkpoint_store.specs.Consistent.{IsConsistent}
use Rattle.content_repo.specs.Claims.{content_in, IsCovered, HasSizes, ShortenedTo}
use Rattle.content_repo.specs.declared.slot.Slot.{Slot}
use Rattle.content_repo.specs.Slots.{covered, count_of, size_of, held_in, end_of, references_to, IsNamed}
use Rattle.flowfile_wal.specs.Calls.{InEach}
use Rattle.flowfile_wal.specs.Current.{CurrentLog, current_log, current_number, log_of_number, of_some}
use Rattle.flowfile_wal.specs.Steps.{IsReadyIn, numbered_log}
use Rattle.machine_model.specs.State.{State}
use Rattle.prov_store.specs.Events.{events_in}
use Rattle.prov_store.specs.State.{EventsState, HasEvents, HasStale, CutsStale, SameEvents}
use Rattle.prov_store.specs.declared.events.Stale.{Stale}
use Rattle.store_core.specs.Agreement.{Needs, IsPlain, Agrees, SameContent, SameEventFiles, IsUnmade}
use Rattle.store_core.specs.Flow.{Flow, flow_in, agrees_with}
use Rattle.store_core.specs.Found.{StoreIsFoundIn}
use Rattle.store_core.specs.Kept.{kept_in}
use Rattle.store_core.specs.New.{holds_from, first_from, file_or, first_stray, kept_anew, unless_stray}
use Rattle.store_core.specs.Opened.{IsReadWhole, IsNewStore, SameMeaning}
use Rattle.store_core.specs.State.{contents_damage, live_contents}
use Rattle.store_core.specs.Store.{StoreState, kept_by, live_in, FilesHold, HasLog, IsWorking}
use Rattle.store_core.specs.declared.reading.Found.{Found}
use Rattle.store_core.proofs.Agreeing.{kept_alike, contents_sound, same_state, agreeing_kept}
use Rattle.store_core.proofs.ClaimsAlone.{current_stays, snapshot_stays, has_log_still}
use Rattle.store_core.proofs.EventsAlone.{contents_stay, claim_stays, current_stays as current_beside, snapshot_stays as snapshot_beside, has_log_still as log_beside}
use Rattle.store_core.proofs.EventsStay.{events_in_turn, same_covered, has_same, stale_same, has_trimmed, none_covered, says_still, has_still, cut_covers, since_none}
use Rattle.store_core.proofs.KeptRead.{kept_by_no_log, own_flow}
use Rattle.store_core.proofs.Made.{first_log, made_current, made_kept}
use Rattle.store_core.proofs.Making.{kept_unmade}
use Rattle.store_core.proofs.Opening.{stands_whole, plain_needs, plain, needed, cut_contents, covered_end, same_events_cut}
use Rattle.store_core.proofs.Reviving.{since_events, since_events_in_turn}
use Rattle.store_core.proofs.Sound.{each_sound}

abbrev of_state : State → Result State Damage
of_state s = Ok s

abbrev of_kept : Kept → Result Kept Damage
of_kept k = Ok k

abbrev pub of_log : Option CurrentLog → Result (Option CurrentLog) Damage
of_log log = Ok log

-- ---- no store stands there

of_some_some : (r : Result CurrentLog Damage) → of_some r ≡ of_log None → ⊥
of_some_some (Ok log) is = absurd cc
of_some_some (Err damage) is = absurd cc

by_number : (files : Files) (n : Option ℕ) → log_of_number files n ≡ of_log None → n ≡ None
by_number files None is = refl
by_number files (Some n) is = absurd (of_some_some _ is)

pub no_number : (files : Files) → current_log files ≡ of_log None → current_number files ≡ None
unfolding current_log
no_number files is = by_number files (current_number files) is

neither : (one other : Option FileName) → file_or one other ≡ None → (one ≡ None) × (other ≡ None)
neither None other is = (refl, is)
neither (Some file) other is = absurd cc

unmapped : (kind : FileKind) (o : Option ℕ) → option_map (named kind) o ≡ None → o ≡ None
unmapped kind None is = refl
unmapped kind (Some n) is = absurd cc

second_fails : (a b : Bool) → a ≡ true → (a && b) ≡ false → b ≡ false
second_fails true b is h = h
second_fails false b is h = absurd cc

not_below : (m n : ℕ) → ltb m n ≡ false → n ≤ m
not_below m n is = grind arith

all_empty : (kind : FileKind) (from : ℕ) (files : Files) → first_from kind from files ≡ None → (n : ℕ) → from ≤ n → n < 2 ^ 64 → files (named kind n) ≡ []
all_empty kind from files is n le lt =
    let fails = (least_found (holds_from kind from files) (2 ^ 64)).none (unmapped kind (least_below (holds_from kind from files) (2 ^ 64)) is) n lt in
    let short = not_below 0 (length (files (named kind n))) (second_fails (nat_le from n) (nat_lt 0 (length (files (named kind n)))) (le-leb from n le) fails) in
    nil_from_length (files (named kind n)) (omega (arith, short))

record NoneFrom (files : Files) : Type 0 where
  pub logs : first_from Log 2 files ≡ None
  pub snapshots : first_from Snapshot 2 files ≡ None
  pub swaps : first_from Swap 0 files ≡ None
  pub claims : first_from Claim 0 files ≡ None
  pub events : first_from Events 0 files ≡ None

none_from : (files : Files) → first_stray files ≡ None → NoneFrom files
unfolding first_stray
none_from files is =
    let a = neither (first_from Log 2 files) _ is in
    let b = neither (first_from Snapshot 2 files) _ a.1 in
    let c = neither (first_from Swap 0 files) _ b.1 in
    let d = neither (first_from Claim 0 files) (first_from Events 0 files) c.1 in
    record { logs = a.0; snapshots = b.0; swaps = c.0; claims = d.0; events = d.1 }

unmade_by : (files : Files) → current_log files ≡ of_log None → first_stray files ≡ None → IsUnmade files
unmade_by files log stray =
    let none = none_from files stray in
    record {
      log = no_number files log;
      logs = λ n up lt. all_empty Log 2 files none.logs n (omega (arith, up)) lt;
      snapshots = λ n up lt. all_empty Snapshot 2 files none.snapshots n (omega (arith, up)) lt;
      swaps = λ n lt. all_empty Swap 0 files none.swaps n (omega arith) lt;
      claims = λ n lt. all_empty Claim 0 files none.claims n (omega arith) lt;
      events = λ n lt. all_empty Events 0 files none.events n (omega arith) lt;
    }

not_stray : (flow : Flow) (lot : ℕ) (o : Option FileName) (k : Kept) → unless_stray flow lot o ≡ of_kept k → o ≡ None
not_stray flow lot None k is = refl
not_stray flow lot (Some file) k is = absurd cc

-- where no log is current, what is kept is that of no store
unmade_read : (flow : Flow) (lot : ℕ) (files : Files) (k : Kept) → current_log files ≡ of_log None → kept_in flow lot files ≡ of_kept k → IsUnmade files
unmade_read flow lot files k log is =
    unmade_by files log (not_stray flow lot (first_stray files) k (sym (kept_by_no_log flow lot files log) ∙ is))

pub unmade_found : (lot : ℕ) (files : Files) (found : Found) → found.log.number ≡ None → StoreIsFoundIn (flow_in found.state.kept) lot files found → IsUnmade files
unmade_found lot files found none is =
    unmade_read (flow_in found.state.kept) lot files found.state.kept
    (is.current ∙ ap (λ (o : Option ℕ). of_log (numbered_log o found.log.version is.entries found.log.end)) none) is.kept

-- ---- what is kept still

-- files that keep what was read, with its contents and events
pub record StillKeep (flow : Flow) (lot : ℕ) (k : Kept) (held c : Files) : Type 0 where
  pub kept : kept_in flow lot c ≡ Ok k
  pub same : All (SameContent held c) (live_contents k)
  pub events : SameEvents 0 k.last_event held c

pub still_means : (flow : Flow) (lot : ℕ) (k : Kept) (events : List Event) (held c : Files) → kept_in flow lot held ≡ Ok k → contents_damage held (live_contents k) ≡ None
    → events_in held 0 k.last_event ≡ Ok events → StillKeep flow lot k held c → SameMeaning flow lot held c
still_means flow lot k events held c is sound says still = record {
  kept = still.kept ∙ sym is;
  state =
      stands_whole flow lot c k events still.kept (contents_sound held c (live_contents k) still.same sound) (says_still 0 k.last_event held c events still.events says)
      ∙ ap of_state (same_state (content_in c) (content_in held) events k (λ i d lt. (still.same i d lt).bytes))
      ∙ sym (stands_whole flow lot held k events is sound says);
}

agreeing_keeps : (flow : Flow) (lot : ℕ) (k : Kept) (held c : Files) (log : CurrentLog) → current_log held ≡ Ok (Some log) → kept_in flow lot held ≡ Ok k
    → Agrees (plain_needs log.number k) held c → StillKeep flow lot k held c
agreeing_keeps flow lot k held c log current is agrees = record {
  kept = agreeing_kept flow lot (plain_needs log.number k) held c (needed flow lot held log k current is) agrees ∙ is;
  same = agrees.contents;
  events = agrees.events;
}

none_live : (flow : Flow) (lot : ℕ) (k : Kept) (held c : Files) → k ≡ kept_anew flow lot → All (SameContent held c) (live_contents k)
none_live flow lot k held c anew = subst (λ (x : Kept). All (SameContent held c) (live_contents x)) (sym anew) (All-nil (SameContent held c))

none_covers : (flow : Flow) (lot : ℕ) (k : Kept) (held c : Files) → k ≡ kept_anew flow lot → SameEvents 0 k.last_event held c
none_covers flow lot k held c anew =
    subst (λ (x : Kept). SameEvents 0 x.last_event held c) (sym anew) (λ n. none_covered n c ∙ sym (none_covered n held))

made_or_not_keeps : (flow : Flow) (lot : ℕ) (k : Kept) (held c : Files) → k ≡ kept_anew flow lot → IsConsistent k → IsUnmade c ⊎ IsNewStore k c → StillKeep flow lot k held c
made_or_not_keeps flow lot k held c anew consistent (inl unmade) = record {
  kept = kept_unmade flow lot c unmade ∙ ap of_kept (sym anew);
  same = none_live flow lot k held c anew;
  events = none_covers flow lot k held c anew;
}
made_or_not_keeps flow lot k held c anew consistent (inr made) = record {
  kept = made_kept flow lot k c made consistent (ap (λ (x : Kept). x.batches) anew) (ap (agrees_with flow) anew ∙ own_flow flow lot);
  same = none_live flow lot k held c anew;
  events = none_covers flow lot k held c anew;
}

cut_keeps : (s : StoreState) (flow : Flow) (lot : ℕ) (k : Kept) (held d c : Files) (refs : List ContentRef) → refs ≡ live_contents k → HasLog s d → StillKeep flow lot k held d
    → ShortenedTo (λ n. covered n refs) d c → StillKeep flow lot k held c
cut_keeps s flow lot k held d c refs live has still step =
    let log = has.ready.log in
    let current = has.ready.ready.current in
    let same : All (SameContent d c) (live_contents k) = subst (λ (cs : List ContentRef). All (SameContent d c) cs) live (cut_contents refs d c step) in
    record {
      kept =
          kept_alike flow lot d c log current (current_stays d c step.others ∙ current) (snapshot_stays d c step.others log.number)
          ∙ still.kept;
      same = λ i e lt. record {
        bytes = (same i e lt).bytes ∙ (still.same i e lt).bytes;
        covered = λ h. (same i e lt).covered ((still.same i e lt).covered h);
      };
      events = events_in_turn 0 k.last_event held d c still.events (same_covered 0 k.last_event d c (same_events_cut (λ n. Shortened (covered n refs)) d c step));
    }

trim_keeps : (s : StoreState) (flow : Flow) (lot : ℕ) (k : Kept) (events : EventsState) (held d c : Files) → events.line ≡ 0 → events.end ≡ k.last_event → HasLog s d → HasEvents events d → HasStale events d
    → StillKeep flow lot k held d → CutsStale events.stale d c → StillKeep flow lot k held c
trim_keeps s flow lot k events held d c line end has known stale still step =
    let log = has.ready.log in
    let current = has.ready.ready.current in
    let same : All (SameContent d c) (live_contents k) = contents_stay d c (live_contents k) step.others in
    record {
      kept =
          kept_alike flow lot d c log current (current_beside d c step.others ∙ current) (snapshot_beside d c step.others log.number)
          ∙ still.kept;
      same = λ i e lt. record {
        bytes = (same i e lt).bytes ∙ (still.same i e lt).bytes;
        covered = λ h. (same i e lt).covered ((still.same i e lt).covered h);
      };
      events = events_in_turn 0 k.last_event held d c still.events (subst (λ (last : ℕ). SameEvents 0 last d c) end (subst (λ (n : ℕ). SameEvents n events.end d c) line (cut_covers events d c known stale step)));
    }

-- the contents that are kept are covered
pub still_covered : (flow : Flow) (lot : ℕ) (k : Kept) (held c : Files) → contents_damage held (live_contents k) ≡ None → StillKeep flow lot k held c → All (IsCovered c) (live_contents k)
still_covered flow lot k held c sound still = λ i d lt. (each_sound c (live_contents k) (contents_sound held c (live_contents k) still.same sound) i d lt).covered

counted : (count : ℕ) (c : Files) (log : CurrentLog) → current_log c ≡ of_log (Some log) → count ≡ length log.entries → count < 2 ^ 64
    → (other : CurrentLog) → current_log c ≡ of_log (Some other) → count ≡ min (length other.entries) (2 ^ 64 - 1)
counted count c log is count_is lt other also =
    let both : of_log (Some log) ≡ of_log (Some other) = sym is ∙ also in
    let same : log ≡ other = cc in
    omega (arith, count_is, ap (λ (l : CurrentLog). length l.entries) same, lt)

-- ---- the calls

some_or_none : (o : Option ℕ) → ((n : ℕ) × (o ≡ Some n)) ⊎ (o ≡ None)
some_or_none (Some n) = inl (n, refl)
some_or_none None = inr refl

module _ {D : Type 0} (tells : Bool) (holds : D → Files) (moment : D → ℕ) (images : D → ℕ → Files → Type 0)
    (told : (disk : D) (k : ℕ) (c : Files) → images disk k c → IsTrue tells) (lot : ℕ) (found : Found) (events : EventsState) (start mid : D)
    (only : IsOnly (holds start) (images start (moment start))) (whole : IsReadWhole tells lot (holds start) found events)
    (mended : (number : ℕ) (needs : Needs) → found.log.number ≡ Some number → IsPlain needs number → Since moment images start mid (After (Agrees needs) (images start (moment start))))
    (made : found.log.number ≡ None → Since moment images start mid (λ c. IsUnmade c ⊎ IsNewStore found.state.kept c))
    (stay : Since moment images start mid (After SameEventFiles (images start (moment start)))) where
  abbrev keep : Kept
  keep = found.state.kept

  abbrev flow : Flow
  flow = flow_in found.state.kept

  abbrev held : Files
  held = holds start

  abbrev pub Still : Files → Type 0
  Still c = StillKeep (flow_in found.state.kept) lot found.state.kept (holds start) c

  abbrev log_of : (number : ℕ) → IsTrue tells → CurrentLog
  log_of number t = record { number = number; version = found.log.version; entries = (whole.told t).entries; end = found.log.end }

  current_of : (number : ℕ) → found.log.number ≡ Some number → (t : IsTrue tells) → current_log held ≡ of_log (Some (log_of number t))
  current_of number is t = (whole.told t).current ∙ ap (λ (o : Option ℕ). of_log (numbered_log o found.log.version (whole.told t).entries found.log.end)) is

  agreed : (number : ℕ) (c : Files) → After (Agrees (plain_needs number keep)) (images start (moment start)) c → Agrees (plain_needs number keep) held c
  agreed number c after = subst (λ (d : Files). Agrees (plain_needs number keep) d c) (only after.0 after.1) after.2

  -- while the log is mended or made
  pub since_still : Since moment images start mid Still
  since_still = ⊎_elim
      (λ (some : (n : ℕ) × (found.log.number ≡ Some n)).
      wider_where_left moment images start mid (After (Agrees (plain_needs some.0 keep)) (images start (moment start))) Still (mended some.0 (plain_needs some.0 keep) some.1 (plain some.0 keep))
      (λ k c left after.
      let t = told mid k c left in
      agreeing_keeps flow lot keep held c (log_of some.0 t) (current_of some.0 some.1 t) (whole.told t).kept (agreed some.0 c after)))
      (λ (none : found.log.number ≡ None).
      wider_where_left moment images start mid (λ c. IsUnmade c ⊎ IsNewStore keep c) Still (made none)
      (λ k c left either. made_or_not_keeps flow lot keep held c (whole.anew none) whole.consistent either))
      (some_or_none found.log.number)

  says_held : (t : IsTrue tells) → events_in held 0 keep.last_event ≡ Ok (whole.events t).events
  says_held t = since_none held events keep.last_event whole.line (sym whole.last_event) ∙ (whole.events t).says

  since_means : (new : D) → Since moment images start new Still → Since moment images start new (SameMeaning flow lot held)
  since_means new since = wider_where_left moment images start new Still (SameMeaning flow lot held) since
      (λ k c left still. let t = told new k c left in still_means flow lot keep (whole.events t).events held c (whole.told t).kept (whole.contents t) (says_held t) still)

  pub means_mid : Since moment images start mid (SameMeaning flow lot held)
  means_mid = since_means mid since_still

  module _ (s : StoreState) (entries_are : s.entries ≡ found.entries)
      (ready : InEach (images mid (moment mid)) (IsReadyIn s.log)) (is_made : found.log.number ≡ None → InEach (images mid (moment mid)) (IsNewStore found.state.kept)) where
    -- once it is
    pub mid_log : InEach (images mid (moment mid)) (HasLog s)
    mid_log c left = record {
      ready = ready c left;
      entries = ⊎_elim
          (λ (some : (n : ℕ) × (found.log.number ≡ Some n)).
          let t = told mid (moment mid) c left in
          let agrees = agreed some.0 c (at_the_end moment images start mid (After (Agrees (plain_needs some.0 keep)) (images start (moment start))) (mended some.0 (plain_needs some.0 keep) some.1 (plain some.0 keep)) c left) in
          counted s.entries c (log_of some.0 t) (agrees.log ∙ current_of some.0 some.1 t) (entries_are ∙ (whole.told t).count) (subst (λ (n : ℕ). n < 2 ^ 64) (sym entries_are) whole.small))
          (λ (none : found.log.number ≡ None).
          counted s.entries c first_log (made_current keep c (is_made none c left)).current (entries_are ∙ whole.empty none) (subst (λ (n : ℕ). n < 2 ^ 64) (sym entries_are) whole.small))
          (some_or_none found.log.number);
    }

    module _ (new : D) (refs : List ContentRef) (live : refs ≡ live_contents found.state.kept)
        (cut : Since moment images mid new (After (ShortenedTo (λ n. covered n refs)) (images mid (moment mid)))) where
      still_cut : (c : Files) → After (ShortenedTo (λ n. covered n refs)) (images mid (moment mid)) c → Still c
      still_cut c after = cut_keeps s flow lot keep held after.0 c refs live (mid_log after.0 after.1) (at_the_end moment images start mid Still since_still after.0 after.1) after.2

      since_cut : Since moment images start new Still
      since_cut = one_after_another moment images start mid new Still (After (ShortenedTo (λ n. covered n refs)) (images mid (moment mid))) Still since_still cut (λ c still. still) still_cut

      pub means_new : Since moment images start new (SameMeaning flow lot held)
      means_new = since_means new since_cut

      new_log : InEach (images new (moment new)) (HasLog s)
      new_log c left =
          let after = at_the_end moment images mid new (After (ShortenedTo (λ n. covered n refs)) (images mid (moment mid))) cut c left in
          has_log_still s after.0 c after.2.others (mid_log after.0 after.1)

      -- once the claims are cut
      events_new : InEach (images new (moment new)) (SameEventFiles (holds start))
      events_new c left =
          let step = ShortenedTo (λ n. covered n refs) in
          let since = since_events_in_turn moment images start mid new stay (since_events moment images mid new step cut (λ d e. same_events_cut (λ n. Shortened (covered n refs)) d e)) in
          let after = at_the_end moment images start new (After SameEventFiles (images start (moment start))) since c left in
          subst (λ (d : Files). SameEventFiles d c) (only after.0 after.1) after.2

      pub events_known : (c : Files) → images new (moment new) c → IsTrue tells → HasEvents events c × HasStale events c
      events_known c left t = (has_same events held c (events_new c left) (whole.events t), stale_same events held c (events_new c left) (whole.stale t))

      module _ (end : D) (trim : Since moment images new end (After (CutsStale events.stale) (images new (moment new)))) where
        still_trim : (c : Files) → After (CutsStale events.stale) (images new (moment new)) c → Still c
        still_trim c after =
            let t = told new (moment new) after.0 after.1 in
            let known = events_known after.0 after.1 t in
            trim_keeps s flow lot keep events held after.0 c whole.line whole.last_event (new_log after.0 after.1) known.0 known.1 (at_the_end moment images start new Still since_cut after.0 after.1) after.2

        since_trim : Since moment images start end Still
        since_trim = one_after_another moment images start new end Still (After (CutsStale events.stale) (images new (moment new))) Still since_cut trim (λ c still. still) still_trim

        pub means_end : Since moment images start end (SameMeaning flow lot held)
        means_end = since_means end since_trim

        -- once the events are trimmed
        pub end_holds : (rest : List Stale) → s.events ≡ record events { stale = rest } → kept_by s ≡ found.state.kept → s.lot ≡ lot → InEach (images end (moment end)) (FilesHold s)
        end_holds rest events_are kept lot_is c left =
            let t = told end (moment end) c left in
            let still = at_the_end moment images start end Still since_trim c left in
            let known = has_still events held c
            (subst (λ (n : ℕ). SameEvents n events.end held c) (sym whole.line) (subst (λ (last : ℕ). SameEvents 0 last held c) (sym whole.last_event) still.events)) (whole.events t) in
            record {
              kept =
                  ap (λ (k : Kept). kept_in (flow_in k) s.lot c) kept ∙ ap (λ (l : ℕ). kept_in flow l c) lot_is ∙ still.kept ∙ ap of_kept (sym kept);
              contents = ap (λ (k : Kept). contents_damage c (live_contents k)) kept ∙ contents_sound held c (live_contents keep) still.same (whole.contents t);
              events = subst (λ (e : EventsState). HasEvents e c) (sym events_are) (has_trimmed events rest c known);
              line = ap (λ (e : EventsState). e.line) events_are ∙ whole.line;
            }

        pub end_log : InEach (images end (moment end)) (HasLog s)
        end_log c left =
            let after = at_the_end moment images new end (After (CutsStale events.stale) (images new (moment new))) trim c left in
            log_beside s after.0 c after.2.others (new_log after.0 after.1)

pub sizes_trimmed : (stale : List Stale) (slots : List Slot) (old new : Files) → CutsStale stale old new → HasSizes slots old → HasSizes slots new
sizes_trimmed stale slots old new cuts sizes k = ap length (claim_stays old new cuts.others k) ∙ sizes k

-- ---- what is in memory

pub working : (s : StoreState) (refs : List ContentRef) → s.log.failed ≡ false → (kept_by s).last_event ≡ s.events.end → s.opened ≡ live_in s → refs ≡ s.opened → All IsNamed s.opened
    → ((k : ℕ) → count_of s.slots k ≡ references_to k refs + references_to k refs) → held_in s.slots ≡ length refs + length refs → ((k : ℕ) → size_of s.slots k ≡ covered k refs) → IsWorking s
working s refs works last opened refs_are named counts held sizes = record {
  log = works;
  last_event = last;
  counts = λ k. counts k ∙ ap (λ (rs : List ContentRef). references_to k rs + references_to k rs) refs_are ∙ ap (λ (rs : List ContentRef). references_to k rs + references_to k s.opened) opened;
  held = held ∙ ap (λ (rs : List ContentRef). length rs + length rs) refs_are ∙ ap (λ (rs : List ContentRef). length rs + length s.opened) opened;
  named = subst (λ (rs : List ContentRef). All IsNamed rs) opened named;
  within = λ i d lt.
      let at = get_or (live_in s) i d in
      subst (λ (n : ℕ). end_of at ≤ n) (sym (sizes at.slot ∙ ap (λ (rs : List ContentRef). covered at.slot rs) (refs_are ∙ opened))) (covered_end (live_in s) at.slot i d lt refl);
}

pub few_live : (k : Kept) (refs : List ContentRef) → IsConsistent k → refs ≡ live_contents k → length refs ≤ LIVE_FILES_MAX
few_live k refs consistent live = omega (arith, ap length live, length-map k.files (λ (a : ActiveFile). a.file.content), consistent.live_files)
