-- A change that is on its way into the store, and what its commit leaves.
use Rattle.std.specs.Prelude.{◌≡◌, ◌⊎◌, ℕ, ◌+◌, ◌-◌, ◌^◌, ◌≤◌, length, map, min, All, Ok, Some}
use Rattle.std.specs.List.{AllZip}
use Rattle.disk_trait.specs.Files.{Files}
use Rattle.disk_trait.specs.Images.{Since, calls_later}
use Rattle.flowfile_record.specs.Stored.{Kept}
use Rattle.flowfile_record.specs.declared.change.Change.TheVariants as change
use Rattle.flowfile_record.specs.declared.change.Settled.{Settled}
use Rattle.record_codec.specs.Placeless.{placeless_active, placeless_entry}
use Rattle.record_codec.specs.declared.entry.LogEntry.{LogEntry}
use Rattle.content_repo.specs.Claims.{content_in}
use Rattle.flowfile_wal.specs.Calls.{InEach}
use Rattle.flowfile_wal.specs.Current.{CurrentLog, current_log}
use Rattle.flowfile_wal.specs.Steps.{with_entry}
use Rattle.kept_state.specs.Applied.{applied}
use Rattle.kept_state.specs.Changes.{entry_of_change, expiry_entry, no_files, placed_in, record_of, MayExpireAs}
use Rattle.machine_model.specs.Changing.{state_after}
use Rattle.machine_model.specs.State.{State}
use Rattle.prov_store.specs.State.{HasBlock, EventsAreAppended, NumberedEvents, files_for}
use Rattle.store_core.specs.Change.{MayChange, ChangeIsWithinLimits}
use Rattle.store_core.specs.Flow.{flow_in}
use Rattle.store_core.specs.Placing.{GrowsByFresh, ReferAlike, StaysStored}
use Rattle.store_core.specs.State.{stands_for}
use Rattle.store_core.specs.Store.{StoreState, kept_by, EachStandsFor, FilesHold}
use Rattle.store_core.specs.Writing.{fresh_count}

-- a change with the entry that it makes, whose new contents have no place yet, and its events
pub record PreparedChange : Type 0 where
  pub entry : LogEntry
  pub settled : Settled
  pub events : NumberedEvents

-- the entry is that of the files of a connection that expire as this settled session
pub record IsExpiryEntry (k : Kept) (s : Settled) (entry : LogEntry) : Type 0 where
  pub connection : ℕ
  pub may : MayExpireAs k connection s
  pub is : entry ≡ expiry_entry k connection s

-- the entry is that of the settled session, or of the files that expire as it
abbrev pub IsEntryFor : Kept → Settled → LogEntry → Type 0
IsEntryFor k s entry = (entry ≡ entry_of_change k (change.Session s)) ⊎ IsExpiryEntry k s entry

-- It was prepared by this store, as it is: all that its commit takes is there.
pub record IsPreparedChange (store : StoreState) (p : PreparedChange) : Type 0 where
  pub may : MayChange (kept_by store) p.settled
  pub within : ChangeIsWithinLimits store p.settled
  pub entry : IsEntryFor (kept_by store) p.settled p.entry
  pub room : length p.settled.placed ≤ store.memory.room
  pub first : p.events.first ≡ (kept_by store).last_event + 1
  pub events : p.events.events ≡ p.settled.events
  pub blocks : All HasBlock p.settled.events

-- What is kept has the change, its new contents standing somewhere, and those that are in the store where they stood.
-- The number of the store's log, its lot and the contents of its opening stay.
pub record HasChange (p : PreparedChange) (old new : StoreState) : Type 0 where
  pub entry : LogEntry
  pub same : placeless_entry entry ≡ placeless_entry p.entry
  pub kept : kept_by new ≡ applied no_files (kept_by old) entry
  pub stays : AllZip StaysStored p.settled.placed (placed_in entry)
  pub log : new.log.number ≡ old.log.number
  pub opened : new.opened ≡ old.opened
  pub lot : new.lot ≡ old.lot

-- the files hold the state before the change, or that behind it
abbrev pub HoldsEither : (old new : StoreState) → Files → Type 0
HoldsEither old new files = FilesHold old files ⊎ FilesHold new files

-- The store in memory has the change, and within the commit whatever a stop may leave has all of it or nothing.
pub record IsAllOrNothing {D : Type 0} (held : D → Files) (moment : D → ℕ) (images : D → ℕ → Files → Type 0)
    (p : PreparedChange) (s_old s_new : StoreState) (old new : D) : Type 0 where
  pub change : HasChange p s_old s_new
  pub holds : Since moment images old new (HoldsEither s_old s_new)
  pub states : (state : State) → EachStandsFor (flow_in (kept_by s_old)) s_old.lot state (images old (moment old))
      → Since moment images old new (λ c.
      (stands_for (flow_in (kept_by s_old)) s_old.lot c ≡ Ok state)
      ⊎ (stands_for (flow_in (kept_by s_old)) s_old.lot c ≡ Ok (state_after (content_in (held old)) state p.settled)))

-- What is kept has the placed files: those that share a content refer to the same bytes of the same claim, and a
-- content that is in the store stays where it is.
pub record KeepsShared (settled : Settled) (old new : StoreState) : Type 0 where
  pub entry : LogEntry
  pub kept : kept_by new ≡ applied no_files (kept_by old) entry
  pub placed : map placeless_active (placed_in entry) ≡ map placeless_active (map record_of settled.placed)
  pub alike : ReferAlike settled.placed (placed_in entry)
  pub stays : AllZip StaysStored settled.placed (placed_in entry)

-- The current log has the prepared entry behind the entries of before, and nothing else is new in it. The entry is the
-- prepared one, but that its new contents stand somewhere.
pub record LogsEntry (prepared : LogEntry) (old new : Files) : Type 0 where
  pub before : CurrentLog
  pub entry : LogEntry
  pub same : placeless_entry entry ≡ placeless_entry prepared
  pub was : current_log old ≡ Ok (Some before)
  pub now : current_log new ≡ Ok (Some (with_entry before entry))

-- how many calls of the disk a commit makes: a write for each new content and for each file that gets events, and the
-- log's two writes and two syncs
abbrev pub calls_of_commit : Settled → (last_event : ℕ) → ℕ
calls_of_commit s last_event = fresh_count s.placed + files_for last_event (length s.events) + 4

-- A commit is acknowledged: the disk's present moment is told, it took no call too many, the events are the store's,
-- the log has one entry more, the claims have as many bytes more as the new contents, files share their contents, and
-- whatever a stop may leave has the prepared entry behind the log that was held before, and stands for the state with
-- the change.
pub record IsAcknowledged {D : Type 0} (held : D → Files) (moment_of : D → ℕ) (images : D → ℕ → Files → Type 0)
    (p : PreparedChange) (s_old s_new : StoreState) (old new : D) (told : ℕ) : Type 0 where
  pub moment : told ≡ moment_of new
  pub calls : moment_of new ≡ calls_later (calls_of_commit p.settled s_old.events.end) (moment_of old)
  pub events : EventsAreAppended p.settled.events s_old.events s_new.events
  pub entries : s_new.entries ≡ min (s_old.entries + 1) (2 ^ 64 - 1)
  pub logged : InEach (images new (moment_of new)) (LogsEntry p.entry (held old))
  pub grown : GrowsByFresh p.settled.placed s_old.slots s_new.slots
  pub shared : KeepsShared p.settled s_old s_new
  pub states : (state : State) → EachStandsFor (flow_in (kept_by s_old)) s_old.lot state (images old (moment_of old))
      → EachStandsFor (flow_in (kept_by s_old)) s_old.lot (state_after (content_in (held old)) state p.settled)
      (images new (moment_of new))
