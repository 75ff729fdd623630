-- Files that expire are prepared as their settled session.
use Rattle.std.proofs.Common.{◌≡◌, ℕ, ◌+◌, List, [], length, sym, ap, subst, inr, arith}
use Rattle.std.specs.Prelude.{All, None, Some}
use Rattle.std.proofs.lemmas.List.Elements.{All-nil}
use Rattle.flowfile_record.specs.Shared.{AreShared}
use Rattle.flowfile_record.specs.Stored.{Kept}
use Rattle.flowfile_record.specs.declared.change.Settled.{Settled}
use Rattle.flowfile_record.specs.declared.stored.Placed.{Placed}
use Rattle.record_codec.specs.declared.entry.LogEntry.{LogEntry}
use Rattle.checkpoint_store.specs.Consistent.{IsConsistent}
use Rattle.content_repo.specs.Slots.{SlotsHaveRoom}
use Rattle.kept_state.specs.Changes.{expiry_entry, MayExpireAs}
use Rattle.kept_state.specs.Limits.{numbers_limit}
use Rattle.kept_state.proofs.Expiring.{expiry_live, expiry_settles}
use Rattle.prov_store.specs.State.{NumberedEvents}
use Rattle.store_core.specs.Change.{IsFresh, ChangeIsWithinLimits, MayChange, MayExpire, fresh_sizes_of, kept_with}
use Rattle.store_core.specs.Committed.{IsPreparedChange}
use Rattle.store_core.specs.Store.{StoreState, kept_by}
use Rattle.store_core.specs.declared.prepared.SettledExpiry.{SettledExpiry}

none_placed : (k : Kept) (connection : ℕ) (s : Settled) → MayExpireAs k connection s → s.placed ≡ []
none_placed k connection s may = ap (λ (t : Settled). t.placed) may.as_session

none_shared : AreShared []
none_shared place of p there is = absurd (let both : None ≡ Some p = there in cc)

pub expiry_changes : (k : Kept) (x : SettledExpiry) → IsConsistent k → MayExpire k x → MayChange k x.settled
expiry_changes k x was may = record {
  settles = expiry_settles k x.connection x.settled was may.expires;
  numbered = may.numbered;
  events = may.events;
  fresh = subst (λ (placed : List Placed). All IsFresh placed) (sym (none_placed k x.connection x.settled may.expires)) (All-nil IsFresh);
  shared = subst AreShared (sym (none_placed k x.connection x.settled may.expires)) none_shared;
}

pub expiry_within : (s : StoreState) (x : SettledExpiry) → IsConsistent (kept_by s) → MayExpire (kept_by s) x → numbers_limit (kept_with s x.settled) ≡ None → ChangeIsWithinLimits s x.settled
expiry_within s x was may none = record {
  live = expiry_live (kept_by s) x.connection x.settled was may.expires;
  claims = subst (λ (placed : List Placed). SlotsHaveRoom s.slots (fresh_sizes_of placed)) (sym (none_placed (kept_by s) x.connection x.settled may.expires)) tt;
  numbers = none;
}

pub expiry_prepared : (s : StoreState) (x : SettledExpiry) (entry : LogEntry) (events : NumberedEvents) → IsConsistent (kept_by s) → MayExpire (kept_by s) x → numbers_limit (kept_with s x.settled) ≡ None
    → entry ≡ expiry_entry (kept_by s) x.connection x.settled → events.first ≡ (kept_by s).last_event + 1 → events.events ≡ x.settled.events
    → IsPreparedChange s (record { entry = entry; settled = x.settled; events = events })
expiry_prepared s x entry events was may none is first told =
    let placed = none_placed (kept_by s) x.connection x.settled may.expires in
    record {
      may = expiry_changes (kept_by s) x was may;
      within = expiry_within s x was may none;
      entry = inr (record { connection = x.connection; may = may.expires; is = is });
      room = omega (arith, ap {B = ℕ} length placed);
      first = first;
      events = told;
      blocks = may.events none;
    }
