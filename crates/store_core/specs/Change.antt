-- What a settled session asks of a store, and what files do that expire.
use Rattle.std.specs.Prelude.{◌≡◌, ◌⊎◌, ℕ, ◌+◌, ◌≤◌, List, length, map, true, All, None, Some}
use Rattle.std.specs.List.{filter_map}
use Rattle.sha2.specs.Sha256.{sha256}
use Rattle.flowfile_record.specs.Ranges.{IsRangeOfOne}
use Rattle.flowfile_record.specs.Shared.{AreShared, is_stored, own_bytes}
use Rattle.flowfile_record.specs.Stored.{Kept}
use Rattle.flowfile_record.specs.declared.TheConstants.{CONTENT_MAX}
use Rattle.flowfile_record.specs.declared.change.Settled.{Settled}
use Rattle.flowfile_record.specs.declared.stored.Fresh.TheVariants.{Bytes}
use Rattle.flowfile_record.specs.declared.stored.Placed.{Placed}
use Rattle.content_repo.specs.Slots.{SlotsHaveRoom}
use Rattle.content_repo.specs.declared.slot_set.TheConstants.{SLOTS}
use Rattle.kept_state.specs.Applied.{session_applied}
use Rattle.kept_state.specs.Changes.{entry_of_session, MaySettleAs, MayExpireAs}
use Rattle.kept_state.specs.Limits.{live_limit, numbers_limit}
use Rattle.kept_state.specs.declared.limit.Limit.{Limit}
use Rattle.kept_state.specs.declared.limit.Which.TheVariants.{Claims}
use Rattle.prov_store.specs.State.{AreNumberedFrom, HasBlock}
use Rattle.store_core.specs.Store.{StoreState, kept_by, live_in}
use Rattle.store_core.specs.declared.prepared.SettledExpiry.{SettledExpiry}

-- ---- what may be handed in

-- the contents that aren't in the store yet, by place; one that several files share is there once
abbrev pub fresh_contents_of : List Placed → List (List ℕ)
fresh_contents_of placed = filter_map (λ p. own_bytes p.fresh) placed

abbrev pub fresh_sizes_of : List Placed → List ℕ
fresh_sizes_of placed = map length (fresh_contents_of placed)

abbrev pub fresh_sizes : Settled → List ℕ
fresh_sizes s = fresh_sizes_of s.placed

-- a content that isn't in the store yet has the size and the digest that its file says
abbrev pub IsFresh : Placed → Type 0
IsFresh p = (bytes : List ℕ) → p.fresh ≡ Bytes bytes
    → (length bytes ≤ CONTENT_MAX) × (p.file.content.size ≡ length bytes) × (p.file.content.digest ≡ sha256 bytes)

-- A settled session whose entry fits but that it may pass a limit, and whose new contents are as its files say; shared
-- ones are those of earlier files. Its events are numbered behind the last one, and each has a block unless a number
-- passes its limit.
pub record MayChange (k : Kept) (s : Settled) : Type 0 where
  pub settles : MaySettleAs k s
  pub numbered : AreNumberedFrom (k.last_event + 1) s.events
  pub events : numbers_limit (session_applied k (entry_of_session k s)) ≡ None → All HasBlock s.events
  pub fresh : All IsFresh s.placed
  pub shared : AreShared s.placed

-- Files of a connection may expire: their entry fits. Their events are numbered behind the last one, and each has a
-- block unless a number passes its limit.
pub record MayExpire (k : Kept) (e : SettledExpiry) : Type 0 where
  pub expires : MayExpireAs k e.connection e.settled
  pub numbered : AreNumberedFrom (k.last_event + 1) e.settled.events
  pub events : numbers_limit (session_applied k (entry_of_session k e.settled)) ≡ None → All HasBlock e.settled.events

-- each placed file whose content is in the store has that of a live file, or a part of it
abbrev pub IsOldLive : StoreState → Placed → Type 0
IsOldLive store p = is_stored p.fresh ≡ true → IsRangeOfOne (live_in store) p.file.content

abbrev pub HasLiveContents : StoreState → Settled → Type 0
HasLiveContents store s = All (IsOldLive store) s.placed

-- ---- limits

-- what is kept once the session is applied
abbrev pub kept_with : StoreState → Settled → Kept
kept_with store s = session_applied (kept_by store) (entry_of_session (kept_by store) s)

abbrev pub claims_full : Limit
claims_full = record { which = Claims; number = SLOTS; wanted = SLOTS + 1 }

-- no quantity is taken past its limit
pub record ChangeIsWithinLimits (store : StoreState) (s : Settled) : Type 0 where
  pub live : live_limit (kept_with store s) ≡ None
  pub claims : SlotsHaveRoom store.slots (fresh_sizes s)
  pub numbers : numbers_limit (kept_with store s) ≡ None

-- not all new contents find a slot: none of the SLOTS slots that a store has takes the next one
abbrev pub PassesClaims : StoreState → Settled → Limit → Type 0
PassesClaims store s limit = (SlotsHaveRoom store.slots (fresh_sizes s) → ⊥) × (length store.slots ≡ SLOTS)
    × (limit ≡ claims_full)

abbrev pub PassesNumbers : StoreState → Settled → Limit → Type 0
PassesNumbers store s limit = SlotsHaveRoom store.slots (fresh_sizes s)
    × (numbers_limit (kept_with store s) ≡ Some limit)

-- the first limit that is passed: of the live files, of their bytes, of the claims, of the numbers
abbrev pub IsLimitOf : StoreState → Settled → Limit → Type 0
IsLimitOf store s limit =
    (live_limit (kept_with store s) ≡ Some limit)
    ⊎ ((live_limit (kept_with store s) ≡ None) × (PassesClaims store s limit ⊎ PassesNumbers store s limit))
