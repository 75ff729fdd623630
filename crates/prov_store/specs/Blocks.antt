-- Events with their encoded blocks, in parts that go to one file each.
use Rattle.std.specs.Prelude.{◌≡◌, ℕ, ◌+◌, ◌-◌, ◌<◌, ◌≤◌, ◌==◌, ◌%◌, List, [], ◌∷◌, length, take, drop, All, if◌then◌else◌}
use Rattle.std.specs.List.{flat_map}
use Rattle.flowfile_record.specs.declared.event.Event.{Event}
use Rattle.prov_store.specs.State.{HasBlock, AreNumberedFrom, event_block}
use Rattle.flowfile_record.specs.declared.limits.TheConstants.{EVENTS_PER_FILE}
use Rattle.prov_store.specs.declared.blocks.Part.{Part}

-- their blocks
abbrev pub blocks_of : List Event → List ℕ
blocks_of events = flat_map event_block events

-- the first of some events that are added behind a last one, as many as its file takes
pub record IsEventPart (last : ℕ) (part : Part) (events : List Event) : Type 0 where
  pub some : 0 < part.count
  pub there : part.count ≤ length events
  pub fits : last % EVENTS_PER_FILE + part.count ≤ EVENTS_PER_FILE
  pub full : part.count < length events → last % EVENTS_PER_FILE + part.count ≡ EVENTS_PER_FILE
  pub size : part.size ≡ length (blocks_of (take part.count events))

-- events that are added behind a last one, part by part
abbrev pub AreEventParts : (last : ℕ) → List Part → List Event → Type 0
AreEventParts last [] events = events ≡ []
AreEventParts last (part ∷ parts) events =
    IsEventPart last part events × AreEventParts (last + part.count) parts (drop part.count events)

-- what is known of events with their blocks
pub record AreEncoded (first : ℕ) (events : List Event) (bytes : List ℕ) (parts : List Part) : Type 0 where
  pub counted : 1 ≤ first
  pub numbered : AreNumberedFrom first events
  pub have : All HasBlock events
  pub encoded : bytes ≡ blocks_of events
  pub parted : AreEventParts (first - 1) parts events

-- where the next event goes in its file, once these bytes stand there
abbrev pub next_offset : (last size : ℕ) → ℕ
next_offset last size = if last % EVENTS_PER_FILE == 0 then 0 else size
