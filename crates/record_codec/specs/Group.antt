-- Groups: several entries behind one gate. How their items are encoded, and which have an encoding.
use Rattle.std.specs.Prelude.{ℕ, ◌==◌, ◌&&◌, ◌||◌, ◌<◌, ◌≤◌, ◌^◌, nat_le, Bool, IsTrue, List, ◌++◌, length}
use Rattle.std.specs.Int.{w32, to_be_bytes}
use Rattle.flowfile_record.specs.Encoding.{byte, listed, AreListed}
use Rattle.record_codec.specs.EntryEncoding.{entry, kind_of}
use Rattle.record_codec.specs.declared.entry.LogEntry.{LogEntry}
use Rattle.record_codec.specs.declared.group.Item.{Item}

-- the kind in a byte, and the payload behind its length in four bytes
unfoldable pub item : Item → List ℕ
item i = byte i.kind ++ to_be_bytes w32 (length i.payload) ++ i.payload

-- the count in four bytes, and the items
unfoldable pub group : List Item → List ℕ
group items = listed item items

-- an entry of this kind may stand in a group: it is no Begin, and no other group
abbrev pub is_item_kind : ℕ → Bool
is_item_kind kind = (nat_le 2 kind && nat_le kind 5) || (kind == 7)

-- an item that has an encoding
pub record IsItem (i : Item) : Type 0 where
  pub kind : IsTrue (is_item_kind i.kind)
  pub payload : length i.payload < 2 ^ 32

-- a group that has an encoding: an entry alone is no group
pub record IsGroup (items : List Item) : Type 0 where
  pub several : 2 ≤ length items
  pub each : AreListed IsItem items

-- an entry, as an item of a group
abbrev pub as_item : LogEntry → Item
as_item e = record { kind = kind_of e; payload = entry e }
