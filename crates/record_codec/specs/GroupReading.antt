-- Reading a group from left to right, up to the first field that can't be read.
use Rattle.std.specs.Prelude.{ℕ, nat_le, List}
use Rattle.std.specs.Int.{w32}
use Rattle.flowfile_record.specs.Reading.{Reading, ◌>>=◌, ◌then◌, made, such, byte_at, raw_at, uint_at, items_at}
use Rattle.record_codec.specs.Group.{is_item_kind}
use Rattle.record_codec.specs.declared.group.Item.{Item}

-- so many bytes behind their length
unfoldable pub payload_at : Reading (List ℕ)
payload_at bytes = do
  size ← uint_at w32 bytes
  raw_at size.0 size.1

unfoldable pub item_kind_at : Reading ℕ
item_kind_at = such is_item_kind byte_at

unfoldable pub item_at : Reading Item
item_at = made (λ i. record { kind = i.0; payload = i.1 }) (item_kind_at then payload_at)

-- the count of several items
unfoldable pub several_at : Reading ℕ
several_at = such (nat_le 2) (uint_at w32)

unfoldable pub group_at : Reading (List Item)
group_at bytes = do
  count ← several_at bytes
  items_at item_at count.0 count.1

-- where memory is taken: for the first item
abbrev pub first_item_at : Reading (ℕ × Item)
first_item_at = several_at then item_at
