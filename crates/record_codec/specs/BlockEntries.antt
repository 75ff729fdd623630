-- The entries that a block of a log holds: those of its items where it is a group, else one.
use Rattle.std.specs.Prelude.{ℕ, ◌==◌, ◌||◌, Bool, is_ok, List, [], ◌∷◌, Option, None, Some, if◌then◌else◌}
use Rattle.std.specs.Option.{is_some, option_map, option_and_then}
use Rattle.std.specs.Result.{result_ok}
use Rattle.flowfile_record.specs.Reading.{whole}
use Rattle.record_codec.specs.EntryReading.{entry_at, takes_memory}
use Rattle.record_codec.specs.GroupReading.{group_at, first_item_at}
use Rattle.record_codec.specs.declared.entry.LogEntry.{LogEntry}
use Rattle.record_codec.specs.declared.group.Item.{Item}
use Rattle.record_codec.specs.declared.group.TheConstants.{GROUP_KIND}

-- the entry of this kind that these bytes encode, all of them
abbrev pub entry_read : (kind : ℕ) (bytes : List ℕ) → Option LogEntry
entry_read kind bytes = result_ok (whole (entry_at kind) bytes)

-- an entry before others, where all can be read
abbrev pub before_entries : Option LogEntry → Option (List LogEntry) → Option (List LogEntry)
before_entries (Some e) others = option_map (λ es. e ∷ es) others
before_entries None others = None

-- the entries of these items, in order
unfoldable pub entries_of : List Item → Option (List LogEntry)
entries_of [] = Some []
entries_of (i ∷ items) = before_entries (entry_read i.kind i.payload) (entries_of items)

-- what the block of this kind and payload holds, none where that can't be read
abbrev pub entries_in : (kind : ℕ) (payload : List ℕ) → Option (List LogEntry)
entries_in kind payload =
    if kind == GROUP_KIND then option_and_then entries_of (result_ok (whole group_at payload))
    else before_entries (entry_read kind payload) (Some [])

-- where memory is taken: for the first item of a group, else in an entry and for it
abbrev pub entries_take_memory : (kind : ℕ) (payload : List ℕ) → Bool
entries_take_memory kind payload =
    if kind == GROUP_KIND then is_ok (first_item_at payload)
    else takes_memory kind payload || is_some (entry_read kind payload)
