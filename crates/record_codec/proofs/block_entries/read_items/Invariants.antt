use Rattle.std.proofs.Common.{◌≡◌, drop}
use Rattle.std.specs.Prelude.{All}
use Rattle.record_codec.specs.BlockEntries.{entries_of}
use Rattle.record_codec.specs.EntryEncoding.{IsEntry}
use Rattle.record_codec.proofs.BlockContents.{with_read}
use Rattle.record_codec.proofs.block_entries.read_items.Given as goal

abbrev pub invariant-loop-item : goal.invariant-loop-item
invariant-loop-item l = record {
  reads : with_read l.entries.items (entries_of (drop l.item-index l.items)) ≡ entries_of l.items;
  encoded : All IsEntry l.entries.items;
}
