use Rattle.record_codec.proofs.Sizes.{placeless_size, placeless_entry_size}
use Rattle.record_codec.proofs.entry.sizes_ignore_slots_and_offsets.Goals as goal

pub returns : goal.returns
returns c = record { files = placeless_size; entries = placeless_entry_size }
