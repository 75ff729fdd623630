-- What a history stands for.
use Rattle.disk_trait.specs.MemoryPast.{Past}
use Rattle.disk_trait.specs.declared.memory.history.History.{History}

abbrev pub past_of : History → Past
past_of history = record {
  table = history.table;
  calls = history.done.calls.items;
  moments = history.done.moments.items;
  now = history.moment;
}
