-- What the errors of the calls below are to who asks.
use Rattle.lineage_query.specs.declared.answer.LineageError.{LineageError}
use Rattle.lineage_query.specs.declared.answer.LineageError.TheVariants as lineage
use Rattle.store_core.specs.declared.error.StoreError.{StoreError}
use Rattle.store_core.specs.declared.error.StoreError.TheVariants as store
use Rattle.flow_query.specs.declared.error.QueryError.{QueryError}
use Rattle.flow_query.specs.declared.error.QueryError.TheVariants.{Absent, Disk, Damaged, Memory}

-- a call that reads a store answers no other errors than the first three
abbrev pub of_store : StoreError → QueryError
of_store store.Disk = Disk
of_store store.Memory = Memory
of_store (store.Damaged damage) = Damaged damage
of_store store.MustReopen = Memory
of_store (store.Limit limit) = Memory
of_store (store.OtherFlow kept found) = Memory

abbrev pub of_lineage : LineageError → QueryError
of_lineage lineage.Absent = Absent
of_lineage lineage.Memory = Memory
