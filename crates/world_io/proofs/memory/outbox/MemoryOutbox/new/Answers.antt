use Rattle.std.proofs.Common.{List, bytes_eq, sym, subst}
use Rattle.std.specs.List.{IsDistinct}
use Rattle.world_io.specs.Memory.{names_of}
use Rattle.world_io.proofs.Indexing.{indexed-ok}
use Rattle.world_io.proofs.Once.{distinct-from_once}
use Rattle.world_io.proofs.Places.{Stored}
use Rattle.world_io.proofs.memory.outbox.MemoryOutbox.new.Goals as goal

pub places_of-requires : goal.places_of-requires
places_of-requires c =
    let once : List Stored → Type 0 = λ files. IsDistinct bytes_eq (names_of files) in
    subst once (sym c.deref.ensures.value) (distinct-from_once (names_of c.args.files.items) c.requires)

pub invariant_of-result : goal.invariant_of-result
invariant_of-result c = record {
  once = distinct-from_once (names_of c.args.files.items) c.requires;
  indexed = indexed-ok c.places_of.result c.ok.result c.deref.result.now c.args.files.items c.deref.ensures.value c.places_of.ensures c.ok.ensures.value;
}
