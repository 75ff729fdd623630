use Rattle.std.proofs.Common.{◌≡◌, ◌∷◌, ℕ, Bool, true, List, get_or, length, map, set, refl, sym, ap, subst, ◌∙◌}
use Rattle.std.proofs.lemmas.Option.{slice_get_read}
use Rattle.std.specs.Vec.Iter.{into_iter_items}
use Rattle.flowfile_record.specs.declared.stored.ActiveFile.{ActiveFile}
use Rattle.flowfile_record.specs.declared.stored.Placed.{Placed}
use Rattle.engine_queues.specs.Settling.{as_kept, queue_with, queues_with, MayAllJoin}
use Rattle.engine_queues.specs.Waiting.{has_files}
use Rattle.engine_queues.proofs.Changing.{written}
use Rattle.engine_queues.proofs.Waiting.{marked-changed, with-file}
use Rattle.engine_queues.proofs.settling.put_in.Goals as goal

pub loop-one-preserved : goal.loop-one-preserved
loop-one-preserved c =
    let queues = c.loop-one.queues.items in
    let before = c.index_mut.result.now in
    let kept : Placed → ActiveFile = as_kept c.args.files.now.items in
    let a = kept c.in-Some.one in
    let later = map kept (into_iter_items c.next.new.self) in
    let coming : map kept (into_iter_items c.loop-one.one-iterator) ≡ a ∷ later = ap (map kept) c.in-Some.ensures.steps.0 in
    let joins : MayAllJoin (a ∷ later) queues = subst (λ (l : List ActiveFile). MayAllJoin l queues) coming c.loop-one.invariant.join in
    let is = c.as_kept-connection.ensures in
    let place_is : c.from-place.result ≡ a.connection = c.from-place.ensures ∙ ap (λ (b : ActiveFile). b.connection) is in
    let now = written queues c.from-place.result a.connection (queue_with a.file) before c.put.new.self place_is joins.0.within c.index_mut.ensures.value
    (c.put.ensures ∙ ap (λ (b : ActiveFile). queue_with b.file before) is) in
    let read = c.index_mut.ensures.value ∙ ap (λ (n : ℕ). get_or queues n before) place_is in
    let got = slice_get_read queues (length queues) a.connection before refl joins.0.within read in
    record {
      put = ap (queues_with later) now ∙ ap (λ (l : List ActiveFile). queues_with l queues) (sym coming) ∙ c.loop-one.invariant.put;
      marks = ap (λ (n : ℕ). set c.loop-one.occupied.items n true) place_is
          ∙ ap (λ (l : List Bool). set l a.connection true) c.loop-one.invariant.marks
          ∙ marked-changed a.connection (queue_with a.file) queues before true got (with-file a.file before) ∙ ap (map has_files) (sym now);
      join = subst (MayAllJoin later) (sym now) joins.1;
    }
