use Rattle.std.proofs.Common.{◌≡◌, ◌<◌, ◌++◌, [], ◌∷◌, length, map, set, get_or, append_assoc, refl, sym, ap, subst, ◌∙◌, arith}
use Rattle.std.proofs.lemmas.Option.{slice_get_read}
use Rattle.flowfile_record.specs.Stored.{kept_of}
use Rattle.engine_queues.specs.Opening.{empty_queue}
use Rattle.engine_queues.specs.Queues.{AreQueuesOf}
use Rattle.engine_queues.proofs.Opened.{with_files, are-empty, comes-behind, connection-in, connection-at, is-apart, one-more}
use Rattle.engine_queues.proofs.queues.Queues.open.Goals as goal

pub loop-active-init : goal.loop-active-init
loop-active-init c = record {
  next = tt;
  finite = tt;
  taken = [];
  split = sym (c.into_iter-active-iterator.ensures.into_iter_gives ∙ c.iter-active-items.ensures);
  queues = subst (AreQueuesOf c.args.flow.now (with_files (kept_of c.args.stored.now) []) []) (sym (c.in_ok-list.ensures ∙ ap (map empty_queue) c.as_slice.ensures)) (are-empty c.args.flow.now (kept_of c.args.stored.now));
}

pub put_copy-requires : goal.put_copy-requires
put_copy-requires c =
    let flow = c.args.flow.now in
    let k = kept_of c.args.stored.now in
    let inv = c.loop-active.invariant in
    let x = c.in-Some.active.now in
    let rest = c.next.new.self in
    let queues = c.loop-active.list.items in
    let queue = c.index_mut.result.now in
    let split : k.files ≡ inv.taken ++ x ∷ rest = inv.split ∙ ap (λ l. inv.taken ++ l) c.in-Some.ensures.steps in
    let behind = comes-behind k.files inv.taken x rest split c.requires.consistent.numbers c.requires.consistent.arrivals in
    let within : x.connection < length flow.connections = omega (arith, connection-in k inv.taken x rest c.requires.consistent.files split, c.requires.count) in
    let read = c.index_mut.ensures.value ∙ ap (λ i. get_or queues i queue) c.from.ensures in
    let there = slice_get_read queues (length queues) x.connection queue refl (omega (arith, within, inv.queues.count)) read in
    let at = connection-at flow.connections x.connection within in
    is-apart flow k inv.taken x behind queue.files (inv.queues.each x.connection at.0 queue at.1 there).files

pub loop-active-preserved : goal.loop-active-preserved
loop-active-preserved c =
    let flow = c.args.flow.now in
    let k = kept_of c.args.stored.now in
    let inv = c.loop-active.invariant in
    let x = c.in-Some.active.now in
    let rest = c.next.new.self in
    let queues = c.loop-active.list.items in
    let queue = c.index_mut.result.now in
    let split : k.files ≡ inv.taken ++ x ∷ rest = inv.split ∙ ap (λ l. inv.taken ++ l) c.in-Some.ensures.steps in
    let behind = comes-behind k.files inv.taken x rest split c.requires.consistent.numbers c.requires.consistent.arrivals in
    let within : x.connection < length flow.connections = omega (arith, connection-in k inv.taken x rest c.requires.consistent.files split, c.requires.count) in
    let read = c.index_mut.ensures.value ∙ ap (λ i. get_or queues i queue) c.from.ensures in
    let there = slice_get_read queues (length queues) x.connection queue refl (omega (arith, within, inv.queues.count)) read in
    record {
      next = tt;
      finite = tt;
      taken = inv.taken ++ x ∷ [];
      split = split ∙ sym (append_assoc inv.taken (x ∷ []) rest);
      queues = subst (λ i. AreQueuesOf flow (with_files k (inv.taken ++ x ∷ [])) [] (set queues i c.put_copy.new.queue)) (sym c.from.ensures)
          (one-more flow k inv.taken x behind queues queue c.put_copy.new.queue inv.queues there c.in_ok-put_copy.ensures);
    }
