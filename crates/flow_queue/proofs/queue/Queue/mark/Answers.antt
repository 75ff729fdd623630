use Rattle.std.proofs.Common.{◌≡◌, Some, [], length, refl, sym, ◌∙◌, ap, subst, arith}
use Rattle.flowfile_record.specs.NumberedItems.{item_of, with_item}
use Rattle.flow_queue.specs.declared.held.Held.{Held}
use Rattle.flow_queue.specs.Counts.{AreCountsOf}
use Rattle.flow_queue.specs.Inside.{AreSound}
use Rattle.flow_queue.specs.Queue.{held_number, with_flight, without_file}
use Rattle.flow_queue.proofs.Counting.{counts-marked}
use Rattle.flow_queue.proofs.Fields.{same_state, sound-mark, length-mark}
use Rattle.flow_queue.proofs.ForCallers.{its-number, none-left}
use Rattle.flow_queue.proofs.Numbered.{changed-with}
use Rattle.flow_queue.proofs.Ranks.{ranked-mark, still-ranked}
use Rattle.flow_queue.proofs.queue.Queue.mark.Goals as goal

pub put-requires-clause-new : goal.put-requires-clause-new
put-requires-clause-new c =
    let files = c.self.inside.files.items in
    let found : item_of held_number c.args.number files ≡ Some c.in-Some.held = sym c.in-Some.ensures.item in
    ap (item_of held_number c.in-Some.held.file.number) c.in-Some.ensures.items
    ∙ ap (λ n. item_of held_number n (without_file c.args.number files)) (its-number c.args.number c.in-Some.held files found)
    ∙ none-left c.args.number files

pub invariant_of-self : goal.invariant_of-self
invariant_of-self c =
    let queue = c.self.inside in
    let files = queue.files.items in
    let held = c.in-Some.held in
    let found : item_of held_number c.args.number files ≡ Some held = sym c.in-Some.ensures.item in
    let change : Held → Held = λ h. record { file = h.file; in_flight = c.args.in_flight } in
    let is : c.put.new.self.items ≡ with_flight c.args.number c.args.in_flight files
    = c.put.ensures.items ∙ ap (with_item held_number (change held)) c.in-Some.ensures.items
    ∙ changed-with held_number change files c.args.number held c.self.invariant.files.apart.numbers found (its-number c.args.number held files found) in
    record {
      files = subst (λ fs. AreSound fs queue.bytes) (sym is) (sound-mark c.args.number c.args.in_flight files queue.bytes c.self.invariant.files);
      ranked = still-ranked queue.order _ _ _ _ is refl (ranked-mark queue.order files queue.by_rank.items c.self.invariant.files.apart c.self.invariant.ranked c.args.number c.args.in_flight);
      room = omega (arith, c.self.invariant.room, ap length is, length-mark c.args.number c.args.in_flight files, c.put.ensures.room, c.in-Some.ensures.room);
      oldest_first = c.self.invariant.oldest_first;
      ages = λ expire. still-ranked [] _ _ _ _ is refl (ranked-mark [] files queue.by_age.items c.self.invariant.files.apart (c.self.invariant.ages expire) c.args.number c.args.in_flight);
      age_room = λ expire. omega (arith, c.self.invariant.age_room expire, ap length is, length-mark c.args.number c.args.in_flight files, c.put.ensures.room, c.in-Some.ensures.room);
      counts = subst (AreCountsOf queue.counts) (sym is) (counts-marked queue.counts c.args.number c.args.in_flight files c.self.invariant.counts);
      count_room = omega (arith, c.self.invariant.count_room, ap length is, length-mark c.args.number c.args.in_flight files, c.put.ensures.room, c.in-Some.ensures.room);
      batch_room = c.self.invariant.batch_room;
    }

pub returns : goal.returns
returns c =
    let queue = c.self.inside in
    let files = queue.files.items in
    let held = c.in-Some.held in
    let found : item_of held_number c.args.number files ≡ Some held = sym c.in-Some.ensures.item in
    let change : Held → Held = λ h. record { file = h.file; in_flight = c.args.in_flight } in
    let is : c.put.new.self.items ≡ with_flight c.args.number c.args.in_flight files
    = c.put.ensures.items ∙ ap (with_item held_number (change held)) c.in-Some.ensures.items
    ∙ changed-with held_number change files c.args.number held c.self.invariant.files.apart.numbers found (its-number c.args.number held files found) in
    same_state _ _ (ap (λ q. q.order) c.self.view_is) (ap (λ q. q.limits) c.self.view_is)
    (is ∙ ap (λ q. with_flight c.args.number c.args.in_flight q.files) c.self.view_is)
    (omega (arith, c.put.ensures.room, c.in-Some.ensures.room, ap (λ q. q.spare) c.self.view_is))
    (ap (λ q. q.batches) c.self.view_is) (ap (λ q. q.batch_room) c.self.view_is)
