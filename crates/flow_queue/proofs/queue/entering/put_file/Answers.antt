use Rattle.std.proofs.Common.{◌≡◌, ◌+◌, ◌<◌, ◌^◌, false, ◌∷◌, length, sym, ◌∙◌, ap, subst, arith}
use Rattle.flowfile_record.specs.NumberedItems.{with_item}
use Rattle.flowfile_record.proofs.ByNumber.{length-with}
use Rattle.flow_queue.specs.declared.held.Held.{Held}
use Rattle.flow_queue.specs.Counts.{AreCountsOf}
use Rattle.flow_queue.specs.Inside.{AreSound}
use Rattle.flow_queue.specs.Queue.{held_number, queue_with_file}
use Rattle.flow_queue.proofs.Counting.{can-enter, counts-with}
use Rattle.flow_queue.proofs.Fields.{new-number, sum_fits, sound-put}
use Rattle.flow_queue.proofs.queue.entering.put_file.Goals as goal

pub enter-requires-clause-room : goal.enter-requires-clause-room
enter-requires-clause-room c =
    let kept = c.requires.kept in
    can-enter c.args.counts.now c.args.files.now.items c.args.files.now.room kept.counted kept.places c.requires.room (omega (arith, kept.few))

pub put-requires-clause-new : goal.put-requires-clause-new
put-requires-clause-new c = new-number c.args.held.file c.args.files.now.items c.requires.apart

pub overflow_add-bytes : goal.overflow_add-bytes
overflow_add-bytes c =
    let le = sum_fits c.args.files.now.items c.args.bytes.now c.requires.kept.sound in
    omega (arith, le, c.requires.kept.few, c.from.ensures, c.size-size.type_inv)

pub returns-clause-kept : goal.returns-clause-kept
returns-clause-kept c =
    let files = c.args.files.now.items in
    let bytes = c.args.bytes.now in
    let kept = c.requires.kept in
    let held = c.args.held in
    let new : Held = record { file = held.file; in_flight = false } in
    let rests : held ≡ new = λ i. record { file = held.file; in_flight = c.requires.rests i } in
    let with : c.put.new.self.items ≡ queue_with_file held.file files = c.put.ensures.items ∙ ap (λ h. with_item held_number h files) rests in
    let small : held.file.content.size < 2 ^ 64 = omega (arith, c.size-size.type_inv, c.size-size.ensures) in
    let sound = sound-put held.file files c.requires.apart bytes (bytes + c.from.result) kept.sound (ap (λ n. bytes + n) (c.from.ensures ∙ c.size-size.ensures)) small in
    let counted = c.enter.ensures.counted files kept.counted in
    record {
      sound = subst (λ fs. AreSound fs (bytes + c.from.result)) (sym with) sound;
      counted = subst (AreCountsOf c.enter.new.self) (sym with) (counts-with c.enter.new.self held.file files (subst (λ h. AreCountsOf c.enter.new.self (h ∷ files)) rests counted));
      places = omega (arith, kept.places, ap length with, length-with held_number new files, c.put.ensures.room, c.enter.ensures.places);
      few = omega (arith, kept.few, ap length with, length-with held_number new files, c.put.ensures.room);
    }

pub returns-clause-files : goal.returns-clause-files
returns-clause-files c =
    let held = c.args.held in
    let rests : held ≡ record { file = held.file; in_flight = false } = λ i. record { file = held.file; in_flight = c.requires.rests i } in
    c.put.ensures.items ∙ ap (λ h. with_item held_number h c.args.files.now.items) rests
