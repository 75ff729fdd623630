use Rattle.std.proofs.Common.{◌≡◌, ℕ, ◌+◌, ◌-◌, ◌++◌, ◌∷◌, List, [], length, take, drop, sym, ap, subst, ◌∙◌, append_assoc, arith}
use Rattle.std.proofs.lemmas.List.{drop-drop, drop_all, take_all, append-nil, length-drop}
use Rattle.flowfile_record.specs.declared.event.Event.{Event}
use Rattle.prov_store.specs.Blocks.{blocks_of, IsEventPart, AreEventParts}
use Rattle.prov_store.specs.declared.blocks.Part.{Part}
use Rattle.prov_store.proofs.Parting.{blocks_up_to}
use Rattle.prov_store.proofs.Writing.{last_number}
use Rattle.prov_store.proofs.blocks.EventBlocks.new.Goals as goal

-- one part more, behind those that there are
parts_more : (f done : ℕ) (parts : List Part) (p : Part) (events : List Event) → ((more : List Part) → AreEventParts (f - 1 + done) more (drop done events) → AreEventParts (f - 1) (parts ++ more) events)
    → IsEventPart (f - 1 + done) p (drop done events) → (more : List Part) → AreEventParts (f - 1 + (done + p.count)) more (drop (done + p.count) events)
    → AreEventParts (f - 1) ((parts ++ p ∷ []) ++ more) events
parts_more f done parts p events are one more rest =
    let place : f - 1 + (done + p.count) ≡ f - 1 + done + p.count = omega arith in
    let left : drop (done + p.count) events ≡ drop p.count (drop done events) = sym (drop-drop p.count done events) in
    subst (λ (l : List Part). AreEventParts (f - 1) l events) (sym (append_assoc parts (p ∷ []) more))
    (are (p ∷ more) (one, subst (λ (l : List Event). AreEventParts (f - 1 + done + p.count) more l) left (subst (λ (n : ℕ). AreEventParts n more (drop (done + p.count) events)) place rest)))

pub overflow_add-first : goal.overflow_add-first
overflow_add-first c =
    let small = last_number c.args.first (c.loop-done.done + 1) c.args.events.now c.requires.blocks c.requires.numbered (omega arith) (omega (arith, c.loop-done-test.true)) in
    omega (arith, small)

pub loop-done-preserved : goal.loop-done-preserved
loop-done-preserved c =
    let inv = c.loop-done.invariant in
    let events = c.args.events.now in
    let done = c.loop-done.done in
    let count = c.part_len-count.result in
    let p : Part = record { count = count; size = c.in_ok-size.size } in
    let left = length-drop done events in
    let len : done + count - done ≡ count = omega arith in
    let slice : take (done + count - done) (drop done events) ≡ take count (drop done events) = ap (λ (k : ℕ). take k (drop done events)) len in
    let part : IsEventPart (c.args.first - 1 + done) p (drop done events) = record {
      some = c.part_len-count.ensures.some;
      there = omega (arith, c.part_len-count.ensures.there, left);
      fits = c.part_len-count.ensures.fits;
      full = λ less. c.part_len-count.ensures.full (omega (arith, less, left));
      size = c.in_ok-size.ensures.size ∙ ap (λ (l : List Event). length (blocks_of l)) slice;
    } in
    record {
      there = omega (arith, c.part_len-count.ensures.there, inv.there);
      bytes = c.in_ok-size.ensures.bytes ∙ ap (λ (l : List ℕ). l ++ blocks_of (take (done + count - done) (drop done events))) inv.bytes
          ∙ ap (λ (l : List Event). blocks_of (take done events) ++ blocks_of l) slice ∙ sym (blocks_up_to done count events);
      parts = λ more are.
          subst (λ (l : List Part). AreEventParts (c.args.first - 1) (l ++ more) events) (sym c.in_ok-push.ensures.items)
          (parts_more c.args.first done c.loop-done.parts.items p events inv.parts part more are);
    }

pub invariant_of-result : goal.invariant_of-result
invariant_of-result c =
    let inv = c.loop-done.invariant in
    let events = c.args.events.now in
    record {
      counted = c.requires.first;
      numbered = c.requires.numbered;
      have = c.requires.blocks;
      encoded = inv.bytes ∙ ap blocks_of (take_all c.loop-done.done events c.loop-done-test.false);
      parted = subst (λ (l : List Part). AreEventParts (c.args.first - 1) l events) (append-nil c.loop-done.parts.items)
          (inv.parts [] (drop_all c.loop-done.done events c.loop-done-test.false));
    }
