use Rattle.std.proofs.Common.{◌≡◌, ℕ, ◌<◌, [], true, List, length, set, subst, sym, ap, ◌∙◌, inl, inr, count_by, arith, length-set, get_or-set_same, get_or-set_other}
use Rattle.std.proofs.lemmas.Bool.{cases_lt, cases_eq}
use Rattle.std.proofs.lemmas.List.{take_all}
use Rattle.content_repo.specs.declared.slot.Slot.{Slot}
use Rattle.content_repo.specs.Claims.{claim, AreReclaimedInPart}
use Rattle.content_repo.specs.SlotSet.{bit_of}
use Rattle.content_repo.specs.Slots.{unused, slot_numbered, is_idle, reclaimed}
use Rattle.content_repo.proofs.Cuts.{turns, turn_emptied, turn_here, still_empty, reclaimed_in_part, count_more, reclaimed_list, since_turn}
use Rattle.content_repo.proofs.content.Content.reclaim.Goals as goal

pub returns-in_err-emptied-clause-images : goal.returns-in_err-emptied-clause-images
returns-in_err-emptied-clause-images g c =
    let k = c.loop-number.number in
    since_turn g.D.Disk.moment g.D.Disk.images c.args.self.now (slot_numbered c.loop-number.self k) k c.args.disk.now c.loop-number.disk c.reclaim_at.new.disk
    (c.loop-number.invariant.behind k (omega arith)) c.loop-number.invariant.since c.reclaim_at.ensures.images

pub returns-in_err-emptied-clause-partly : goal.returns-in_err-emptied-clause-partly
returns-in_err-emptied-clause-partly g c =
    let slots = c.args.self.now in
    let k = c.loop-number.number in
    let now = g.D.Disk.held c.loop-number.disk in
    let new = g.D.Disk.held c.reclaim_at.new.disk in
    let inv = c.loop-number.invariant in
    subst (λ (left : List Slot). AreReclaimedInPart g.D.Disk.tells slots left new) (sym c.in_err-emptied.ensures.untouched)
    (reclaimed_in_part g.D.Disk.tells slots c.loop-number.self k new inv.before inv.behind
    (λ told j before idle. still_empty (slot_numbered c.loop-number.self k) k j now new before (c.reclaim_at.ensures.shortened told) (inv.done told j before idle)) inv.held)

pub loop-number-preserved : goal.loop-number-preserved
loop-number-preserved g c =
    let slots = c.args.self.now in
    let k = c.loop-number.number in
    let left = c.loop-number.self in
    let slot = slot_numbered left k in
    let old = g.D.Disk.held c.args.disk.now in
    let now = g.D.Disk.held c.loop-number.disk in
    let new = g.D.Disk.held c.reclaim_at.new.disk in
    let inv = c.loop-number.invariant in
    let same = inv.behind k (omega arith) in
    let value : c.reclaim_at.new.self ≡ set left k (reclaimed slot) = c.in_ok-emptied.ensures.value in
    let long : length left ≡ length slots = inv.long in
    let in_slots : k < length slots = omega (arith, c.loop-number-test.true, c.len-number-end.ensures.len) in
    record {
      since =
          since_turn g.D.Disk.moment g.D.Disk.images slots slot k c.args.disk.now c.loop-number.disk c.reclaim_at.new.disk same inv.since c.reclaim_at.ensures.images;
      faults = omega (arith, inv.faults, c.reclaim_at.ensures.cause.never_falls);
      so_far = λ told. turns slots slot k old now new same (inv.so_far told) (c.reclaim_at.ensures.shortened told);
      done = λ told j below idle.
          elim (cases_lt j k) [
            | inl earlier ↦ turn_emptied slot k j now new (c.in_ok-emptied.ensures.held told) (inv.done told j earlier idle)
            | inr late ↦
                let here : j ≡ k = omega (arith, below, late) in
                subst (λ (i : ℕ). new (claim i) ≡ []) (sym here)
                (turn_here slot k now new (c.in_ok-emptied.ensures.held told) (ap is_idle same ∙ subst (λ (i : ℕ). is_idle (slot_numbered slots i) ≡ true) here idle))
          ];
      held = c.in_ok-emptied.ensures.count ∙ inv.held;
      long = ap length value ∙ length-set left k (reclaimed slot) ∙ long;
      before = λ j below.
          ap (λ (l : List Slot). slot_numbered l j) value
          ∙ elim (cases_eq j k) as (λ _. slot_numbered (set left k (reclaimed slot)) j ≡ reclaimed (slot_numbered slots j)) [
            | inl here ↦
                ap (slot_numbered (set left k (reclaimed slot))) here ∙ get_or-set_same left k (reclaimed slot) unused (omega (arith, in_slots, long))
                ∙ ap reclaimed same ∙ ap (λ (i : ℕ). reclaimed (slot_numbered slots i)) (sym here)
            | inr differs ↦ get_or-set_other left k j (reclaimed slot) unused differs ∙ inv.before j (omega (arith, below, differs))
          ];
      behind = λ j past.
          ap (λ (l : List Slot). slot_numbered l j) value
          ∙ get_or-set_other left k j (reclaimed slot) unused (omega (arith, past)) ∙ inv.behind j (omega (arith, past));
      emptied = omega (arith, inv.emptied, c.in_ok-emptied.ensures.emptied, ap {B = ℕ} (λ (s : Slot). bit_of (is_idle s)) same, count_more slots k in_slots);
    }

pub returns-clause-reclaimed : goal.returns-clause-reclaimed
returns-clause-reclaimed g c =
    let slots = c.args.self.now in
    let inv = c.loop-number.invariant in
    let all = take_all c.loop-number.number slots (omega (arith, c.loop-number-test.false, c.len-number-end.ensures.len)) in
    record {
      emptied = ap (λ (n : ℕ). record { emptied = n; claimed = 0 }) (inv.emptied ∙ ap (count_by is_idle) all);
      slots =
          reclaimed_list slots c.loop-number.self inv.long
          (λ k within. inv.before k (omega (arith, within, c.loop-number-test.false, c.len-number-end.ensures.len)));
      held = inv.held;
      unused = c.len-number-end.ensures.unused;
    }

pub returns-clause-partly : goal.returns-clause-partly
returns-clause-partly g c =
    let inv = c.loop-number.invariant in
    reclaimed_in_part g.D.Disk.tells c.args.self.now c.loop-number.self c.loop-number.number (g.D.Disk.held c.loop-number.disk) inv.before inv.behind inv.done inv.held
