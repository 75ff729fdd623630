use Rattle.std.proofs.Common.{◌≡◌, ℕ, ◌+◌, ◌<◌, ◌≤◌, List, [], ◌∷◌, length, take, get_or, ap, sym, ◌∙◌, arith, length-append}
use Rattle.std.specs.Prelude.{Some, option_copied}
use Rattle.flowfile_record.specs.declared.stored.ActiveFile.{ActiveFile}
use Rattle.content_repo.specs.Slots.{count_of, size_of, held_in, references_to}
use Rattle.content_repo.specs.declared.slot.Slot.{Slot}
use Rattle.kept_state.specs.Fits.{active_of}
use Rattle.store_core.specs.Placing.{contents_of}
use Rattle.store_core.proofs.Giving.{next_some, next_none, given_within}
use Rattle.store_core.proofs.Referring.{unheld, refers_both, refers_once, once_itself}
use Rattle.store_core.proofs.contents.give_up.Goals as goal
use Rattle.store_core.proofs.contents.give_up.Goals.{in-Some, in_default}

-- the next content is held still
still_held : (slots start : List Slot) (files : List ActiveFile) (gone : List ℕ) (i : ℕ) (a : ActiveFile) → i < length gone → active_of (get_or gone i 0) files ≡ Some a
    → ((k : ℕ) → count_of slots k + references_to k (contents_of files (take i gone)) ≡ count_of start k)
    → ((k : ℕ) → references_to k (contents_of files gone) ≤ count_of start k) → 0 < count_of slots a.file.content.slot
still_held slots start files gone i a lt is counts enough =
    let at = a.file.content in
    omega (
      arith,
      counts at.slot,
      enough at.slot,
      given_within files gone at.slot (i + 1),
      ap (references_to at.slot) (next_some files gone i a lt is),
      refers_both at.slot (contents_of files (take i gone)) (at ∷ []),
      refers_once at.slot at,
      once_itself at.slot,
    )

pub unhold-requires : goal.unhold-requires
unhold-requires c =
    still_held c.loop-number.contents c.args.contents.now c.args.files.now.items c.args.gone.now c.loop-number.number-index c.in-Some.active.now c.loop-number-test.true
    (sym c.get.ensures ∙ ap option_copied c.in-Some.is) c.loop-number.invariant.counts c.requires

pub loop-number-preserved : goal.loop-number-preserved
loop-number-preserved c =
    let slots = c.loop-number.contents in
    let files = c.args.files.now.items in
    let gone = c.args.gone.now in
    let i = c.loop-number.number-index in
    let inv = c.loop-number.invariant in
    let before = contents_of files (take i gone) in
    elim c.match-get.branch [
      | in-Some w ↦
          let a = w.in-Some.active.now in
          let at = a.file.content in
          let found = sym c.get.ensures ∙ ap option_copied w.in-Some.is in
          let some = still_held slots c.args.contents.now files gone i a c.loop-number-test.true found inv.counts c.requires in
          let more = next_some files gone i a c.loop-number-test.true found in
          let less = λ (k : ℕ). unheld slots w.unhold.new.self at k some w.unhold.ensures.value in
          record {
            counts = λ k.
                omega (
                  arith,
                  ap (λ (l : List Slot). count_of l k) w.contents-is,
                  (less k).0,
                  inv.counts k,
                  ap (references_to k) more,
                  refers_both k before (at ∷ []),
                  refers_once k at,
                );
            held = omega (arith, ap held_in w.contents-is, w.unhold.ensures.held, inv.held, ap length more, length-append before (at ∷ []));
            sizes = λ k. ap (λ (l : List Slot). size_of l k) w.contents-is ∙ (less k).1 ∙ inv.sizes k;
          }
      | in_default w ↦
          let found = sym c.get.ensures ∙ ap option_copied w.in_default.is in
          let same = next_none files gone i c.loop-number-test.true found in
          record {
            counts = λ k. omega (arith, ap (λ (l : List Slot). count_of l k) w.contents-is, inv.counts k, ap (references_to k) same);
            held = omega (arith, ap held_in w.contents-is, inv.held, ap length same);
            sizes = λ k. ap (λ (l : List Slot). size_of l k) w.contents-is ∙ inv.sizes k;
          }
    ]
