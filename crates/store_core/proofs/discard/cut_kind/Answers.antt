use Rattle.std.proofs.Common.{◌≡◌, ◌⊎◌, ⊎_elim, ℕ, ◌^◌, ◌<◌, ◌≤◌, length, true, List, slice_index, subst, sym, ap, ◌∙◌, inl, inr, arith}
use Rattle.std.proofs.lemmas.Bool.{cases_lt, false≢true}
use Rattle.std.proofs.lemmas.List.{get_or_default}
use Rattle.disk_trait.specs.Files.{Files, named}
use Rattle.store_core.specs.Discard.{spares, CutsKind}
use Rattle.disk_trait.proofs.Moments.{only_read}
use Rattle.store_core.proofs.Cutting.{cuts_nothing, cuts_in_turn, since_cut, since_nothing_cut}
use Rattle.store_core.proofs.discard.cut_kind.Goals as goal

pub loop-number-init : goal.loop-number-init
loop-number-init g c = record {
  since = since_nothing_cut c.args.kind (spares c.args.spared) c.args.size g.D.Disk.moment g.D.Disk.images c.args.disk.now c.files.new.self
      (only_read g.D.Disk.moment g.D.Disk.images g.D.Disk.held c.args.disk.now c.files.new.self c.files.ensures.stays);
  faults = c.files.ensures.cause.never_falls;
  cut = λ told. subst (λ (files : Files). CutsKind c.args.kind (spares c.args.spared) c.args.size (g.D.Disk.held c.args.disk.now) files) (sym c.files.ensures.stays.files) (cuts_nothing c.args.kind (spares c.args.spared) c.args.size (g.D.Disk.held c.args.disk.now));
  done = λ told i before. absurd (omega (arith, before));
}

pub returns-in_err-cut_unless_spared-clause-images : goal.returns-in_err-cut_unless_spared-clause-images
returns-in_err-cut_unless_spared-clause-images g c =
    since_cut c.args.kind (spares c.args.spared) c.args.size g.D.Disk.moment g.D.Disk.images
    c.args.disk.now c.loop-number.disk c.cut_unless_spared.new.disk c.loop-number.invariant.since c.cut_unless_spared.ensures.images

pub loop-number-preserved : goal.loop-number-preserved
loop-number-preserved g c =
    let list = c.deref-number-items.result.now in
    let index = c.loop-number.number-index in
    let now = g.D.Disk.held c.loop-number.disk in
    let new = g.D.Disk.held c.cut_unless_spared.new.disk in
    let inv = c.loop-number.invariant in
    record {
      since =
          since_cut c.args.kind (spares c.args.spared) c.args.size g.D.Disk.moment g.D.Disk.images
          c.args.disk.now c.loop-number.disk c.cut_unless_spared.new.disk inv.since c.cut_unless_spared.ensures.images;
      faults = omega (arith, inv.faults, c.cut_unless_spared.ensures.cause.never_falls);
      cut = λ told.
          cuts_in_turn c.args.kind (spares c.args.spared) c.args.size (g.D.Disk.held c.args.disk.now) now new (inv.cut told) (c.in_ok-cut_unless_spared.ensures.cut told);
      done = λ told i before.
          elim (cases_lt i index) [
            | inl earlier ↦ ⊎_elim
                (λ (spared : spares c.args.spared (slice_index list i) ≡ true). inl spared)
                (λ (short : length (now (named c.args.kind (slice_index list i))) ≤ c.args.size).
                inr (omega (arith, short, ((c.in_ok-cut_unless_spared.ensures.cut told).each (named c.args.kind (slice_index list i))).no_longer)))
                (inv.done told i earlier)
            | inr late ↦
                let same : i ≡ index = omega (arith, before, late) in
                subst (λ (j : ℕ). (spares c.args.spared (slice_index list j) ≡ true) ⊎ (length (new (named c.args.kind (slice_index list j))) ≤ c.args.size)) (sym same)
                (c.in_ok-cut_unless_spared.ensures.short told)
          ];
    }

pub returns-clause-cut : goal.returns-clause-cut
returns-clause-cut g c told =
    let laws = g.met.D.Disk g.world.𝓛 g.world.𝓜 g.world.𝓡 ((λ s x. x), (λ x. x), (λ x. x), λ x. x) in
    let list = c.deref-number-items.result.now in
    let first = c.args.disk.now in
    let old = g.D.Disk.held first in
    let now = g.D.Disk.held c.loop-number.disk in
    let inv = c.loop-number.invariant in
    let kind = c.args.kind in
    record {
      step = inv.cut told;
      short = λ n cut.
          elim (cases_lt 0 (length (old (named kind n)))) [
            | inr none ↦ omega (arith, none, ((inv.cut told).each (named kind n)).no_longer)
            | inl some ↦ elim (cases_lt n (2 ^ 64)) [
              | inr past ↦
                  let empty = laws.images_end first (g.D.Disk.moment first) old (named kind n) (laws.held_is_left first told) past in
                  absurd (omega (arith, some, ap length empty))
              | inl below ↦
                  let found = (c.in_ok-files.ensures.listed told n below).1 some in
                  let i = found.0 in
                  let items = c.files.new.list.items in
                  let same : list ≡ items = c.deref-number-items.ensures.value in
                  let within : i < length list = omega (arith, found.1, ap length same) in
                  let at : slice_index list i ≡ n = ap (λ (l : List ℕ). slice_index l i) same ∙ get_or_default items i 0 n found.1 ∙ found.2 in
                  ⊎_elim
                  (λ (spared : spares c.args.spared (slice_index list i) ≡ true).
                  absurd (false≢true (sym cut ∙ subst (λ (m : ℕ). spares c.args.spared m ≡ true) at spared)))
                  (λ (short : length (now (named kind (slice_index list i))) ≤ c.args.size).
                  subst (λ (m : ℕ). length (now (named kind m)) ≤ c.args.size) at short)
                  (inv.done told i (omega (arith, within, c.loop-number-test.false)))
            ]
          ];
    }
