use Rattle.std.proofs.Common.{◌≡◌, ℕ, ◌+◌, ◌<◌, ◌≤◌, List, length, get_or, take, refl, sym, ap, subst, ◌∙◌, arith, rules}
use Rattle.std.proofs.lemmas.List.{get_or_default}
use Rattle.disk_trait.specs.Files.{At, Shortened}
use Rattle.disk_trait.specs.Images.{After, Since, HasCalled, next_moment, calls_later}
use Rattle.disk_trait.proofs.Moments.{one_call_more}
use Rattle.disk_trait.specs.declared.file_name.FileName.{FileName}
use Rattle.disk_trait.proofs.FileTables.{on_err}
use Rattle.disk_trait.proofs.Moments.{wider, nothing}
use Rattle.prov_store.specs.State.{CutsStale}
use Rattle.prov_store.specs.declared.events.Stale.{Stale}
use Rattle.prov_store.proofs.Cutting.{CutSoFar, cuts_nothing, none_cut, cuts_left, cut_more, cut_shortens, cuts_on, same_sizes, long_enough, all_cut}
use Rattle.prov_store.proofs.Keeping.{is_listed}
use Rattle.prov_store.proofs.events.Events.trim.Goals as goal

abbrev zero_stale : Stale
zero_stale = record { file = 0; size = 0 }

same_list : (list stale : List Stale) (i : ℕ) → list ≡ stale → i < length list → get_or stale i (get_or list i zero_stale) ≡ get_or list i zero_stale
same_list list stale i same within =
    let one = get_or list i zero_stale in
    ap (λ (l : List Stale). get_or l i one) (sym same) ∙ get_or_default list i one zero_stale within

pub loop-stale-init : goal.loop-stale-init
loop-stale-init g c =
    let list = c.deref-stale-items.ensures.value ∙ ap (λ s. s.stale) c.self.view_is in
    record {
      list = list;
      left = wider g.D.Disk.moment g.D.Disk.images c.args.disk.now c.args.disk.now (g.D.Disk.images c.args.disk.now (g.D.Disk.moment c.args.disk.now))
          (After (CutsStale c.args.self.now.stale) (g.D.Disk.images c.args.disk.now (g.D.Disk.moment c.args.disk.now)))
          (nothing g.D.Disk.moment g.D.Disk.images c.args.disk.now) (λ d left. (d, left, cuts_nothing c.args.self.now.stale d));
      held = λ told. none_cut c.args.self.now.stale (g.D.Disk.held c.args.disk.now);
      faults = omega arith;
      calls = search rules;
    }

pub cut-requires : goal.cut-requires
cut-requires g c told =
    let inv = c.loop-stale.invariant in
    let i = c.loop-stale.stale-index in
    let s = get_or c.deref-stale-items.result.now i zero_stale in
    let within : i < length c.args.self.now.stale = omega (arith, c.loop-stale-test.true, ap length inv.list) in
    let fits = long_enough c.args.self.now i s (g.D.Disk.held c.args.disk.now) (g.D.Disk.held c.loop-stale.disk) (c.requires.events told) (c.requires.stale told) within
    (same_list c.deref-stale-items.result.now c.args.self.now.stale i inv.list c.loop-stale-test.true) (inv.held told) in
    subst (λ (f : FileName). s.size ≤ length (g.D.Disk.held c.loop-stale.disk f)) (sym c.file_named.ensures) fits

-- what a cut that is under way may leave
pub returns-in_err-cut-clause-behind : goal.returns-in_err-cut-clause-behind
returns-in_err-cut-clause-behind g c =
    let laws = g.met.D.Disk g.world.𝓛 g.world.𝓜 g.world.𝓡 ((λ s x. x), (λ x. x), (λ x. x), λ x. x) in
    let inv = c.loop-stale.invariant in
    let i = c.loop-stale.stale-index in
    let stale = c.args.self.now.stale in
    let s = get_or c.deref-stale-items.result.now i zero_stale in
    let is = same_list c.deref-stale-items.result.now stale i inv.list c.loop-stale-test.true in
    let within : i < length stale = omega (arith, c.loop-stale-test.true, ap length inv.list) in
    let old = g.D.Disk.held c.args.disk.now in
    let mid = c.loop-stale.disk in
    let new = c.cut.new.self in
    record {
      files = λ told.
          cuts_on stale s old (g.D.Disk.held mid) (g.D.Disk.held new) (is_listed stale i s within is) (same_sizes c.args.self.now old s i (c.requires.stale told) within is)
          (cut_shortens i stale old (g.D.Disk.held mid) (inv.held told))
          (subst (λ (f : FileName). At f (Shortened s.size) (g.D.Disk.held mid) (g.D.Disk.held new)) c.file_named.ensures (c.cut.ensures.shortened told));
      left =
          cuts_left g.D.Disk.tells g.D.Disk.moment g.D.Disk.images (λ disk k d left. laws.left_is_told disk k d left) stale s c.args.disk.now mid new
          (is_listed stale i s within is) (λ told. same_sizes c.args.self.now old s i (c.requires.stale told) within is) inv.left
          (subst (λ (f : FileName). Since g.D.Disk.moment g.D.Disk.images mid new (After (At f (Shortened s.size)) (g.D.Disk.images mid (g.D.Disk.moment mid)))) c.file_named.ensures c.cut.ensures.images);
    }

pub returns-in_err-cut-clause-cause : goal.returns-in_err-cut-clause-cause
returns-in_err-cut-clause-cause g c = record {
  never_falls = omega (arith, c.loop-stale.invariant.faults, c.cut.ensures.cause.never_falls);
  rose = λ failed below. let rose = c.in_err-cut.ensures.cause.rose refl below in omega (arith, rose, c.loop-stale.invariant.faults);
}

pub loop-stale-preserved : goal.loop-stale-preserved
loop-stale-preserved g c =
    let laws = g.met.D.Disk g.world.𝓛 g.world.𝓜 g.world.𝓡 ((λ s x. x), (λ x. x), (λ x. x), λ x. x) in
    let inv = c.loop-stale.invariant in
    let i = c.loop-stale.stale-index in
    let stale = c.args.self.now.stale in
    let s = get_or c.deref-stale-items.result.now i zero_stale in
    let is = same_list c.deref-stale-items.result.now stale i inv.list c.loop-stale-test.true in
    let within : i < length stale = omega (arith, c.loop-stale-test.true, ap length inv.list) in
    let old = g.D.Disk.held c.args.disk.now in
    let mid = c.loop-stale.disk in
    let new = c.cut.new.self in
    record {
      list = inv.list;
      left =
          cuts_left g.D.Disk.tells g.D.Disk.moment g.D.Disk.images (λ disk k d left. laws.left_is_told disk k d left) stale s c.args.disk.now mid new
          (is_listed stale i s within is) (λ told. same_sizes c.args.self.now old s i (c.requires.stale told) within is) inv.left
          (subst (λ (f : FileName). Since g.D.Disk.moment g.D.Disk.images mid new (After (At f (Shortened s.size)) (g.D.Disk.images mid (g.D.Disk.moment mid)))) c.file_named.ensures c.cut.ensures.images);
      held = λ told.
          cut_more i stale s old (g.D.Disk.held mid) (g.D.Disk.held new) within is (same_sizes c.args.self.now old s i (c.requires.stale told) within is) (inv.held told)
          (subst (λ (f : FileName). At f (λ a b. b ≡ take s.size a) (g.D.Disk.held mid) (g.D.Disk.held new)) c.file_named.ensures (c.in_ok-cut.ensures.cut told));
      faults = omega (arith, inv.faults, c.cut.ensures.cause.never_falls);
      calls = c.cut.ensures.moment ∙ ap next_moment inv.calls ∙ one_call_more i (g.D.Disk.moment c.args.disk.now);
    }

pub returns-clause-trimmed : goal.returns-clause-trimmed
returns-clause-trimmed g c =
    let inv = c.loop-stale.invariant in
    let all : c.loop-stale.stale-index ≡ length c.args.self.now.stale = omega (arith, c.loop-stale-test.false, c.loop-stale.auto.stale-index-end, ap length inv.list) in
    record {
      ready = λ told.
          all_cut c.args.self.now _ (g.D.Disk.held c.args.disk.now) (g.D.Disk.held c.loop-stale.disk) (c.requires.events told) (c.requires.stale told)
          (subst (λ (n : ℕ). CutSoFar n c.args.self.now.stale (g.D.Disk.held c.args.disk.now) (g.D.Disk.held c.loop-stale.disk)) all (inv.held told))
          (search rules);
      state = search rules;
      cuts = inv.calls ∙ ap (λ (n : ℕ). calls_later n (g.D.Disk.moment c.args.disk.now)) all;
    }

pub returns-clause-behind : goal.returns-clause-behind
returns-clause-behind g c =
    let inv = c.loop-stale.invariant in
    record {
      files = λ told. cut_shortens c.loop-stale.stale-index c.args.self.now.stale (g.D.Disk.held c.args.disk.now) (g.D.Disk.held c.loop-stale.disk) (inv.held told);
      left = inv.left;
    }

pub returns-clause-cause : goal.returns-clause-cause
returns-clause-cause g c = record {
  never_falls = c.loop-stale.invariant.faults;
  rose = λ failed. cc failed;
}

pub returns-in_err-cut-clause-refused : goal.returns-in_err-cut-clause-refused
returns-in_err-cut-clause-refused g c =
    let inv = c.loop-stale.invariant in
    let i = c.loop-stale.stale-index in
    let called : HasCalled (length c.args.self.now.stale) (g.D.Disk.moment c.args.disk.now) (g.D.Disk.moment c.cut.new.self) = record {
      calls = i + 1;
      some = omega arith;
      most = omega (arith, c.loop-stale-test.true, ap length inv.list);
      moment = c.cut.ensures.moment ∙ ap next_moment inv.calls ∙ one_call_more i (g.D.Disk.moment c.args.disk.now);
    } in
    on_err c.from_residual.result (record { unchanged = refl; called = called })
