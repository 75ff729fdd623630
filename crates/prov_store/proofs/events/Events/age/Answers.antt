use Rattle.std.proofs.Common.{◌≡◌, ℕ, ◌+◌, ◌-◌, ◌/◌, ◌%◌, ◌≤◌, ◌<◌, List, [], length, get_or, refl, sym, ap, subst, ◌∙◌, arith}
use Rattle.std.specs.Prelude.{Ok, Contains, filter, nat_lt}
use Rattle.std.proofs.lemmas.List.{get_or_default}
use Rattle.disk_trait.specs.Images.{After, next_moment, calls_later}
use Rattle.disk_trait.proofs.FileTables.{on_err}
use Rattle.disk_trait.proofs.Moments.{one_call_more, more_calls, wider, nothing}
use Rattle.disk_trait.specs.declared.file_name.FileName.{FileName}
use Rattle.flowfile_record.specs.declared.event.Event.{Event}
use Rattle.flowfile_record.specs.declared.limits.TheConstants.{EVENTS_PER_FILE}
use Rattle.prov_store.specs.Aging.{AreUncounted}
use Rattle.prov_store.specs.Events.{events_file, events_of_files}
use Rattle.prov_store.specs.State.{EventsState, EventsAreReady, IsEventLine, HasCalledAtMost, AreFewer, CutsStale, counts_of, files_between}
use Rattle.prov_store.proofs.Aging.{is_between, between_at, many_between, no_size_between, ages_keep, one_file_gone, uncounted_none, counts_left, fewer_same, fewer_more, parted, aged, aged_has, aged_stale, left_past}
use Rattle.prov_store.proofs.Cutting.{CutSoFar, SameSizes, cuts_nothing, none_cut, cuts_left, cut_more, cut_shortens, cuts_on, all_cut}
use Rattle.prov_store.proofs.InFiles.{events_stay, none_of_files}
use Rattle.prov_store.proofs.Keeping.{stale_files}
use Rattle.prov_store.proofs.Listing.{as_stale}
use Rattle.prov_store.proofs.events.Events.age.Goals as goal

-- the line of now
line_of : (line end : ℕ) (state : EventsState) → line ≡ state.line → end ≡ state.end → IsEventLine line end → IsEventLine state.line state.end
line_of line end state line_is end_is of = record { whole = ap (λ (n : ℕ). n % EVENTS_PER_FILE) (sym line_is) ∙ of.whole; within = omega (arith, of.within, line_is, end_is) }

pub loop-number-init : goal.loop-number-init
loop-number-init g c =
    let self = c.args.self.now in
    let line : c.self.inside.line ≡ self.line = ap (λ s. s.line) c.self.view_is in
    let of = line_of c.self.inside.line c.self.inside.end self line (ap (λ s. s.end) c.self.view_is) c.self.invariant.1 in
    let between = files_between self.line c.args.line in
    let zero : c.self.inside.line / EVENTS_PER_FILE - self.line / EVENTS_PER_FILE ≡ 0 = omega (arith, line) in
    record {
      from = omega (arith, line);
      left = wider g.D.Disk.moment g.D.Disk.images c.args.disk.now c.args.disk.now (g.D.Disk.images c.args.disk.now (g.D.Disk.moment c.args.disk.now))
          (After (CutsStale between) (g.D.Disk.images c.args.disk.now (g.D.Disk.moment c.args.disk.now)))
          (nothing g.D.Disk.moment g.D.Disk.images c.args.disk.now) (λ d left. (d, left, cuts_nothing between d));
      held = λ told. subst (λ (n : ℕ). CutSoFar n between (g.D.Disk.held c.args.disk.now) (g.D.Disk.held c.args.disk.now)) (sym zero) (none_cut between (g.D.Disk.held c.args.disk.now));
      later = λ told k from. refl;
      uncounted = λ told gone is.
          let none = none_of_files (c.self.inside.line / EVENTS_PER_FILE) self.line self.end 0 (g.D.Disk.held c.args.disk.now) (omega (arith, line, of.whole)) in
          let counts : c.self.inside.counts.counts ≡ self.counts = ap (λ s. s.counts) c.self.view_is in
          let empty : [] ≡ gone = cc (none, is) in
          subst (λ (l : List Event). AreUncounted l self.counts c.self.inside.counts.counts) empty
          (subst (λ (l : List ℕ). AreUncounted [] self.counts l) (sym counts) (uncounted_none self.counts));
      fewer = subst (λ (l : List ℕ). AreFewer self.counts l) (sym (ap (λ s. s.counts) c.self.view_is)) (fewer_same self.counts);
      faults = omega arith;
      calls = ap (λ (n : ℕ). calls_later n (g.D.Disk.moment c.args.disk.now)) (sym zero);
    }

-- the file that is cut next, by its place among those between the lines
pub record Next (line later number : ℕ) : Type 0 where
  pub within : number - line / EVENTS_PER_FILE < length (files_between line later)
  pub is : get_or (files_between line later) (number - line / EVENTS_PER_FILE) (as_stale number) ≡ as_stale number
  pub listed : Contains (stale_files (files_between line later)) number
  pub sizes : SameSizes (files_between line later) (as_stale number)

next_file_is : (line later number : ℕ) → line / EVENTS_PER_FILE ≤ number → number < later / EVENTS_PER_FILE → Next line later number
next_file_is line later number from lt =
    let a = line / EVENTS_PER_FILE in
    let place : number ≡ a + (number - a) = omega (arith, from) in
    record {
      within = omega (arith, many_between line later, from, lt);
      is = between_at line later (number - a) (as_stale number) (omega (arith, from, lt)) (ap as_stale place);
      listed = is_between line later number from lt;
      sizes = λ i d lt same. no_size_between line later i d lt;
    }

pub returns-in_err-forget_file-clause-between : goal.returns-in_err-forget_file-clause-between
returns-in_err-forget_file-clause-between g c =
    let laws = g.met.D.Disk g.world.𝓛 g.world.𝓜 g.world.𝓡 ((λ s x. x), (λ x. x), (λ x. x), λ x. x) in
    let inv = c.loop-number.invariant in
    let self = c.args.self.now in
    let number = c.loop-number.number in
    let next = next_file_is self.line c.args.line number inv.from c.loop-number-test.true in
    let between = files_between self.line c.args.line in
    let old = g.D.Disk.held c.args.disk.now in
    let mid = c.loop-number.disk in
    let new = c.forget_file.new.disk in
    record {
      files = λ told.
          cuts_on between (as_stale number) old (g.D.Disk.held mid) (g.D.Disk.held new) next.listed next.sizes
          (cut_shortens (number - self.line / EVENTS_PER_FILE) between old (g.D.Disk.held mid) (inv.held told)) (c.forget_file.ensures.shortened.files told);
      left =
          cuts_left g.D.Disk.tells g.D.Disk.moment g.D.Disk.images (λ disk k d left. laws.left_is_told disk k d left) between (as_stale number) c.args.disk.now mid new
          next.listed (λ told. next.sizes) inv.left c.forget_file.ensures.shortened.left;
    }

pub returns-in_err-forget_file-clause-refused : goal.returns-in_err-forget_file-clause-refused
returns-in_err-forget_file-clause-refused g c =
    let inv = c.loop-number.invariant in
    let self = c.args.self.now in
    let of = line_of c.self.inside.line c.self.inside.end self (ap (λ s. s.line) c.self.view_is) (ap (λ s. s.end) c.self.view_is) c.self.invariant.1 in
    let i = c.loop-number.number - self.line / EVENTS_PER_FILE in
    let last = c.in_err-forget_file.ensures.refused in
    let called : HasCalledAtMost ((c.args.line - self.line) / EVENTS_PER_FILE) (g.D.Disk.moment c.args.disk.now) (g.D.Disk.moment c.forget_file.new.disk) = record {
      calls = i + last.calls;
      most = omega (arith, last.most, c.loop-number-test.true, inv.from, of.whole, c.requires.line.whole);
      moment = last.moment ∙ ap (calls_later last.calls) inv.calls ∙ more_calls i last.calls (g.D.Disk.moment c.args.disk.now);
    } in
    on_err c.from_residual.result (record { unchanged = refl; called = called })

pub loop-number-preserved : goal.loop-number-preserved
loop-number-preserved g c =
    let laws = g.met.D.Disk g.world.𝓛 g.world.𝓜 g.world.𝓡 ((λ s x. x), (λ x. x), (λ x. x), λ x. x) in
    let inv = c.loop-number.invariant in
    let self = c.args.self.now in
    let of = line_of c.self.inside.line c.self.inside.end self (ap (λ s. s.line) c.self.view_is) (ap (λ s. s.end) c.self.view_is) c.self.invariant.1 in
    let number = c.loop-number.number in
    let i = number - self.line / EVENTS_PER_FILE in
    let more : i + 1 ≡ number + 1 - self.line / EVENTS_PER_FILE = omega (arith, inv.from) in
    let next = next_file_is self.line c.args.line number inv.from c.loop-number-test.true in
    let between = files_between self.line c.args.line in
    let old = g.D.Disk.held c.args.disk.now in
    let mid = c.loop-number.disk in
    let new = c.forget_file.new.disk in
    record {
      from = omega (arith, inv.from);
      left =
          cuts_left g.D.Disk.tells g.D.Disk.moment g.D.Disk.images (λ disk k d left. laws.left_is_told disk k d left) between (as_stale number) c.args.disk.now mid new
          next.listed (λ told. next.sizes) inv.left c.forget_file.ensures.shortened.left;
      held = λ told.
          subst (λ (n : ℕ). CutSoFar n between old (g.D.Disk.held new)) more
          (cut_more i between (as_stale number) old (g.D.Disk.held mid) (g.D.Disk.held new) next.within next.is next.sizes (inv.held told) (c.in_ok-forget_file.ensures.cut told));
      later = λ told k from.
          (c.in_ok-forget_file.ensures.cut told).others (events_file k) (λ same. absurd (omega (arith, from, ap (λ (f : FileName). f.number) same))) ∙ inv.later told k (omega (arith, from));
      uncounted = λ told gone is.
          one_file_gone self.line self.end number old (g.D.Disk.held mid) self.counts c.loop-number.counts.counts c.forget_file.new.counts.counts gone is
          (omega (arith, inv.from, c.loop-number-test.true, of.whole, c.requires.line.whole, c.requires.line.within)) (inv.later told number (omega arith))
          (inv.uncounted told) (λ here read. c.in_ok-forget_file.ensures.uncounted told here read);
      fewer = fewer_more self.counts c.loop-number.counts.counts c.forget_file.new.counts.counts inv.fewer c.forget_file.ensures.fewer;
      faults = omega (arith, inv.faults, c.forget_file.ensures.cause.never_falls);
      calls = c.in_ok-forget_file.ensures.moment ∙ ap next_moment inv.calls ∙ one_call_more i (g.D.Disk.moment c.args.disk.now)
          ∙ ap (λ (n : ℕ). calls_later n (g.D.Disk.moment c.args.disk.now)) more;
    }

pub invariant_of-self : goal.invariant_of-self
invariant_of-self g c =
    let inv = c.loop-number.invariant in
    let counts : c.self.inside.counts.counts ≡ c.args.self.now.counts = ap (λ s. s.counts) c.self.view_is in
    let end : c.self.inside.end ≡ c.args.self.now.end = ap (λ s. s.end) c.self.view_is in
    let long : length c.loop-number.counts.counts ≡ 12 = inv.fewer.long ∙ ap length (sym counts) ∙ c.self.invariant.2 in (
      c.self.invariant.0,
      record { whole = c.requires.line.whole; within = omega (arith, c.requires.line.within, end) },
      long,
      λ k d lt.
          let there : k < length c.self.inside.counts.counts = omega (arith, lt, long, c.self.invariant.2) in
          let most = c.self.invariant.3 k 0 there in
          omega (arith, get_or_default c.loop-number.counts.counts k d 0 lt, inv.fewer.fewer k, ap (λ (l : List ℕ). get_or l k 0) counts, most),
    )

pub returns-clause-kept : goal.returns-clause-kept
returns-clause-kept g c told before is =
    let inv = c.loop-number.invariant in
    let self = c.args.self.now in
    let of = line_of c.self.inside.line c.self.inside.end self (ap (λ s. s.line) c.self.view_is) (ap (λ s. s.end) c.self.view_is) c.self.invariant.1 in
    let old = g.D.Disk.held c.args.disk.now in
    let new = g.D.Disk.held c.loop-number.disk in
    let le : self.line ≤ c.args.line = omega (arith, c.requires.past) in
    let ready = c.requires.ready told in
    let p = parted self c.args.line old of c.requires.line le ready in
    let between = files_between self.line c.args.line in
    let cuts = cut_shortens (c.loop-number.number - self.line / EVENTS_PER_FILE) between old new (inv.held told) in
    let keeps = ages_keep self.line c.args.line self.end old new cuts in
    let same : ready.has.events ≡ before = cc (ready.has.says, is) in
    events_stay c.args.line self.end old new p.back keeps.events p.says
    ∙ ap Ok (sym (left_past self c.args.line old of c.requires.line le ready) ∙ ap (filter (λ e. nat_lt c.args.line e.number)) same)

pub returns-clause-aged : goal.returns-clause-aged
returns-clause-aged g c =
    let inv = c.loop-number.invariant in
    let self = c.args.self.now in
    let line = c.args.line in
    let of = line_of c.self.inside.line c.self.inside.end self (ap (λ s. s.line) c.self.view_is) (ap (λ s. s.end) c.self.view_is) c.self.invariant.1 in
    let old = g.D.Disk.held c.args.disk.now in
    let new = g.D.Disk.held c.loop-number.disk in
    let le : self.line ≤ line = omega (arith, c.requires.past) in
    let between = files_between self.line line in
    let counts = c.loop-number.counts.counts in
    let begun : c.self.inside.line ≡ self.line = ap (λ s. s.line) c.self.view_is in
    let done_all : c.loop-number.number ≡ line / EVENTS_PER_FILE = omega (arith, c.loop-number-test.false, c.loop-number.auto.number-end (omega (arith, le, begun))) in
    let first = self.line / EVENTS_PER_FILE in
    let view : EventsState = record { line = c.self.inside.line; end = c.self.inside.end; offset = c.self.inside.offset; counts = c.self.inside.counts.counts; stale = c.self.inside.stale.items } in
    let view_is : view ≡ self = c.self.view_is in
    let state = ap (λ (s : EventsState). record s { line = line; counts = counts }) view_is in
    let many : c.loop-number.number - first ≡ (line - self.line) / EVENTS_PER_FILE = omega (arith, done_all, of.whole, c.requires.line.whole, le) in
    record {
      ready = λ told.
          let ready = c.requires.ready told in
          let p = parted self line old of c.requires.line le ready in
          let gone = inv.uncounted told p.front (ap (λ (n : ℕ). events_of_files n self.line self.end 0 old) done_all ∙ p.first) in
          let long : length counts ≡ 12 = inv.fewer.long ∙ ap length (sym (ap (λ (s : EventsState). s.counts) view_is)) ∙ c.self.invariant.2 in
          let counted : counts ≡ counts_of p.back = counts_left p.front p.back self.counts counts long (ready.has.counts ∙ ap counts_of p.both) gone in
          let all : c.loop-number.number - first ≡ length between = omega (arith, done_all, many_between self.line line) in
          let done = all_cut (aged self line old of c.requires.line le ready counts) (record (aged self line old of c.requires.line le ready counts) { stale = [] }) old new
          (aged_has self line old of c.requires.line le ready counts counted) (aged_stale self line old of c.requires.line le ready counts)
          (subst (λ (n : ℕ). CutSoFar n between old new) all (inv.held told)) refl in
          subst (λ (s : EventsState). EventsAreReady s new) (sym state) (record {
            has = record { events = done.has.events; says = done.has.says; offset = done.has.offset; counts = done.has.counts };
            trimmed = done.trimmed;
          });
      state = state;
      counts = inv.fewer;
      cuts = inv.calls ∙ ap (λ (n : ℕ). calls_later n (g.D.Disk.moment c.args.disk.now)) many;
    }

pub returns-clause-between : goal.returns-clause-between
returns-clause-between g c =
    let inv = c.loop-number.invariant in
    let self = c.args.self.now in
    record {
      files = λ told. cut_shortens (c.loop-number.number - self.line / EVENTS_PER_FILE) (files_between self.line c.args.line) (g.D.Disk.held c.args.disk.now) (g.D.Disk.held c.loop-number.disk) (inv.held told);
      left = inv.left;
    }
