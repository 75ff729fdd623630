use Rattle.std.proofs.Common.{◌≡◌, ℕ, ◌+◌, ◌-◌, ◌/◌, ◌<◌, ◌≤◌, ◌++◌, ◌%◌, List, [], false, length, get_or, take, drop, refl, sym, ap, subst, ◌∙◌, arith}
use Rattle.std.specs.Prelude.{◌==◌}
use Rattle.std.proofs.lemmas.Bool.Decides.{nat_tests}
use Rattle.std.proofs.lemmas.List.{length-drop, take_all}
use Rattle.disk_trait.proofs.FileTables.{on_err}
use Rattle.disk_trait.specs.Images.{HasCalled, next_moment, calls_later}
use Rattle.flowfile_record.specs.declared.event.Event.{Event}
use Rattle.prov_store.specs.Blocks.{blocks_of, AreEventParts, AreEncoded, next_offset}
use Rattle.prov_store.specs.Growing.{Stands}
use Rattle.prov_store.specs.State.{IsEventLine, files_for}
use Rattle.flowfile_record.specs.declared.limits.TheConstants.{EVENTS_PER_FILE}
use Rattle.prov_store.specs.declared.blocks.Part.{Part}
use Rattle.disk_trait.proofs.Moments.{one_call_more}
use Rattle.prov_store.proofs.Growing.{ends_there, grows_on, grows_left}
use Rattle.prov_store.proofs.Parting.{no_part_is, as_many_files}
use Rattle.prov_store.proofs.Writing.{at_part, part_stands}
use Rattle.prov_store.proofs.events.Events.write_parts.Goals as goal

abbrev zero_part : Part
zero_part = record { count = 0; size = 0 }

-- a place behind the part is no earlier in the same file
still_behind : (begun offset last at count size : ℕ) → begun / EVENTS_PER_FILE ≤ last / EVENTS_PER_FILE → (last / EVENTS_PER_FILE ≡ begun / EVENTS_PER_FILE → offset ≤ at) → 0 < count
    → (last + count) / EVENTS_PER_FILE ≡ begun / EVENTS_PER_FILE → offset ≤ next_offset (last + count) (at + size)
still_behind begun offset last at count size late behind some here =
    let same : last / EVENTS_PER_FILE ≡ begun / EVENTS_PER_FILE = omega (arith, here, late) in
    let part : (last + count) % EVENTS_PER_FILE == 0 ≡ false = grind (arith, nat_tests, some, here, late) in
    let le = behind same in
    rw part (omega (arith, le))

-- what is known of the events
encoded : (first : ℕ) (events other : List Event) (bytes : List ℕ) (parts : List Part) → events ≡ other → AreEncoded first events bytes parts → AreEncoded first other bytes parts
encoded first events other bytes parts same is = subst (λ (l : List Event). AreEncoded first l bytes parts) same is

pub overflow_add-end : goal.overflow_add-end
overflow_add-end g c =
    let inv = c.loop-part.invariant in
    let inside = c.blocks-2.inside in
    let events = c.args.blocks.now.events in
    let same : inside.events.now ≡ events = ap (λ b. b.events) c.blocks-2.view_is in
    let first : inside.first ≡ c.args.self.now.end + 1 = ap (λ b. b.first) c.blocks-2.view_is ∙ c.requires.next in
    let at = at_part c.args.self.now.end inside.first events inside.bytes.items inside.parts.items c.loop-part.place.end c.loop-part.start c.loop-part.part-index
    c.deref-part-items.result.now zero_part (encoded inside.first inside.events.now events inside.bytes.items inside.parts.items same c.blocks-2.invariant) first c.loop-part-test.true
    inv.reached inv.there inv.start inv.parts in
    omega (arith, at.fits, ap length c.as_slice-bytes.ensures.value, c.as_slice-bytes.type_inv.0)

pub slice_bounds-write_part-end : goal.slice_bounds-write_part-end
slice_bounds-write_part-end g c =
    let inv = c.loop-part.invariant in
    let inside = c.blocks-2.inside in
    let events = c.args.blocks.now.events in
    let same : inside.events.now ≡ events = ap (λ b. b.events) c.blocks-2.view_is in
    let first : inside.first ≡ c.args.self.now.end + 1 = ap (λ b. b.first) c.blocks-2.view_is ∙ c.requires.next in
    let at = at_part c.args.self.now.end inside.first events inside.bytes.items inside.parts.items c.loop-part.place.end c.loop-part.start c.loop-part.part-index
    c.deref-part-items.result.now zero_part (encoded inside.first inside.events.now events inside.bytes.items inside.parts.items same c.blocks-2.invariant) first c.loop-part-test.true
    inv.reached inv.there inv.start inv.parts in
    let fits : c.loop-part.start + (get_or c.deref-part-items.result.now c.loop-part.part-index zero_part).size ≤ length c.as_slice-bytes.result.now =
    omega (arith, at.fits, ap length c.as_slice-bytes.ensures.value) in
    fits

pub write_part-requires-clause-end : goal.write_part-requires-clause-end
write_part-requires-clause-end g c κs within =
    let inv = c.loop-part.invariant in
    let inside = c.blocks-2.inside in
    let events = c.args.blocks.now.events in
    let same : inside.events.now ≡ events = ap (λ b. b.events) c.blocks-2.view_is in
    let first : inside.first ≡ c.args.self.now.end + 1 = ap (λ b. b.first) c.blocks-2.view_is ∙ c.requires.next in
    let at = at_part c.args.self.now.end inside.first events inside.bytes.items inside.parts.items c.loop-part.place.end c.loop-part.start c.loop-part.part-index
    c.deref-part-items.result.now zero_part (encoded inside.first inside.events.now events inside.bytes.items inside.parts.items same c.blocks-2.invariant) first c.loop-part-test.true
    inv.reached inv.there inv.start inv.parts in
    omega (arith, at.small)

pub write_part-requires-clause-reaches : goal.write_part-requires-clause-reaches
write_part-requires-clause-reaches g c κs within told =
    let inv = c.loop-part.invariant in
    let n = c.loop-part.place.end - c.args.self.now.end in
    let known = c.requires.stands told in
    let there = ends_there c.args.self.now.line c.loop-part.place.end c.loop-part.place.offset (g.D.Disk.held c.loop-part.disk) (known.0 ++ take n c.args.blocks.now.events) (inv.stands told known.0 known.1) in
    omega (arith, there)

pub returns-in_err-place-clause-behind : goal.returns-in_err-place-clause-behind
returns-in_err-place-clause-behind g c =
    let inv = c.loop-part.invariant in
    let late : c.args.self.now.end / EVENTS_PER_FILE ≤ c.loop-part.place.end / EVENTS_PER_FILE = omega (arith, inv.reached) in
    record {
      files = λ told.
          grows_on c.args.self.now (c.loop-part.place.end / EVENTS_PER_FILE) c.loop-part.place.offset _ (g.D.Disk.held c.args.disk.now) (g.D.Disk.held c.loop-part.disk) (g.D.Disk.held c.write_part.new.disk)
          late inv.behind (inv.held told) (c.write_part.ensures.torn told);
      left =
          grows_left c.args.self.now g.D.Disk.moment g.D.Disk.images (c.loop-part.place.end / EVENTS_PER_FILE) c.loop-part.place.offset _ c.args.disk.now c.loop-part.disk c.write_part.new.disk
          late inv.behind inv.left c.write_part.ensures.images;
    }

pub loop-part-preserved : goal.loop-part-preserved
loop-part-preserved g c =
    let inv = c.loop-part.invariant in
    let inside = c.blocks-2.inside in
    let events = c.args.blocks.now.events in
    let same : inside.events.now ≡ events = ap (λ b. b.events) c.blocks-2.view_is in
    let first : inside.first ≡ c.args.self.now.end + 1 = ap (λ b. b.first) c.blocks-2.view_is ∙ c.requires.next in
    let at = at_part c.args.self.now.end inside.first events inside.bytes.items inside.parts.items c.loop-part.place.end c.loop-part.start c.loop-part.part-index
    c.deref-part-items.result.now zero_part (encoded inside.first inside.events.now events inside.bytes.items inside.parts.items same c.blocks-2.invariant) first c.loop-part-test.true
    inv.reached inv.there inv.start inv.parts in
    let late : c.args.self.now.end / EVENTS_PER_FILE ≤ c.loop-part.place.end / EVENTS_PER_FILE = omega (arith, inv.reached) in
    let part = get_or c.deref-part-items.result.now c.loop-part.part-index zero_part in
    let end : c.in_ok-place.place.end ≡ c.loop-part.place.end + part.count = c.in_ok-place.ensures.end in
    let size : c.loop-part.start + part.size - c.loop-part.start ≡ part.size = omega arith in
    let bytes_are : take (c.loop-part.start + part.size - c.loop-part.start) (drop c.loop-part.start c.as_slice-bytes.result.now) ≡ take part.size (drop c.loop-part.start inside.bytes.items) =
    ap (λ (k : ℕ). take k (drop c.loop-part.start c.as_slice-bytes.result.now)) size ∙ ap (λ (l : List ℕ). take part.size (drop c.loop-part.start l)) c.as_slice-bytes.ensures.value in
    let line : c.self.inside.line ≡ c.args.self.now.line = ap (λ s. s.line) c.self.view_is in
    let end_is : c.self.inside.end ≡ c.args.self.now.end = ap (λ s. s.end) c.self.view_is in
    let known = c.self.invariant.1 in
    let of : IsEventLine c.args.self.now.line c.loop-part.place.end =
    record { whole = ap (λ (n : ℕ). n % EVENTS_PER_FILE) (sym line) ∙ known.whole; within = omega (arith, known.within, line, end_is, inv.reached) } in
    let offset : c.in_ok-place.place.offset ≡ next_offset (c.loop-part.place.end + part.count) (c.loop-part.place.offset + part.size) = c.in_ok-place.ensures.offset in
    record {
      reached = omega (arith, end, inv.reached);
      there = omega (arith, end, at.there);
      start = at.begins ∙ ap (λ (k : ℕ). length (blocks_of (take (k - c.args.self.now.end) events))) (sym end);
      parts = subst (λ (k : ℕ). AreEventParts k (drop (c.loop-part.part-index + 1) c.deref-part-items.result.now) (drop (k - c.args.self.now.end) events)) (sym end) at.parts_left;
      behind = subst (λ (k : ℕ). k / EVENTS_PER_FILE ≡ c.args.self.now.end / EVENTS_PER_FILE → c.args.self.now.offset ≤ c.in_ok-place.place.offset) (sym end)
          (λ here. subst (λ (k : ℕ). c.args.self.now.offset ≤ k) (sym offset)
          (still_behind c.args.self.now.end c.args.self.now.offset c.loop-part.place.end c.loop-part.place.offset part.count part.size late inv.behind at.some here));
      stands = λ told before stands.
          subst (λ (k : ℕ). Stands c.args.self.now.line k c.in_ok-place.place.offset (g.D.Disk.held c.write_part.new.disk) (before ++ take (k - c.args.self.now.end) events)) (sym end)
          (subst (λ (k : ℕ). Stands c.args.self.now.line (c.loop-part.place.end + part.count) k (g.D.Disk.held c.write_part.new.disk) (before ++ take (c.loop-part.place.end + part.count - c.args.self.now.end) events)) (sym offset)
          (part_stands c.args.self.now.end inside.first events inside.bytes.items _ c.args.self.now.line c.loop-part.place.end c.loop-part.start c.loop-part.part-index c.loop-part.place.offset c.deref-part-items.result.now part
          (g.D.Disk.held c.loop-part.disk) (g.D.Disk.held c.write_part.new.disk) before of at inv.reached bytes_are (inv.stands told before stands) (c.in_ok-place.ensures.written told)));
      held = λ told.
          grows_on c.args.self.now (c.loop-part.place.end / EVENTS_PER_FILE) c.loop-part.place.offset _ (g.D.Disk.held c.args.disk.now) (g.D.Disk.held c.loop-part.disk) (g.D.Disk.held c.write_part.new.disk)
          late inv.behind (inv.held told) (c.write_part.ensures.torn told);
      left =
          grows_left c.args.self.now g.D.Disk.moment g.D.Disk.images (c.loop-part.place.end / EVENTS_PER_FILE) c.loop-part.place.offset _ c.args.disk.now c.loop-part.disk c.write_part.new.disk
          late inv.behind inv.left c.write_part.ensures.images;
      faults = omega (arith, inv.faults, c.write_part.ensures.cause.never_falls);
      calls = c.write_part.ensures.moment ∙ ap next_moment inv.calls ∙ one_call_more c.loop-part.part-index (g.D.Disk.moment c.args.disk.now);
    }

-- all are written
done : (begun last : ℕ) (events left : List Event) → left ≡ drop (last - begun) events → left ≡ [] → last - begun ≤ length events → last - begun ≡ length events
done begun last events left is none le = omega (arith, ap length is, ap length none, length-drop (last - begun) events, le)

pub returns-clause-stands : goal.returns-clause-stands
returns-clause-stands g c told before stands =
    let inv = c.loop-part.invariant in
    let events = c.args.blocks.now.events in
    let n = c.loop-part.place.end - c.args.self.now.end in
    let none = no_part_is c.loop-part.place.end c.loop-part.part-index c.deref-part-items.result.now (drop n events) c.loop-part-test.false inv.parts in
    let all : n ≡ length events = done c.args.self.now.end c.loop-part.place.end events (drop n events) refl none inv.there in
    subst (λ (l : List Event). Stands c.args.self.now.line c.loop-part.place.end c.loop-part.place.offset (g.D.Disk.held c.loop-part.disk) (before ++ l)) (take_all n events (omega (arith, all)))
    (inv.stands told before stands)

pub returns-clause-end : goal.returns-clause-end
returns-clause-end g c =
    let inv = c.loop-part.invariant in
    let events = c.args.blocks.now.events in
    let n = c.loop-part.place.end - c.args.self.now.end in
    let none = no_part_is c.loop-part.place.end c.loop-part.part-index c.deref-part-items.result.now (drop n events) c.loop-part-test.false inv.parts in
    let all : n ≡ length events = done c.args.self.now.end c.loop-part.place.end events (drop n events) refl none inv.there in
    let end : c.loop-part.place.end ≡ c.args.self.now.end + length events = omega (arith, all, inv.reached) in
    end

pub returns-clause-writes : goal.returns-clause-writes
returns-clause-writes g c =
    let inv = c.loop-part.invariant in
    let inside = c.blocks-2.inside in
    let items = c.deref-part-items.result.now in
    let same : inside.events.now ≡ c.args.blocks.now.events = ap (λ b. b.events) c.blocks-2.view_is in
    let first : inside.first ≡ c.args.self.now.end + 1 = ap (λ b. b.first) c.blocks-2.view_is ∙ c.requires.next in
    let all : c.loop-part.part-index ≡ length inside.parts.items = omega (arith, c.loop-part-test.false, c.loop-part.auto.part-index-end, ap length c.deref-part-items.ensures.value) in
    let begins : inside.first - 1 ≡ c.args.self.now.end = omega (arith, first) in
    inv.calls
    ∙ ap (λ (n : ℕ). calls_later n (g.D.Disk.moment c.args.disk.now))
    (all ∙ as_many_files (inside.first - 1) inside.parts.items inside.events.now c.blocks-2.invariant.parted ∙ ap (λ (n : ℕ). files_for n (length inside.events.now)) begins
    ∙ ap (λ (l : List Event). files_for c.args.self.now.end (length l)) same)

pub returns-clause-cause : goal.returns-clause-cause
returns-clause-cause g c = record { never_falls = c.loop-part.invariant.faults; rose = λ failed. cc failed }

pub returns-in_err-place-clause-refused : goal.returns-in_err-place-clause-refused
returns-in_err-place-clause-refused g c =
    let inv = c.loop-part.invariant in
    let inside = c.blocks-2.inside in
    let same : inside.events.now ≡ c.args.blocks.now.events = ap (λ b. b.events) c.blocks-2.view_is in
    let first : inside.first ≡ c.args.self.now.end + 1 = ap (λ b. b.first) c.blocks-2.view_is ∙ c.requires.next in
    let begins : inside.first - 1 ≡ c.args.self.now.end = omega (arith, first) in
    let many : length inside.parts.items ≡ files_for c.args.self.now.end (length c.args.blocks.now.events) =
    as_many_files (inside.first - 1) inside.parts.items inside.events.now c.blocks-2.invariant.parted ∙ ap (λ (n : ℕ). files_for n (length inside.events.now)) begins
    ∙ ap (λ (l : List Event). files_for c.args.self.now.end (length l)) same in
    let called : HasCalled (files_for c.args.self.now.end (length c.args.blocks.now.events)) (g.D.Disk.moment c.args.disk.now) (g.D.Disk.moment c.write_part.new.disk) = record {
      calls = c.loop-part.part-index + 1;
      some = omega arith;
      most = omega (arith, many, c.loop-part-test.true, ap length c.deref-part-items.ensures.value);
      moment = c.write_part.ensures.moment ∙ ap next_moment inv.calls ∙ one_call_more c.loop-part.part-index (g.D.Disk.moment c.args.disk.now);
    } in
    on_err c.from_residual.result called
