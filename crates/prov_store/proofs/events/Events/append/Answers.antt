use Rattle.std.proofs.Common.{◌≡◌, ℕ, ◌+◌, ◌/◌, ◌<◌, ◌^◌, ◌++◌, inl, inr, List, length, sym, ap, subst, ◌∙◌, arith}
use Rattle.std.proofs.lemmas.Bool.{cases_lt}
use Rattle.flowfile_record.specs.declared.event.Event.{Event}
use Rattle.flowfile_record.specs.declared.limits.TheConstants.{EVENTS_PER_FILE}
use Rattle.prov_store.specs.Events.{events_in, covered_size}
use Rattle.prov_store.specs.State.{AreCounted, IsTrimmed}
use Rattle.prov_store.proofs.Counting.{counts_are}
use Rattle.prov_store.proofs.Writing.{last_number}
use Rattle.prov_store.proofs.events.Events.append.Goals as goal

pub invariant_of-self : goal.invariant_of-self
invariant_of-self g c =
    let inside = c.blocks-2.inside in
    let events = inside.events.now in
    let same : events ≡ c.args.blocks.now.events = ap (λ b. b.events) c.blocks-2.view_is in
    let begun : c.self.inside.end ≡ c.args.self.now.end = ap (λ s. s.end) c.self.view_is in
    let first : inside.first ≡ c.args.self.now.end + 1 = ap (λ b. b.first) c.blocks-2.view_is ∙ c.requires.next in
    let end = c.in_ok-place.ensures.end in
    let long : length events ≡ length c.args.blocks.now.events = ap length same in
    let number : c.in_ok-place.place.end < 2 ^ 62 = elim (cases_lt 0 (length events)) [
      | inl some ↦
          let last = last_number inside.first (length events) events c.blocks-2.invariant.have c.blocks-2.invariant.numbered some (omega arith) in
          omega (arith, last, first, end, long, some)
      | inr none ↦ let small = c.self.invariant.0 in omega (arith, small, begun, end, long, none)
    ] in
    let most = c.count_all.ensures.most c.self.inside.end c.self.invariant.3 in
    let known = c.self.invariant.1 in
    (number, record { whole = known.whole; within = omega (arith, known.within, begun, end) }, c.count_all.ensures.long, λ k d lt. let here = most k d lt in omega (arith, here, begun, end, long))

pub returns-clause-appended : goal.returns-clause-appended
returns-clause-appended g c =
    let added = c.args.blocks.now.events in
    let new_counts = c.count_all.new.counts.counts in
    let counted : AreCounted added c.self.inside.counts.counts new_counts =
    subst (λ (l : List Event). AreCounted l c.self.inside.counts.counts new_counts) (ap (λ b. b.events) c.blocks-2.view_is) c.count_all.ensures.counted in
    let counts : c.self.inside.counts.counts ≡ c.args.self.now.counts = ap (λ s. s.counts) c.self.view_is in
    let line : c.self.inside.line ≡ c.args.self.now.line = ap (λ s. s.line) c.self.view_is in
    record {
      ready = λ told.
          let ready = c.requires.ready told in
          let has = ready.has in
          let before = has.events in
          let stands = c.in_ok-place.ensures.stands told before (record { says = has.says; next = has.offset; trimmed = ready.trimmed }) in
          let files = g.D.Disk.held c.write_parts.new.disk in
          let end = c.in_ok-place.place.end in
          record {
            has = record {
              events = before ++ added;
              says = ap (λ (n : ℕ). events_in files n end) line ∙ stands.says;
              offset = stands.next ∙ ap (λ (n : ℕ). covered_size n end (end / EVENTS_PER_FILE) files) (sym line);
              counts = counts_are before added c.self.inside.counts.counts new_counts c.count_all.ensures.long (counts ∙ has.counts) counted;
            };
            trimmed = subst (λ (n : ℕ). IsTrimmed n end files) (sym line) stands.trimmed;
          };
      state = record {
        line = line;
        end = c.in_ok-place.ensures.end;
        counts = subst (λ (l : List ℕ). AreCounted added l new_counts) counts counted;
        stale = ap (λ s. s.stale) c.self.view_is;
      };
      writes = c.in_ok-place.ensures.writes;
    }
