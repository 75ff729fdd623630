use Rattle.std.proofs.Common.{◌≡◌, ℕ, ◌+◌, ◌-◌, ◌%◌, sym, ap, subst, ◌∙◌, arith}
use Rattle.std.specs.Prelude.{All, filter, map, nat_le, ◌&&◌, min, max}
use Rattle.std.specs.List.{range_with_len}
use Rattle.std.proofs.lemmas.List.Elements.{All-nil}
use Rattle.flowfile_record.specs.declared.event.Event.{Event}
use Rattle.flowfile_record.specs.declared.limits.TheConstants.{EVENTS_PER_FILE}
use Rattle.prov_store.specs.Events.{events_in}
use Rattle.prov_store.specs.Scanning.{is_within, StandsInItsFile, numbers_between}
use Rattle.prov_store.proofs.InFiles.{last_numbered}
use Rattle.prov_store.proofs.Scans.{none_between, same_found}
use Rattle.prov_store.proofs.events.Events.scan.Goals.{then-scan+in_ok-scan_files, else-scan}
use Rattle.prov_store.proofs.events.Events.scan.Goals as goal

pub returns-clause-found : goal.returns-clause-found
returns-clause-found g c told events is =
    let files = g.D.Disk.held c.args.disk.now in
    let from = c.args.from in
    let to = c.args.to in
    let end : c.self.inside.end ≡ c.args.self.now.end = ap (λ s. s.end) c.self.view_is in
    let line : c.self.inside.line ≡ c.args.self.now.line = ap (λ s. s.line) c.self.view_is in
    let row = last_numbered c.args.self.now.line c.args.self.now.end files events (ap (λ (n : ℕ). n % EVENTS_PER_FILE) (sym line) ∙ c.self.invariant.1.whole) is in
    let least = c.args.self.now.line + 1 in
    let low : c.max.result ≡ max from least = omega (arith, c.max.ensures, line) in
    let high : c.min.result ≡ min to c.args.self.now.end = omega (arith, c.min.ensures, end) in
    let exact : filter (is_within c.max.result c.min.result) events ≡ filter (λ e. nat_le from e.number && nat_le e.number to) events =
    ap (λ (n : ℕ). filter (is_within n c.min.result) events) low ∙ ap (λ (n : ℕ). filter (is_within (max from least) n) events) high
    ∙ same_found from to least c.args.self.now.end least events row.0 (omega arith) (omega (arith, row.1, c.self.invariant.1.within, line, end)) in
    elim c.if-scan.branch [
      | then-scan+in_ok-scan_files w ↦
          ap (λ s. s.found.items) w.scan-is ∙ w.in_ok-scan_files.ensures.found told events (ap (λ (n : ℕ). events_in files n c.self.inside.end) line ∙ ap (events_in files c.args.self.now.line) end ∙ is) ∙ exact
      | else-scan w ↦
          ap (λ s. s.found.items) w.scan-is ∙ c.new-2.ensures.items ∙ sym (none_between c.max.result c.min.result events w.if-scan.false) ∙ exact
    ]

pub returns-clause-stand : goal.returns-clause-stand
returns-clause-stand g c told =
    let stand = All (StandsInItsFile (g.D.Disk.held c.args.disk.now)) in
    elim c.if-scan.branch [
      | then-scan+in_ok-scan_files w ↦ subst stand (sym (ap (λ s. s.found.items) w.scan-is)) (w.in_ok-scan_files.ensures.stand told)
      | else-scan w ↦ subst stand (sym (ap (λ s. s.found.items) w.scan-is ∙ c.new-2.ensures.items)) (All-nil (StandsInItsFile (g.D.Disk.held c.args.disk.now)))
    ]

pub returns-clause-numbered : goal.returns-clause-numbered
returns-clause-numbered g c =
    let end : c.self.inside.end ≡ c.args.self.now.end = ap (λ s. s.end) c.self.view_is in
    let line : c.self.inside.line ≡ c.args.self.now.line = ap (λ s. s.line) c.self.view_is in
    let least = c.args.self.now.line + 1 in
    let low : c.max.result ≡ max c.args.from least = omega (arith, c.max.ensures, line) in
    let high : c.min.result ≡ min c.args.to c.args.self.now.end = omega (arith, c.min.ensures, end) in
    elim c.if-scan.branch [
      | then-scan+in_ok-scan_files w ↦
          ap (λ s. map (λ (e : Event). e.number) s.found.items) w.scan-is ∙ w.in_ok-scan_files.ensures.numbered
          ∙ ap (λ (n : ℕ). numbers_between n c.min.result) low ∙ ap (numbers_between (max c.args.from least)) high
      | else-scan w ↦
          let none : min c.args.to c.args.self.now.end + 1 - max c.args.from least ≡ 0 = omega (arith, low, high, w.if-scan.false) in
          ap (λ s. map (λ (e : Event). e.number) s.found.items) w.scan-is ∙ ap (map (λ (e : Event). e.number)) c.new-2.ensures.items ∙ sym (ap (range_with_len (max c.args.from least)) none)
    ]
