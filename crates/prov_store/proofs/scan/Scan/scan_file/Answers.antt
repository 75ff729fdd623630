use Rattle.std.proofs.Common.{◌≡◌, ℕ, ◌+◌, ◌-◌, ◌*◌, ◌++◌, List, take, drop, refl, sym, ap, ◌∙◌, arith}
use Rattle.std.specs.Prelude.{Err, map, min, max}
use Rattle.std.specs.List.{range_with_len}
use Rattle.std.proofs.lemmas.List.{map-append}
use Rattle.std.proofs.lemmas.Result.{err_from_is_err_and}
use Rattle.flowfile_record.specs.declared.event.Event.{Event}
use Rattle.prov_store.specs.Events.{first_event}
use Rattle.flowfile_record.specs.declared.limits.TheConstants.{EVENTS_PER_FILE}
use Rattle.block_file.specs.declared.error.BlockError.TheVariants.{Damaged}
use Rattle.prov_store.specs.declared.read.Cursor.{Cursor}
use Rattle.prov_store.proofs.Scans.{found_in, from_start, there_in_file}
use Rattle.prov_store.proofs.Standing.{stand_there}
use Rattle.prov_store.proofs.scan.Scan.scan_file.Goals as goal

pub returns-in_err-cursor-clause-undamaged : goal.returns-in_err-cursor-clause-undamaged
returns-in_err-cursor-clause-undamaged g c damage is told here says =
    let files = g.D.Disk.held c.args.disk.now in
    let self = c.args.self.now in
    let k = c.args.number in
    let n = c.saturating_sub.result in
    let m = min self.last (EVENTS_PER_FILE * k + EVENTS_PER_FILE) + 1 - (first_event k + n) in
    let skip : n ≡ self.first - first_event k = omega (arith, c.saturating_sub.ensures) in
    let fi = found_in self.line self.end self.first self.last k n m files here says c.requires.may.whole c.requires.may.past c.requires.may.some c.requires.may.there c.requires.from c.requires.to skip refl in
    let p = err_from_is_err_and c.from_residual-in_err-cursor.result c.from_residual-in_err-cursor.ensures.1 in
    let same : c.in_err-cursor.field-0.0 ≡ Damaged damage = cc (p.1, p.2, is) in
    c.in_err-cursor.ensures.undamaged damage (ap Err same) told (take n here)
    (from_start k n (k * EVENTS_PER_FILE + 1) c.file_named-file.result (g.D.Disk.held c.size.new.self) files c.size.ensures.stays.files c.file_named-file.ensures (omega arith) ∙ fi.skipped)

pub returns-in_err-read_events-clause-undamaged : goal.returns-in_err-read_events-clause-undamaged
returns-in_err-read_events-clause-undamaged g c damage is told here says =
    let files = g.D.Disk.held c.args.disk.now in
    let self = c.args.self.now in
    let k = c.args.number in
    let n = c.saturating_sub.result in
    let m = c.min-last.result + 1 - c.in_ok-cursor.cursor.number in
    let skip : n ≡ self.first - first_event k = omega (arith, c.saturating_sub.ensures) in
    let number : c.in_ok-cursor.cursor.number ≡ k * EVENTS_PER_FILE + 1 + n = ap (λ (c : Cursor). c.number) c.in_ok-cursor.ensures.skipped.behind in
    let many : m ≡ min self.last (EVENTS_PER_FILE * k + EVENTS_PER_FILE) + 1 - (first_event k + n) = omega (arith, c.min-last.ensures, number) in
    let held : g.D.Disk.held c.skip_events.new.disk ≡ files = c.skip_events.ensures.stays.files ∙ c.size.ensures.stays.files in
    let fi = found_in self.line self.end self.first self.last k n m files here says c.requires.may.whole c.requires.may.past c.requires.may.some c.requires.may.there c.requires.from c.requires.to skip many in
    let all = there_in_file self.end self.first self.last k n m (k * EVENTS_PER_FILE + 1) c.file_named-file.result c.in_ok-size.field-0 g.D.Disk.tells files (g.D.Disk.held c.size.new.self)
    (g.D.Disk.held c.skip_events.new.disk) here c.in_ok-cursor.cursor fi c.size.ensures.stays.files held c.file_named-file.ensures (omega arith) c.in_ok-cursor.ensures.skipped told in
    let p = err_from_is_err_and c.from_residual-in_err-read_events.result c.from_residual-in_err-read_events.ensures.1 in
    let same : c.in_err-read_events.field-0.0 ≡ Damaged damage = cc (p.1, p.2, is) in
    let damaged = c.in_err-read_events.ensures.damaged damage (ap Err same) told in
    cc (damaged, all)

pub returns-clause-found : goal.returns-clause-found
returns-clause-found g c told here is =
    let files = g.D.Disk.held c.args.disk.now in
    let self = c.args.self.now in
    let k = c.args.number in
    let n = c.saturating_sub.result in
    let m = c.min-last.result + 1 - c.in_ok-cursor.cursor.number in
    let skip : n ≡ self.first - first_event k = omega (arith, c.saturating_sub.ensures) in
    let number : c.in_ok-cursor.cursor.number ≡ k * EVENTS_PER_FILE + 1 + n = ap (λ (c : Cursor). c.number) c.in_ok-cursor.ensures.skipped.behind in
    let many : m ≡ min self.last (EVENTS_PER_FILE * k + EVENTS_PER_FILE) + 1 - (first_event k + n) = omega (arith, c.min-last.ensures, number) in
    let held : g.D.Disk.held c.skip_events.new.disk ≡ files = c.skip_events.ensures.stays.files ∙ c.size.ensures.stays.files in
    let fi = found_in self.line self.end self.first self.last k n m files here is c.requires.may.whole c.requires.may.past c.requires.may.some c.requires.may.there c.requires.from c.requires.to skip many in
    let all = there_in_file self.end self.first self.last k n m (k * EVENTS_PER_FILE + 1) c.file_named-file.result c.in_ok-size.field-0 g.D.Disk.tells files (g.D.Disk.held c.size.new.self)
    (g.D.Disk.held c.skip_events.new.disk) here c.in_ok-cursor.cursor fi c.size.ensures.stays.files held c.file_named-file.ensures (omega arith) c.in_ok-cursor.ensures.skipped told in
    let read = c.in_ok-read_events.ensures.read in
    let same : read.events ≡ take m (drop n here) = cc (read.says told, all) in
    read.items ∙ ap (λ (l : List Event). self.found.items ++ l) (same ∙ sym fi.found)

pub returns-clause-stand : goal.returns-clause-stand
returns-clause-stand g c told old =
    let self = c.args.self.now in
    let k = c.args.number in
    let n = c.saturating_sub.result in
    let cursor = c.in_ok-cursor.cursor in
    let m = c.min-last.result + 1 - cursor.number in
    let number : cursor.number ≡ k * EVENTS_PER_FILE + 1 + n = ap (λ (c : Cursor). c.number) c.in_ok-cursor.ensures.skipped.behind in
    let name = ap (λ (c : Cursor). c.file) c.in_ok-cursor.ensures.skipped.behind ∙ c.file_named-file.ensures in
    let read = c.in_ok-read_events.ensures.read in
    stand_there k m cursor (g.D.Disk.held c.skip_events.new.disk) (g.D.Disk.held c.args.disk.now) self.found.items read.events c.read_events.new.found.items name (c.skip_events.ensures.stays.files ∙ c.size.ensures.stays.files)
    (omega (arith, number)) (omega (arith, number, c.min-last.ensures, c.saturating_sub.ensures, c.requires.from, c.requires.may.past)) (read.says told) read.items old

pub returns-clause-numbered : goal.returns-clause-numbered
returns-clause-numbered g c =
    let self = c.args.self.now in
    let k = c.args.number in
    let n = c.saturating_sub.result in
    let m = c.min-last.result + 1 - c.in_ok-cursor.cursor.number in
    let number : c.in_ok-cursor.cursor.number ≡ k * EVENTS_PER_FILE + 1 + n = ap (λ (c : Cursor). c.number) c.in_ok-cursor.ensures.skipped.behind in
    let first : c.in_ok-cursor.cursor.number ≡ max self.first (first_event k) = omega (arith, number, c.saturating_sub.ensures) in
    let many : m ≡ min self.last (first_event (k + 1) - 1) + 1 - max self.first (first_event k) = omega (arith, c.min-last.ensures, first) in
    let read = c.in_ok-read_events.ensures.read in
    ap (map (λ (e : Event). e.number)) read.items ∙ map-append (λ (e : Event). e.number) self.found.items read.events
    ∙ ap (λ (l : List ℕ). map (λ (e : Event). e.number) self.found.items ++ l)
    (read.numbered ∙ ap (λ (i : ℕ). range_with_len i m) first ∙ ap (range_with_len (max self.first (first_event k))) many)
