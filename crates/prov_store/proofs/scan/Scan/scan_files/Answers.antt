use Rattle.std.proofs.Common.{◌≡◌, ℕ, ◌+◌, ◌-◌, ◌/◌, refl, sym, ap, subst, ◌∙◌, arith, rules}
use Rattle.std.specs.Prelude.{All, Err, map, min}
use Rattle.std.proofs.lemmas.List.Elements.{All-nil}
use Rattle.std.proofs.lemmas.Result.{err_from_is_err_and}
use Rattle.flowfile_record.specs.declared.event.Event.{Event}
use Rattle.disk_trait.specs.Files.{Files}
use Rattle.prov_store.specs.Events.{events_of_file, first_event}
use Rattle.block_file.specs.declared.error.BlockError.TheVariants.{Damaged}
use Rattle.prov_store.specs.Scanning.{numbers_between, StandsInItsFile}
use Rattle.flowfile_record.specs.declared.limits.TheConstants.{EVENTS_PER_FILE}
use Rattle.prov_store.proofs.InFiles.{file_of_events}
use Rattle.prov_store.proofs.Scans.{none_numbered, numbered_on, none_yet, one_file_found, all_found, found_alike}
use Rattle.prov_store.proofs.scan.Scan.scan_files.Goals as goal

pub loop-number-init : goal.loop-number-init
loop-number-init g c = record {
  same = record { line = refl; end = refl; first = refl; last = refl };
  found = λ told events is. c.requires.none ∙ sym (none_yet c.args.self.now.line c.args.self.now.end c.args.self.now.first c.args.self.now.last (g.D.Disk.held c.args.disk.now) events c.requires.may.whole c.requires.may.past is);
  numbered = ap (map (λ (e : Event). e.number)) c.requires.none ∙ sym (none_numbered c.args.self.now.first c.args.self.now.last (omega (arith, c.requires.may.past)));
  stand = λ told. subst (All (StandsInItsFile (g.D.Disk.held c.args.disk.now))) (sym c.requires.none) (All-nil (StandsInItsFile (g.D.Disk.held c.args.disk.now)));
  stays = search rules;
  faults = omega arith;
}

pub returns-in_err-scan_file-clause-undamaged : goal.returns-in_err-scan_file-clause-undamaged
returns-in_err-scan_file-clause-undamaged g c damage is told events says =
    let inv = c.loop-number.invariant in
    let files = g.D.Disk.held c.args.disk.now in
    let self = c.args.self.now in
    let here = file_of_events self.line self.end c.loop-number.number files events says (omega (arith, c.loop-number-test.true, c.requires.may.there, c.requires.may.past, c.requires.may.some)) in
    let p = err_from_is_err_and c.from_residual.result c.from_residual.ensures.1 in
    let same : c.in_err-scan_file.field-0.0 ≡ Damaged damage = cc (p.1, p.2, is) in
    c.in_err-scan_file.ensures.undamaged damage (ap Err same) told here.0
    (ap (λ (n : ℕ). events_of_file n c.loop-number.self.end c.loop-number.number (g.D.Disk.held c.loop-number.disk)) inv.same.line
    ∙ ap (λ (n : ℕ). events_of_file self.line n c.loop-number.number (g.D.Disk.held c.loop-number.disk)) inv.same.end
    ∙ ap (λ (f : Files). events_of_file self.line self.end c.loop-number.number f) inv.stays.files ∙ here.1)

pub loop-number-preserved : goal.loop-number-preserved
loop-number-preserved g c =
    let inv = c.loop-number.invariant in
    let files = g.D.Disk.held c.args.disk.now in
    let self = c.args.self.now in
    let old = c.loop-number.self in
    let new = c.scan_file.new.self in
    record {
      same = record {
        line = c.scan_file.ensures.same.line ∙ inv.same.line;
        end = c.scan_file.ensures.same.end ∙ inv.same.end;
        first = c.scan_file.ensures.same.first ∙ inv.same.first;
        last = c.scan_file.ensures.same.last ∙ inv.same.last;
      };
      found = λ told events is.
          one_file_found self.line self.end self.first self.last c.loop-number.number files old.found.items new.found.items events is (inv.found told)
          (found_alike self.line self.end self.first self.last old.line old.end old.first old.last c.loop-number.number (g.D.Disk.held c.loop-number.disk) files old.found.items new.found.items
          inv.same.line inv.same.end inv.same.first inv.same.last inv.stays.files (c.in_ok-scan_file.ensures.found told));
      numbered =
          numbered_on self.first self.last old.first old.last c.loop-number.number (map (λ (e : Event). e.number) old.found.items) (map (λ (e : Event). e.number) new.found.items)
          inv.same.first inv.same.last c.requires.may.some (omega (arith, c.loop-number-test.true, c.requires.may.past, c.requires.may.some)) inv.numbered
          c.in_ok-scan_file.ensures.numbered;
      stand = λ told.
          let before = subst (λ (f : Files). All (StandsInItsFile f) old.found.items) (sym inv.stays.files) (inv.stand told) in
          subst (λ (f : Files). All (StandsInItsFile f) new.found.items) inv.stays.files (c.in_ok-scan_file.ensures.stand told before);
      stays = search rules;
      faults = omega (arith, inv.faults, c.scan_file.ensures.cause.never_falls);
    }

pub returns-clause-found : goal.returns-clause-found
returns-clause-found g c told events is =
    let inv = c.loop-number.invariant in
    let self = c.args.self.now in
    let reach = c.loop-number.auto.number-end (omega (arith, c.requires.may.some)) in
    let behind : c.loop-number.number ≡ (self.last - 1) / EVENTS_PER_FILE + 1 = omega (arith, c.loop-number-test.false, reach) in
    all_found self.line self.end self.first self.last c.loop-number.number (g.D.Disk.held c.args.disk.now) c.loop-number.self.found.items events c.requires.may.whole is behind (omega (arith, c.requires.may.past, c.requires.may.some)) c.requires.may.there
    (inv.found told)

pub returns-clause-stand : goal.returns-clause-stand
returns-clause-stand g c told = c.loop-number.invariant.stand told

pub returns-clause-numbered : goal.returns-clause-numbered
returns-clause-numbered g c =
    let inv = c.loop-number.invariant in
    let self = c.args.self.now in
    let reach = c.loop-number.auto.number-end (omega (arith, c.requires.may.some)) in
    let end : min self.last (first_event c.loop-number.number - 1) ≡ self.last = omega (arith, c.loop-number-test.false, reach, c.requires.may.past, c.requires.may.some) in
    inv.numbered ∙ ap (numbers_between self.first) end
