use Rattle.std.proofs.Common.{◌≡◌, ◌+◌, ◌*◌, ◌/◌, ◌++◌, ◌∷◌, [], IsTrue, List, length, drop, refl, ap, ◌∙◌, arith}
use Rattle.std.specs.Prelude.{Ok, Err}
use Rattle.std.proofs.lemmas.Result.{err_from_is_err_and}
use Rattle.disk_trait.specs.Files.{Files}
use Rattle.prov_store.specs.Events.{blocks_size, count_in, first_event, covered_size}
use Rattle.block_file.specs.declared.error.BlockError.TheVariants.{Damaged, Memory}
use Rattle.prov_store.specs.declared.events.Stale.{Stale}
use Rattle.prov_store.specs.declared.load.Loading.{Loading}
use Rattle.flowfile_record.specs.declared.limits.TheConstants.{EVENTS_PER_FILE}
use Rattle.prov_store.proofs.Counting.{count_most}
use Rattle.prov_store.proofs.Listing.{one_listed, still_listed}
use Rattle.prov_store.proofs.Loads.{first_damaged, file_read, size_read, stale_same, stale_one, more_loaded}
use Rattle.prov_store.proofs.Wholes.{wants_next, wants_longer}
use Rattle.prov_store.proofs.load.Loading.read_file.Goals as goal

pub count_events-requires-clause-room : goal.count_events-requires-clause-room
count_events-requires-clause-room g c κs within k d lt =
    let loaded = c.requires.read.loaded in
    let most = count_most loaded.events c.args.self.now.counts.counts loaded.long loaded.counts k d lt in
    let small = c.requires.may.end in
    omega (arith, most, loaded.many, small, c.min-many.ensures)

pub returns-in_err-size-2-clause-damaged : goal.returns-in_err-size-2-clause-damaged
returns-in_err-size-2-clause-damaged g c damage is told more =
    let p = err_from_is_err_and c.from_residual-in_err-size-2.result c.from_residual-in_err-size-2.ensures.1 in
    let same : c.in_err-size-2.field-0.0 ≡ Damaged damage = cc (p.1, p.2, is) in
    let files = g.D.Disk.held c.args.disk.now in
    let many : c.min-many.result ≡ count_in c.args.self.now.line c.args.self.now.end c.args.number = omega (arith, c.min-many.ensures, c.requires.may.from, c.requires.may.line.whole) in
    let first : c.args.number * EVENTS_PER_FILE + 1 ≡ first_event c.args.number = omega arith in
    first_damaged c.args.number more c.args.self.now.line c.args.self.now.end files c.requires.read.loaded.events damage (c.requires.read.loaded.says told)
    (file_read c.args.self.now.line c.args.self.now.end c.args.number c.min-many.result (c.args.number * EVENTS_PER_FILE + 1) c.file_named-file.result (g.D.Disk.held c.size.new.self) files (Err damage)
    c.size.ensures.stays.files c.file_named-file.ensures many first (c.in_err-size-2.ensures.damaged damage (ap Err same) told))

pub returns-in_ok-reserve-clause-read : goal.returns-in_ok-reserve-clause-read
returns-in_ok-reserve-clause-read g c = record {
  loaded =
      let files = g.D.Disk.held c.args.disk.now in
      let old = c.args.self.now in
      let k = c.args.number in
      let counted = c.in_ok-size-2.ensures.counted in
      let size = c.in_ok-size-2.size in
      let many : c.min-many.result ≡ count_in old.line old.end k = omega (arith, c.min-many.ensures, c.requires.may.from, c.requires.may.line.whole) in
      let first : k * EVENTS_PER_FILE + 1 ≡ first_event k = omega arith in
      let offset : IsTrue g.D.Disk.tells → size ≡ covered_size old.line old.end k files = λ told. size_read old.line old.end k c.min-many.result size c.file_named-file.result (g.D.Disk.held c.size.new.self) files c.size.ensures.stays.files c.file_named-file.ensures many (counted.read.reaches told) in
      let new : Loading = record { line = old.line; end = old.end; offset = size; counts = c.count_events.new.counts; stale = c.push_reserved.new.self; buffer = c.count_events.new.buffer } in
      more_loaded g.D.Disk.tells files k old new counted.events c.requires.read.loaded c.requires.may.line c.requires.may.from c.requires.may.to (counted.read.count ∙ many) counted.counted counted.long refl refl offset
      (λ told. file_read old.line old.end k c.min-many.result (k * EVENTS_PER_FILE + 1) c.file_named-file.result (g.D.Disk.held c.size.new.self) files (Ok counted.events)
      c.size.ensures.stays.files c.file_named-file.ensures many first (counted.read.says told))
      (stale_one g.D.Disk.tells files k size old new c.requires.read.loaded
      (c.push_reserved.ensures.items ∙ ap (λ (l : List Stale). l ++ record { file = k; size = size } ∷ []) c.in_ok-reserve.ensures.items) offset);
  listed =
      let files = g.D.Disk.held c.args.disk.now in
      let k = c.args.number in
      let size = c.in_ok-size-2.size in
      let stale = c.args.self.now.stale.items in
      one_listed g.D.Disk.tells files (c.args.self.now.line / EVENTS_PER_FILE) stale c.push_reserved.new.self.items (record { file = k; size = size })
      (c.push_reserved.ensures.items ∙ ap (λ (l : List Stale). l ++ record { file = k; size = size } ∷ []) c.in_ok-reserve.ensures.items) c.requires.may.from c.requires.read.listed
      (λ told.
      let long = c.in_ok-size.ensures.size told in
      let named = ap (λ f. length (files f)) c.file_named-file.ensures in
      omega (arith, long, named, c.if-size-start.true));
}

pub returns-else-size-start-clause-read : goal.returns-else-size-start-clause-read
returns-else-size-start-clause-read g c = record {
  loaded =
      let files = g.D.Disk.held c.args.disk.now in
      let old = c.args.self.now in
      let k = c.args.number in
      let counted = c.in_ok-size-2.ensures.counted in
      let size = c.in_ok-size-2.size in
      let many : c.min-many.result ≡ count_in old.line old.end k = omega (arith, c.min-many.ensures, c.requires.may.from, c.requires.may.line.whole) in
      let first : k * EVENTS_PER_FILE + 1 ≡ first_event k = omega arith in
      let offset : IsTrue g.D.Disk.tells → size ≡ covered_size old.line old.end k files = λ told. size_read old.line old.end k c.min-many.result size c.file_named-file.result (g.D.Disk.held c.size.new.self) files c.size.ensures.stays.files c.file_named-file.ensures many (counted.read.reaches told) in
      let new : Loading = record { line = old.line; end = old.end; offset = size; counts = c.count_events.new.counts; stale = old.stale; buffer = c.count_events.new.buffer } in
      more_loaded g.D.Disk.tells files k old new counted.events c.requires.read.loaded c.requires.may.line c.requires.may.from c.requires.may.to (counted.read.count ∙ many) counted.counted counted.long refl refl offset
      (λ told. file_read old.line old.end k c.min-many.result (k * EVENTS_PER_FILE + 1) c.file_named-file.result (g.D.Disk.held c.size.new.self) files (Ok counted.events)
      c.size.ensures.stays.files c.file_named-file.ensures many first (counted.read.says told))
      (stale_same g.D.Disk.tells files k size old new c.requires.read.loaded refl
      (λ told.
      let long = c.in_ok-size.ensures.size told in
      let named = ap (λ f. length (files f)) c.file_named-file.ensures in
      let covered = offset told in
      omega (arith, long, named, covered, c.if-size-start.false)));
  listed =
      let stale = c.args.self.now.stale.items in
      still_listed g.D.Disk.tells (g.D.Disk.held c.args.disk.now) (c.args.self.now.line / EVENTS_PER_FILE) c.args.number (c.args.number + 1) stale stale refl (omega arith) c.requires.read.listed;
}

pub returns-in_err-size-2-clause-memory : goal.returns-in_err-size-2-clause-memory
returns-in_err-size-2-clause-memory g c is told =
    let self = c.args.self.now in
    let k = c.args.number in
    let p = err_from_is_err_and c.from_residual-in_err-size-2.result c.from_residual-in_err-size-2.ensures.1 in
    let same : c.in_err-size-2.field-0.0 ≡ Memory = cc (p.1, p.2, is) in
    wants_next k c.min-many.result self.line self.end (k * EVENTS_PER_FILE + 1) c.file_named-file.result (g.D.Disk.held c.size.new.self) (g.D.Disk.held c.args.disk.now) c.requires.read.loaded.events c.requires.may.line
    c.requires.may.from (omega (arith, c.min-many.ensures)) (omega (arith, c.min-many.ensures, c.requires.may.to)) (c.requires.read.loaded.says told) c.size.ensures.stays.files c.file_named-file.ensures (omega arith)
    c.in_ok-size.field-0 (c.in_err-size-2.ensures.memory (ap Err same) told)

pub returns-in_err-reserve-clause-memory : goal.returns-in_err-reserve-clause-memory
returns-in_err-reserve-clause-memory g c is told =
    let self = c.args.self.now in
    let k = c.args.number in
    let counted = c.in_ok-size-2.ensures.counted in
    let read = counted.read in
    let file = c.file_named-file.result in
    let reaches : c.in_ok-size-2.size ≡ 0 + blocks_size c.min-many.result (drop 0 (g.D.Disk.held c.size.new.self file)) = read.reaches told in
    let long = ap (λ (f : Files). length (f file)) c.size.ensures.stays.files in
    wants_longer k c.min-many.result self.line self.end (k * EVENTS_PER_FILE + 1) c.file_named-file.result (g.D.Disk.held c.size.new.self) (g.D.Disk.held c.args.disk.now) c.requires.read.loaded.events c.requires.may.line
    c.requires.may.from (omega (arith, c.min-many.ensures)) (omega (arith, c.min-many.ensures, c.requires.may.to)) (c.requires.read.loaded.says told) c.size.ensures.stays.files c.file_named-file.ensures (omega arith)
    counted.events (λ part. omega (arith, part, c.min-many.ensures, c.requires.may.to)) (read.says told) (omega (arith, reaches, c.in_ok-size.ensures.size told, long, c.if-size-start.true))
