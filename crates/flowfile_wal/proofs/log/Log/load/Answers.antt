use Rattle.std.proofs.Common.{◌≡◌, sym, ◌∙◌, ap, subst}
use Rattle.std.proofs.lemmas.Result.{err_from_is_err_and}
use Rattle.std.specs.Prelude.{Err, Ok, Option}
use Rattle.disk_trait.specs.Files.{Files, named}
use Rattle.disk_trait.specs.declared.file_name.FileKind.TheVariants.{Log}
use Rattle.flowfile_wal.specs.Current.{CurrentLog, log_in}
use Rattle.flowfile_wal.specs.Reads.{HasFirstBlock, IsFoundIn, IsCandidate}
use Rattle.flowfile_wal.specs.Steps.{LogState, log_with}
use Rattle.flowfile_wal.specs.declared.current.Candidate.{Candidate}
use Rattle.block_file.specs.declared.error.BlockError.TheVariants.{Damaged, Memory}
use Rattle.flowfile_wal.proofs.Files.{said, none_current, is_current, damaged_current}
use Rattle.flowfile_wal.proofs.log.Log.load.Goals as goal

pub returns-in_default-clause-loaded : goal.returns-in_default-clause-loaded
returns-in_default-clause-loaded g c told =
    let files : Files = g.D.Disk.held c.args.disk.now in
    let none = subst (λ (o : Option Candidate). IsFoundIn files o) c.in_default.is (c.in_ok-found.ensures.found told) in
    none_current files none ∙ ap (λ (s : LogState). said (log_with s c.new.result.items)) (sym c.unmended.ensures)

pub returns-in_err-read-clause-damaged : goal.returns-in_err-read-clause-damaged
returns-in_err-read-clause-damaged g c damage is told =
    let files : Files = g.D.Disk.held c.args.disk.now in
    let number = c.in-Some.found.number in
    let found : IsCandidate c.in-Some.found files = subst (λ (o : Option Candidate). IsFoundIn files o) c.in-Some.is (c.in_ok-found.ensures.found told) in
    let p = err_from_is_err_and c.from_residual-in_err-read.result c.from_residual-in_err-read.ensures.1 in
    let same : c.in_err-read.field-0.0 ≡ Damaged damage = cc (p.1, p.2, is) in
    let held = c.find_current.ensures.stays.files in
    damaged_current files number damage found.number
    (subst (λ (f : Files). log_in number (f (named Log number)) ≡ Err damage) held (c.in_err-read.ensures.damaged damage (ap Err same) told))

pub returns-clause-loaded : goal.returns-clause-loaded
returns-clause-loaded g c told =
    let files : Files = g.D.Disk.held c.args.disk.now in
    let number = c.in-Some.found.number in
    let items = c.in_ok-read.read.entries.items in
    let log : CurrentLog = record { number = number; version = c.in_ok-read.read.version; entries = items; end = c.in_ok-read.read.end } in
    let found : IsCandidate c.in-Some.found files = subst (λ (o : Option Candidate). IsFoundIn files o) c.in-Some.is (c.in_ok-found.ensures.found told) in
    let held = c.find_current.ensures.stays.files in
    is_current files log number found.number (subst (λ (f : Files). log_in number (f (named Log number)) ≡ Ok log) held (c.in_ok-read.ensures.read told))
    ∙ ap (λ (s : LogState). said (log_with s items)) (sym c.unmended-log.ensures)

pub returns-in_err-read-clause-memory : goal.returns-in_err-read-clause-memory
returns-in_err-read-clause-memory g c is told =
    let files : Files = g.D.Disk.held c.args.disk.now in
    let number = c.in-Some.found.number in
    let found : IsCandidate c.in-Some.found files = subst (λ (o : Option Candidate). IsFoundIn files o) c.in-Some.is (c.in_ok-found.ensures.found told) in
    let p = err_from_is_err_and c.from_residual-in_err-read.result c.from_residual-in_err-read.ensures.1 in
    let same : c.in_err-read.field-0.0 ≡ Memory = cc (p.1, p.2, is) in
    let held = c.find_current.ensures.stays.files in
    record {
      number = number;
      current = found.number;
      first = subst (λ (f : Files). HasFirstBlock (f (named Log number))) held (c.in_err-read.ensures.memory (ap Err same) told);
    }
