use Rattle.std.proofs.Common.{◌≡◌, sym, ◌∙◌, ap, subst}
use Rattle.std.proofs.lemmas.Result.{err_from_is_err_and}
use Rattle.std.specs.Prelude.{Err, Option}
use Rattle.disk_trait.specs.Files.{named}
use Rattle.disk_trait.specs.declared.damage.Damage.TheVariants.{Form}
use Rattle.disk_trait.specs.declared.file_name.FileKind.TheVariants.{Log}
use Rattle.flowfile_wal.specs.Current.{version_begun}
use Rattle.flowfile_wal.specs.Reads.{IsNextAt}
use Rattle.block_file.specs.declared.error.BlockError.TheVariants.{Damaged}
use Rattle.flowfile_wal.specs.declared.read.FoundBlock.{FoundBlock}
use Rattle.flowfile_wal.proofs.Reading.{error, read_first, begin_other, begin_damaged}
use Rattle.flowfile_wal.proofs.read.read_begin.Goals as goal

pub returns-in_err-found-clause-damaged : goal.returns-in_err-found-clause-damaged
returns-in_err-found-clause-damaged g c damage is told =
    let p = err_from_is_err_and c.from_residual.result c.from_residual.ensures.1 in
    let same : c.in_err-found.field-0.0 ≡ Damaged damage = cc (p.1, p.2, is) in
    begin_damaged c.args.number (g.D.Disk.held c.args.disk.now (named Log c.args.number)) damage (c.in_err-found.ensures.damaged damage (ap Err same) told)

pub returns-in_default-begun_version-clause-damaged :
    goal.returns-in_default-begun_version-clause-damaged
returns-in_default-begun_version-clause-damaged g c damage is told =
    let bytes = g.D.Disk.held c.args.disk.now (named Log c.args.number) in
    let next = subst (λ (o : Option FoundBlock). IsNextAt 0 bytes o) c.in-Some.is (c.in_ok-found.ensures.next told) in
    let same : Form (named Log c.args.number) 0 ≡ damage = cc is in
    begin_other c.args.number bytes c.in-Some.found.entries.items c.in-Some.found.size next
    (ap (version_begun c.args.number) (sym c.as_slice.ensures.value) ∙ sym c.begun_version.ensures ∙ c.in_default-begun_version.is)
    ∙ ap error same

pub returns-clause-begun : goal.returns-clause-begun
returns-clause-begun g c told =
    let bytes = g.D.Disk.held c.args.disk.now (named Log c.args.number) in
    let next = subst (λ (o : Option FoundBlock). IsNextAt 0 bytes o) c.in-Some.is (c.in_ok-found.ensures.next told) in
    read_first c.args.number bytes c.in-Some.found.entries.items c.in-Some.found.size c.in-Some-begun_version.version next
    (ap (version_begun c.args.number) (sym c.as_slice.ensures.value) ∙ sym c.begun_version.ensures ∙ c.in-Some-begun_version.is)
