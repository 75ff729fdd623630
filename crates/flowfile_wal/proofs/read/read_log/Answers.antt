use Rattle.std.proofs.Common.{◌≡◌, ℕ, ◌+◌, List, ◌++◌, sym, ◌∙◌, ap, subst, arith, rules}
use Rattle.std.proofs.lemmas.Result.{err_from_is_err_and}
use Rattle.std.specs.Prelude.{All, Err, Option, None, Some}
use Rattle.std.specs.List.{list_all}
use Rattle.disk_trait.specs.Files.{Files, named}
use Rattle.disk_trait.specs.declared.damage.Damage.TheVariants.{Form}
use Rattle.disk_trait.specs.declared.file_name.FileKind.TheVariants.{Log}
use Rattle.record_codec.specs.EntryEncoding.{IsEntry}
use Rattle.record_codec.specs.LogEntries.{belongs, gated}
use Rattle.record_codec.specs.declared.entry.LogEntry.{LogEntry}
use Rattle.flowfile_wal.specs.Calls.{HaveEncodings}
use Rattle.flowfile_wal.specs.Reads.{IsNextAt, IsNextWithin, IsDamagedAt, LogIsReadTo}
use Rattle.block_file.specs.declared.error.BlockError.TheVariants.{Damaged}
use Rattle.flowfile_wal.specs.declared.read.FoundBlock.{FoundBlock}
use Rattle.flowfile_wal.proofs.Reading.{error, gated_encodings, read_next, read_done, read_foreign, read_damaged}
use Rattle.flowfile_wal.proofs.read.read_log.Goals as goal

pub returns-in_err-found-clause-damaged : goal.returns-in_err-found-clause-damaged
returns-in_err-found-clause-damaged g c damage is told =
    let number = c.args.number in
    let end = c.loop-entries.end in
    let inv = c.loop-entries.invariant in
    let p = err_from_is_err_and c.from_residual-in_err-found.result c.from_residual-in_err-found.ensures.1 in
    let same : c.in_err-found.field-0.0 ≡ Damaged damage = cc (p.1, p.2, is) in
    read_damaged number c.in_ok-begun.begun.version end c.loop-entries.entries.items (g.D.Disk.held c.args.disk.now (named Log number)) (inv.read told) damage
    (subst (λ (f : Files). IsDamagedAt (named Log number) end (f (named Log number)) damage) inv.stays.files (c.in_err-found.ensures.damaged damage (ap Err same) told))

pub returns-then-not-all_belong-clause-damaged : goal.returns-then-not-all_belong-clause-damaged
returns-then-not-all_belong-clause-damaged g c damage is told =
    let number = c.args.number in
    let end = c.loop-entries.end in
    let inv = c.loop-entries.invariant in
    let same : Form (named Log number) end ≡ damage = cc is in
    let next = subst (λ (f : Files). IsNextAt end (f (named Log number)) (Some c.in-Some.found)) inv.stays.files
    (subst (λ (o : Option FoundBlock). IsNextAt end (g.D.Disk.held c.loop-entries.disk (named Log number)) o) c.in-Some.is (c.in_ok-found.ensures.next told)) in
    read_foreign number c.in_ok-begun.begun.version end c.loop-entries.entries.items (g.D.Disk.held c.args.disk.now (named Log number)) (inv.read told) c.in-Some.found.entries.items c.in-Some.found.size next
    (ap (list_all (belongs c.in_ok-begun.begun.version)) (sym c.as_slice.ensures.value) ∙ sym c.all_belong.ensures ∙ c.if-not-all_belong.true) ∙ ap error same

pub loop-entries-preserved : goal.loop-entries-preserved
loop-entries-preserved g c =
    let number = c.args.number in
    let end = c.loop-entries.end in
    let version = c.in_ok-begun.begun.version in
    let inv = c.loop-entries.invariant in
    let found = c.in-Some.found in
    let items = found.entries.items in
    let bytes = g.D.Disk.held c.args.disk.now (named Log number) in
    record {
      within =
          let next = subst (λ (o : Option FoundBlock). IsNextWithin end c.args.size o) c.in-Some.is c.in_ok-found.ensures.within in
          omega (arith, next);
      stays = search rules;
      faults = omega arith;
      encoded =
          let joins : All IsEntry items = rw c.in-Some.is at c.in_ok-found.ensures.encoded in
          subst HaveEncodings (sym c.in_ok-push_all.ensures) (gated_encodings c.loop-entries.entries.items end items inv.encoded joins);
      size = inv.size;
      read = λ told.
          let next = subst (λ (f : Files). IsNextAt end (f (named Log number)) (Some found)) inv.stays.files
          (subst (λ (o : Option FoundBlock). IsNextAt end (g.D.Disk.held c.loop-entries.disk (named Log number)) o) c.in-Some.is (c.in_ok-found.ensures.next told)) in
          let more = read_next number version end c.loop-entries.entries.items bytes (inv.read told) items found.size next (ap (list_all (belongs version)) (sym c.as_slice.ensures.value) ∙ sym c.all_belong.ensures ∙ c.if-not-all_belong.false) in
          let gate : end + 1 + found.size ≡ end + (1 + found.size) = omega arith in
          subst (λ (es : List (ℕ × LogEntry)). LogIsReadTo number version (end + (1 + found.size)) es bytes) (sym c.in_ok-push_all.ensures)
          (subst (λ (n : ℕ). LogIsReadTo number version n (c.loop-entries.entries.items ++ gated end items) bytes) gate more);
    }

pub returns-clause-read : goal.returns-clause-read
returns-clause-read g c told =
    let number = c.args.number in
    let end = c.loop-entries.end in
    let inv = c.loop-entries.invariant in
    let next = subst (λ (f : Files). IsNextAt end (f (named Log number)) None) inv.stays.files
    (subst (λ (o : Option FoundBlock). IsNextAt end (g.D.Disk.held c.loop-entries.disk (named Log number)) o) c.in_default.is (c.in_ok-found.ensures.next told)) in
    read_done number c.in_ok-begun.begun.version end c.loop-entries.entries.items (g.D.Disk.held c.args.disk.now (named Log number)) (inv.read told) next
