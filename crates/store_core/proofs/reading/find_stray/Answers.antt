use Rattle.std.proofs.Common.{◌≡◌, ℕ, sym, ap, ◌∙◌, refl}
use Rattle.std.specs.Prelude.{Option, None, Some, IsTrue}
use Rattle.disk_trait.specs.Files.{Files}
use Rattle.disk_trait.specs.declared.file_name.FileKind.{FileKind}
use Rattle.disk_trait.specs.declared.file_name.FileKind.TheVariants.{Log, Snapshot, Swap, Claim, Events}
use Rattle.disk_trait.specs.declared.file_name.FileName.{FileName}
use Rattle.store_core.specs.New.{first_from, first_stray}
use Rattle.store_core.proofs.Finding.{stray_is, if_ok}
use Rattle.store_core.proofs.reading.find_stray.Goals as goal

-- what a later call found, of the files at the start
found : (kind : FileKind) (from : ℕ) (start now : Files) (o value : Option FileName) → now ≡ start → o ≡ first_from kind from now → o ≡ value → first_from kind from start ≡ value
found kind from start now o value same is also = ap (first_from kind from) (sym same) ∙ sym is ∙ also

pub returns-in-Some-clause-stray : goal.returns-in-Some-clause-stray
returns-in-Some-clause-stray g c told =
    let h = g.D.Disk.held c.args.disk.now in
    sym (stray_is h (Some c.in-Some.file) _ _ _ _ (found Log 2 h h c.in_ok-file.field-0 (Some c.in-Some.file) refl (c.in_ok-file.ensures.first told) c.in-Some.is) refl refl refl refl)

pub returns-in-Some-2-clause-stray : goal.returns-in-Some-2-clause-stray
returns-in-Some-2-clause-stray g c told =
    let h = g.D.Disk.held c.args.disk.now in
    let s1 = c.find_from.ensures.stays.files in
    sym (stray_is h None (Some c.in-Some-2.file) _ _ _
    (found Log 2 h h c.in_ok-file.field-0 None refl (c.in_ok-file.ensures.first told) c.in_default.is)
    (found Snapshot 2 h (g.D.Disk.held c.find_from.new.disk) c.in_ok-file-2.field-0 (Some c.in-Some-2.file) s1 (c.in_ok-file-2.ensures.first told) c.in-Some-2.is) refl refl refl)

pub returns-in-Some-3-clause-stray : goal.returns-in-Some-3-clause-stray
returns-in-Some-3-clause-stray g c told =
    let h = g.D.Disk.held c.args.disk.now in
    let s1 = c.find_from.ensures.stays.files in
    let s2 = c.find_from-2.ensures.stays.files ∙ s1 in
    sym (stray_is h None None (Some c.in-Some-3.file) _ _
    (found Log 2 h h c.in_ok-file.field-0 None refl (c.in_ok-file.ensures.first told) c.in_default.is)
    (found Snapshot 2 h (g.D.Disk.held c.find_from.new.disk) c.in_ok-file-2.field-0 None s1 (c.in_ok-file-2.ensures.first told) c.in_default-2.is)
    (found Swap 0 h (g.D.Disk.held c.find_from-2.new.disk) c.in_ok-file-3.field-0 (Some c.in-Some-3.file) s2 (c.in_ok-file-3.ensures.first told) c.in-Some-3.is) refl refl)

pub returns-in-Some-4-clause-stray : goal.returns-in-Some-4-clause-stray
returns-in-Some-4-clause-stray g c told =
    let h = g.D.Disk.held c.args.disk.now in
    let s1 = c.find_from.ensures.stays.files in
    let s2 = c.find_from-2.ensures.stays.files ∙ s1 in
    let s3 = c.find_from-3.ensures.stays.files ∙ s2 in
    sym (stray_is h None None None (Some c.in-Some-4.file) _
    (found Log 2 h h c.in_ok-file.field-0 None refl (c.in_ok-file.ensures.first told) c.in_default.is)
    (found Snapshot 2 h (g.D.Disk.held c.find_from.new.disk) c.in_ok-file-2.field-0 None s1 (c.in_ok-file-2.ensures.first told) c.in_default-2.is)
    (found Swap 0 h (g.D.Disk.held c.find_from-2.new.disk) c.in_ok-file-3.field-0 None s2 (c.in_ok-file-3.ensures.first told) c.in_default-3.is)
    (found Claim 0 h (g.D.Disk.held c.find_from-3.new.disk) c.in_ok-file-4.field-0 (Some c.in-Some-4.file) s3 (c.in_ok-file-4.ensures.first told) c.in-Some-4.is) refl)

pub returns-clause-stray : goal.returns-clause-stray
returns-clause-stray g c =
    let h = g.D.Disk.held c.args.disk.now in
    let s1 = c.find_from.ensures.stays.files in
    let s2 = c.find_from-2.ensures.stays.files ∙ s1 in
    let s3 = c.find_from-3.ensures.stays.files ∙ s2 in
    let s4 = c.find_from-4.ensures.stays.files ∙ s3 in
    if_ok c.find_from-5.result
    (λ o. IsTrue g.D.Disk.tells → o ≡ first_from Events 0 (g.D.Disk.held c.find_from-4.new.disk))
    (λ o. IsTrue g.D.Disk.tells → o ≡ first_stray h)
    (λ o is told. sym (stray_is h None None None None o
    (found Log 2 h h c.in_ok-file.field-0 None refl (c.in_ok-file.ensures.first told) c.in_default.is)
    (found Snapshot 2 h (g.D.Disk.held c.find_from.new.disk) c.in_ok-file-2.field-0 None s1 (c.in_ok-file-2.ensures.first told) c.in_default-2.is)
    (found Swap 0 h (g.D.Disk.held c.find_from-2.new.disk) c.in_ok-file-3.field-0 None s2 (c.in_ok-file-3.ensures.first told) c.in_default-3.is)
    (found Claim 0 h (g.D.Disk.held c.find_from-3.new.disk) c.in_ok-file-4.field-0 None s3 (c.in_ok-file-4.ensures.first told) c.in_default-4.is)
    (found Events 0 h (g.D.Disk.held c.find_from-4.new.disk) o o s4 (is told) refl)))
    c.find_from-5.ensures.first
