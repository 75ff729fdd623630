use Rattle.std.proofs.Common.{sym, ◌∙◌, ap, subst}
use Rattle.std.specs.FinMap.{remove}
use Rattle.flowfile_record.specs.Attributes.{AttributeMap, IsWithinLimits}
use Rattle.process_session.specs.declared.file.File.{File}
use Rattle.process_session.specs.Bench.{attributes_in}
use Rattle.process_session.proofs.Changing.{attributes_in-there, set-from_change}
use Rattle.process_session.proofs.session.changing.remove_from_file.Goals as goal

pub returns-clause-limits : goal.returns-clause-limits
returns-clause-limits c =
    let there = attributes_in-there c.args.place c.args.files.now.items c.index_mut-file.result.now c.requires c.index_mut-file.ensures.value in
    subst IsWithinLimits (c.remove_from.ensures.after ∙ ap (λ (m : AttributeMap). remove m c.args.key.now) (sym there)) c.remove_from.ensures.limits

pub returns-clause-after : goal.returns-clause-after
returns-clause-after c =
    let files = c.args.files.now.items in
    let file : File = c.index_mut-file.result.now in
    let there = attributes_in-there c.args.place files file c.requires c.index_mut-file.ensures.value in
    let change : File → File = λ file. record file { attributes = remove (attributes_in files c.args.place) c.args.key.now } in
    let made = ap (λ (m : AttributeMap). remove m c.args.key.now) there ∙ sym c.remove_from.ensures.after in
    set-from_change change c.args.place files file _ c.requires c.index_mut-file.ensures.value (ap (λ (m : AttributeMap). record file { attributes = m }) made)
