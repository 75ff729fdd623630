use Rattle.std.proofs.Common.{◌≤◌, sym, ◌∙◌, ap, subst}
use Rattle.std.specs.FinMap.{insert}
use Rattle.flowfile_record.specs.Attributes.{AttributeMap, IsWithinLimits, encoded_size}
use Rattle.flowfile_record.specs.declared.attributes.TheConstants.{ATTRIBUTES_MAX}
use Rattle.process_session.specs.declared.file.File.{File}
use Rattle.process_session.specs.Bench.{attributes_in}
use Rattle.process_session.proofs.Changing.{attributes_in-there, set-from_change}
use Rattle.process_session.proofs.session.changing.put_in_file.Goals as goal

pub put_in-requires-clause-size : goal.put_in-requires-clause-size
put_in-requires-clause-size c =
    let there = attributes_in-there c.args.place c.args.files.now.items c.index_mut-file.result.now c.requires.there c.index_mut-file.ensures.value in
    subst (λ (m : AttributeMap). encoded_size (insert m c.args.key.now c.args.value.now) ≤ ATTRIBUTES_MAX) there c.requires.size

pub returns-clause-ok : goal.returns-clause-ok
returns-clause-ok c =
    let files = c.args.files.now.items in
    let file : File = c.index_mut-file.result.now in
    let there = attributes_in-there c.args.place files file c.requires.there c.index_mut-file.ensures.value in
    let change : File → File = λ file. record file { attributes = insert (attributes_in files c.args.place) c.args.key.now c.args.value.now } in
    let made = ap (λ (m : AttributeMap). insert m c.args.key.now c.args.value.now) there ∙ sym c.in_ok-put_in.ensures.ok in
    set-from_change change c.args.place files file _ c.requires.there c.index_mut-file.ensures.value (ap (λ (m : AttributeMap). record file { attributes = m }) made)

pub returns-clause-limits : goal.returns-clause-limits
returns-clause-limits c =
    let there = attributes_in-there c.args.place c.args.files.now.items c.index_mut-file.result.now c.requires.there c.index_mut-file.ensures.value in
    subst IsWithinLimits (c.in_ok-put_in.ensures.ok ∙ ap (λ (m : AttributeMap). insert m c.args.key.now c.args.value.now) (sym there)) c.in_ok-put_in.ensures.limits
