use Rattle.std.proofs.Common.{[], ◌++◌, true, sym, ◌∙◌, ap}
use Rattle.std.specs.Prelude.{unwrap_or}
use Rattle.flowfile_record.specs.declared.worked.Body.{Body}
use Rattle.flowfile_record.specs.declared.worked.Body.TheVariants.{New}
use Rattle.process_session.specs.declared.file.File.{File}
use Rattle.process_session.specs.Bench.{bytes_in}
use Rattle.process_session.proofs.Changing.{body_at-there, set-from_change}
use Rattle.process_session.proofs.session.changing.append_file.Goals as goal

pub returns-clause-ok : goal.returns-clause-ok
returns-clause-ok c =
    let files = c.args.files.now.items in
    let file : File = c.index_mut-file.result.now in
    let bytes = body_at-there c.args.sources.now c.args.place files file c.requires.there c.index_mut-file.ensures.value in
    let change : File → File = λ file. record file { body = New (unwrap_or (bytes_in c.args.sources.now files c.args.place) [] ++ c.args.more.now); written = true } in
    let made = ap (λ o. New (unwrap_or o [] ++ c.args.more.now)) bytes ∙ sym c.in_ok-extend_body.ensures.ok in
    set-from_change change c.args.place files file _ c.requires.there c.index_mut-file.ensures.value (ap (λ (b : Body). record file { body = b; written = true }) made)
