use Rattle.std.proofs.Common.{◌+◌, ◌<◌, drop, length, sym, ◌∙◌, ap, arith}
use Rattle.proc_merge.specs.Taken.{bytes_read}
use Rattle.proc_merge.proofs.Reading.{and_read, as-many, bytes-there, no_source, read-more, read-stops, unread}
use Rattle.proc_merge.proofs.contents.joined_content.Goals as goal

pub returns-in_default : goal.returns-in_default
returns-in_default c =
    let bench = c.args.session.now in
    let place = c.loop-place.place in
    let within : place < length bench.sources = omega (arith, c.loop-place-test.true, c.taken-place-end.ensures) in
    let none = unread bench place c.content.result _ (omega (arith, within, as-many bench c.requires)) c.in_default.is c.content.ensures.refusal in
    sym (c.loop-place.invariant ∙ read-stops bench.sources place no_source c.loop-place.joined.items within (sym (bytes-there bench place no_source c.requires within) ∙ none))

pub loop-place-preserved : goal.loop-place-preserved
loop-place-preserved c =
    let bench = c.args.session.now in
    let place = c.loop-place.place in
    let within : place < length bench.sources = omega (arith, c.loop-place-test.true, c.taken-place-end.ensures) in
    c.loop-place.invariant
    ∙ read-more bench.sources place no_source c.loop-place.joined.items c.in-Ok.content.now within (sym (bytes-there bench place no_source c.requires within) ∙ c.in-Ok.ensures.content)
    ∙ ap (λ bytes. and_read bytes (bytes_read (drop (place + 1) bench.sources))) (sym c.in_ok-extend_from_slice.ensures.items)
