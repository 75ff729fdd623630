use Rattle.std.proofs.Common.{◌<◌, length, map, sym, ◌∙◌, subst, arith}
use Rattle.std.specs.Prelude.{None}
use Rattle.std.proofs.lemmas.List.{get_or-map, get_or_default, length-map, take_more_same}
use Rattle.process_session.specs.declared.file.Source.{Source}
use Rattle.engine_session.proofs.done.are_same_contents.Goals as goal

pub loop-place-preserved : goal.loop-place-preserved
loop-place-preserved c =
    let place = c.loop-place.place in
    let sources = c.args.sources.now in
    let contents = c.args.contents.now in
    let within : place < length sources = omega (arith, c.loop-place-test.true) in
    let there : place < length contents = omega (arith, within, c.if-sources-contents.false) in
    take_more_same (map (λ (source : Source). source.bytes) sources) contents place None (subst (λ n. place < n) (sym (length-map sources (λ source. source.bytes))) within) there c.loop-place.invariant
    (get_or-map (λ (source : Source). source.bytes) sources place c.index-sources-place.result None within ∙ c.are_same_bytes.ensures.0 (cc) ∙ c.index-contents-place.is
    ∙ get_or_default contents place c.index-contents-place.result None there)
