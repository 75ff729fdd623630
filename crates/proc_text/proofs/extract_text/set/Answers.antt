use Rattle.std.proofs.Common.{◌≡◌, ◌+◌, List, ◌∷◌, Some, drop, map, sym, ◌∙◌, ap, ap₂}
use Rattle.process_session.specs.Bench.{bench_attributes}
use Rattle.process_session.specs.Changes.{with_put}
use Rattle.processor_api.proofs.Answered.{changed_so, only_memory}
use Rattle.proc_text.specs.Extracting.{pair_of}
use Rattle.proc_text.proofs.ExtractsSet.{Pair, next-pair, put-made, put-one, sets-first, sets-more}
use Rattle.proc_text.proofs.extract_text.set.Goals as goal

pub or_no_memory-requires : goal.or_no_memory-requires
or_no_memory-requires c =
    let i = c.loop-extract.extract-index in
    let extracts = c.args.extracts.now in
    let before = c.args.session.now in
    let now = c.loop-extract.session in
    let rest : List Pair = map pair_of (drop (i + 1) extracts) in
    let pair : Pair = (c.as_str.result.now, c.as_str-in-loop-extract.result.now) in
    let same : pair_of c.extract-item.result ≡ pair = ap₂ (λ name value. (name, value)) (sym c.as_str.ensures.value) (sym c.as_str-in-loop-extract.ensures.value) in
    let left = next-pair pair_of extracts i c.extract-item.result c.loop-extract-test.true c.extract-item.is ∙ ap (λ p. p ∷ rest) same in
    let first = sets-first (bench_attributes before 0) (bench_attributes now 0) (map pair_of extracts) (map pair_of (drop i extracts)) rest pair c.loop-extract.invariant.same left c.requires.may in
    only_memory _ _ c.put_attribute.ensures.refusal (put-one now c.loop-extract.invariant.began pair first.0 first.1).free

pub loop-extract-preserved : goal.loop-extract-preserved
loop-extract-preserved c =
    let i = c.loop-extract.extract-index in
    let extracts = c.args.extracts.now in
    let before = c.args.session.now in
    let now = c.loop-extract.session in
    let new = c.put_attribute.new.self in
    let rest : List Pair = map pair_of (drop (i + 1) extracts) in
    let pair : Pair = (c.as_str.result.now, c.as_str-in-loop-extract.result.now) in
    let same : pair_of c.extract-item.result ≡ pair = ap₂ (λ name value. (name, value)) (sym c.as_str.ensures.value) (sym c.as_str-in-loop-extract.ensures.value) in
    let left = next-pair pair_of extracts i c.extract-item.result c.loop-extract-test.true c.extract-item.is ∙ ap (λ p. p ∷ rest) same in
    let first = sets-first (bench_attributes before 0) (bench_attributes now 0) (map pair_of extracts) (map pair_of (drop i extracts)) rest pair c.loop-extract.invariant.same left c.requires.may in
    let put = put-one now c.loop-extract.invariant.began pair first.0 first.1 in
    let new-is : new ≡ with_put now 0 pair.0 pair.1 = changed_so _ _ _ _ _ c.put_attribute.ensures.after c.in_ok-or_no_memory.ensures.value in
    let made = put-made before now new c.loop-extract.invariant.began pair first.0 c.loop-extract.invariant.kept put new-is in
    record {
      began = made.began;
      kept = made.kept;
      same = sets-more (bench_attributes before 0) (bench_attributes now 0) (bench_attributes new 0) (map pair_of extracts) (map pair_of (drop i extracts)) rest pair
          c.loop-extract.invariant.same left (first.1 ∙ ap Some (sym made.attributes));
    }
