use Rattle.std.proofs.Common.{◌≡◌, ◌<◌, List, ◌++◌, ◌∷◌, [], length, vec_len, ap, ◌∙◌, arith}
use Rattle.flow_query.specs.Parts.{waiting_of}
use Rattle.flow_query.specs.declared.waiting.Waiting.{Waiting}
use Rattle.flow_query.proofs.Listed.{listed-file, listed-is}
use Rattle.flow_query.proofs.waiting.list_file.Goals as goal

pub returns-in_ok-push-clause-lists : goal.returns-in_ok-push-clause-lists
returns-in_ok-push-clause-lists c place lt =
    let lists = c.args.lists.now.items in
    let a = c.args.active.now in
    let at = c.from-place.result in
    let many : vec_len c.args.lists.now ≡ length lists = omega arith in
    let within : at < length lists = omega (arith, c.if-place-len.true, c.len.ensures, many) in
    let list = listed-is lists at c.index_mut.result.now within c.index_mut.ensures.value in
    listed-file a lists at c.push.new.self c.from-place.ensures within (c.in_ok-push.ensures.items ∙ ap (λ (l : List Waiting). l ++ waiting_of a ∷ []) list) place
