use Rattle.std.proofs.Common.{rules, ◌≡◌, List, [], ◌∷◌, ◌++◌, ◌∙◌}
use Rattle.std.specs.Prelude.{codes, decimal, string_bytes}
use Rattle.proc_text.specs.Parting.{pair_told}
use Rattle.proc_text.specs.Pieces.{lines_told}
use Rattle.proc_text.proofs.Telling.{Pair, told-four, told-more}
use Rattle.proc_text.proofs.parting.told_of.Goals as goal

pub returns : goal.returns
returns c =
    let lines : List Pair = lines_told c.args.lines in
    let a : Pair = (codes "fragment.identifier", string_bytes c.args.whole.now.identifier) in
    let b : Pair = (codes "fragment.index", decimal c.args.index) in
    let d : Pair = (codes "fragment.count", string_bytes c.args.whole.now.count) in
    let e : Pair = (codes "segment.original.filename", string_bytes c.args.whole.now.filename) in
    let one : pair_told c.told_as.result ≡ a = search rules in
    let two : pair_told c.told_as-2.result ≡ b = search rules in
    let three : pair_told c.told_as-3.result ≡ d = search rules in
    let four : pair_told c.told_as-4.result ≡ e = search rules in
    told-more _ _ c.told_as-4.result (((lines ++ a ∷ []) ++ b ∷ []) ++ d ∷ []) e
    (told-more _ _ c.told_as-3.result ((lines ++ a ∷ []) ++ b ∷ []) d
    (told-more _ _ c.told_as-2.result (lines ++ a ∷ []) b
    (told-more _ _ c.told_as.result lines a c.in_ok-told.ensures c.in_ok-push.ensures.items one)
    c.in_ok-push-2.ensures.items two)
    c.in_ok-push-3.ensures.items three)
    c.in_ok-push-4.ensures.items four
    ∙ told-four lines a b d e
