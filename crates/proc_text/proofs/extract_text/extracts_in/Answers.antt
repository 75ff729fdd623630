use Rattle.std.proofs.Common.{◌≡◌, List, [], cond, map, sym, ◌∙◌, ap, subst}
use Rattle.std.specs.Prelude.{IfOk}
use Rattle.machine_model.specs.ExtractText.{found_pairs}
use Rattle.proc_text.specs.Extracting.{pair_of}
use Rattle.proc_text.proofs.ExtractsSet.{Pair}
use Rattle.proc_text.proofs.Texts.{is-text, isnt-text}
use Rattle.proc_text.proofs.extract_text.extracts_in.Goals as goal

pub returns-in-Ok : goal.returns-in-Ok
returns-in-Ok c =
    let content = c.args.content.now in
    let own = c.args.own.now in
    let text = c.in-Ok.ensures in
    subst (λ (found : List Pair). IfOk c.found_in.result (λ extracts. map pair_of extracts.items ≡ found))
    (ap (λ t. found_pairs t own) text.0 ∙ sym (ap (λ b. cond b (found_pairs content own) []) (is-text content text.1))) c.found_in.ensures

pub returns-in-Err : goal.returns-in-Err
returns-in-Err c =
    let content = c.args.content.now in
    ap (map pair_of) c.new.ensures.items ∙ sym (ap (λ b. cond b (found_pairs content c.args.own.now) []) (isnt-text content c.in-Err.ensures))
