use Rattle.std.proofs.Common.{◌≡◌, None, rules, sym, ◌∙◌, ap, subst}
use Rattle.std.specs.Prelude.{slice_get}
use Rattle.std.specs.Option.{option_map}
use Rattle.machine_model.specs.Order.{best}
use Rattle.machine_model.specs.View.{FileView}
use Rattle.flow_queue.specs.Queue.{held_view, views_of, IsAtRest}
use Rattle.flow_queue.proofs.AtRest.{best-rests}
use Rattle.flow_queue.proofs.Ranks.{eligible-ranked}
use Rattle.flow_queue.proofs.queue.Queue.best.Goals as goal

pub returns-in_err-held-clause-best : goal.returns-in_err-held-clause-best
returns-in_err-held-clause-best c =
    let queue = c.self.inside in
    let ranked = eligible-ranked queue.limits c.args.moment queue.files.items queue.order queue.by_rank.items c.self.invariant.files.apart c.self.invariant.ranked in
    let found = ap (option_map (λ other. held_view other.now)) (sym c.in_err-held.was) ∙ c.best_of.ensures ∙ ap (λ views. slice_get views 0) ranked in
    let none : c.from_residual.result ≡ None = search rules in
    none ∙ ap (option_map (λ (file : FileView). file.number)) found ∙ ap (λ q. option_map (λ (file : FileView). file.number) (best q.order q.limits c.args.moment (views_of q.files))) c.self.view_is

pub returns-clause-best : goal.returns-clause-best
returns-clause-best c =
    let queue = c.self.inside in
    let ranked = eligible-ranked queue.limits c.args.moment queue.files.items queue.order queue.by_rank.items c.self.invariant.files.apart c.self.invariant.ranked in
    let found = ap (option_map (λ other. held_view other.now)) (sym c.in_ok-held.was) ∙ c.best_of.ensures ∙ ap (λ views. slice_get views 0) ranked in
    ap (option_map (λ (file : FileView). file.number)) found ∙ ap (λ q. option_map (λ (file : FileView). file.number) (best q.order q.limits c.args.moment (views_of q.files))) c.self.view_is

pub returns-clause-at_rest : goal.returns-clause-at_rest
returns-clause-at_rest c =
    let queue = c.self.inside in
    let held = c.in_ok-held.held.now in
    let ranked = eligible-ranked queue.limits c.args.moment queue.files.items queue.order queue.by_rank.items c.self.invariant.files.apart c.self.invariant.ranked in
    let found = ap (option_map (λ other. held_view other.now)) (sym c.in_ok-held.was) ∙ c.best_of.ensures ∙ ap (λ views. slice_get views 0) ranked in
    subst (λ q. IsAtRest q held.file.number) c.self.view_is (best-rests queue.order queue.limits c.args.moment queue.files.items (held_view held) c.self.invariant.files.apart.numbers found)
