use Rattle.std.proofs.Common.{cond, sym, ◌∙◌, ap}
use Rattle.std.specs.Prelude.{is_ok}
use Rattle.process_session.specs.Bench.{Bench}
use Rattle.process_session.specs.Changes.{with_clone, with_part}
use Rattle.process_session.proofs.session.Session.add_range.Goals as goal

pub returns-then-is_whole-clause-after : goal.returns-then-is_whole-clause-after
returns-then-is_whole-clause-after c =
    let whole = ap (λ b. cond b (with_clone c.args.self.now c.args.of) (with_part c.args.self.now c.args.of c.args.offset c.args.size)) (sym (sym c.is_whole.ensures ∙ c.if-is_whole.true)) in
    c.add_clone.ensures.after ∙ ap (λ (b : Bench). cond (is_ok c.add_clone.result) b c.args.self.now) whole

pub returns-else-is_whole-clause-after : goal.returns-else-is_whole-clause-after
returns-else-is_whole-clause-after c =
    let part = ap (λ b. cond b (with_clone c.args.self.now c.args.of) (with_part c.args.self.now c.args.of c.args.offset c.args.size)) (sym (sym c.is_whole.ensures ∙ c.if-is_whole.false)) in
    c.add_part.ensures.after ∙ ap (λ (b : Bench). cond (is_ok c.add_part.result) b c.args.self.now) part
