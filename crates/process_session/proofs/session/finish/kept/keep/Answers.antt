use Rattle.std.proofs.Common.{sym, ◌∙◌, arith}
use Rattle.process_session.proofs.FinishFiles.{keeps_out, keeps_more, keeps_none}
use Rattle.process_session.proofs.session.finish.kept.keep.Goals as goal

pub returns-then-is_left_out-clause-kept : goal.returns-then-is_left_out-clause-kept
returns-then-is_left_out-clause-kept c = λ stand more is. keeps_out c.args.file c.args.kept.now.items c.args.origins.now.items stand more (sym c.is_left_out.ensures ∙ c.if-is_left_out.true) is

pub returns-in-Some-clause-kept : goal.returns-in-Some-clause-kept
returns-in-Some-clause-kept c = λ stand more is. keeps_more c.args.file c.args.kept.now.items c.keep_with.new.kept.items c.args.origins.now.items c.pop_front.new.self.items c.in-Some.origin stand more (sym c.is_left_out.ensures ∙ c.if-is_left_out.false) is c.in-Some.ensures.items c.keep_with.ensures.kept

pub returns-in_default-clause-kept : goal.returns-in_default-clause-kept
returns-in_default-clause-kept c = λ stand more is. absurd (keeps_none c.args.file c.args.origins.now.items stand more (sym c.is_left_out.ensures ∙ c.if-is_left_out.false) is (omega (arith, c.in_default.ensures.cases.0)))
