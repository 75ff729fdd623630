use Rattle.std.proofs.Common.{refl}
use Rattle.std.proofs.lemmas.Result.{on_ok_weaker}
use Rattle.machine_model.specs.declared.kind.Kind.TheVariants.{SegmentContent}
use Rattle.proc_text.proofs.Began.{began-one}
use Rattle.proc_text.proofs.PartsOwed.{began-read, segment-acts}
use Rattle.proc_text.proofs.segment_content.SegmentContentActs.act.Goals as goal

pub part-requires-clause-one : goal.part-requires-clause-one
part-requires-clause-one c = began-one (SegmentContent c.args.self.now.size) c.args.session.now c.args._given.now refl c.requires

pub part-requires-clause-read : goal.part-requires-clause-read
part-requires-clause-read c = began-read (SegmentContent c.args.self.now.size) c.args.session.now c.args._given.now refl c.requires

pub returns-clause-acts : goal.returns-clause-acts
returns-clause-acts c = on_ok_weaker c.part.result (segment-acts c.args.self.now.size c.args.session.now c.args._given.now c.part.new.session c.requires) c.part.ensures
