use Rattle.std.proofs.Common.{refl}
use Rattle.flowfile_record.specs.declared.worked.Origin.TheVariants.{Cloned}
use Rattle.process_session.proofs.Sound.{may_inherit}
use Rattle.process_session.proofs.session.Session.add_clone.Goals as goal

pub add-requires : goal.add-requires
add-requires c = may_inherit c.args.self.now c.args.of (Cloned c.args.of) c.in_ok-attributes.attributes c.in_ok-body.body refl refl tt c.in_ok-attributes.ensures c.in_ok-body.ensures.inside c.requires
