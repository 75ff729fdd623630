use Rattle.std.proofs.Common.{[], refl, arith}
use Rattle.flowfile_record.specs.declared.worked.Origin.TheVariants.{Forked}
use Rattle.flowfile_record.specs.declared.worked.Body.TheVariants.{New}
use Rattle.process_session.proofs.Sound.{may_inherit}
use Rattle.process_session.proofs.session.Session.add_child.Goals as goal

pub add_empty-requires : goal.add_empty-requires
add_empty-requires c = may_inherit c.args.self.now c.args.parent (Forked c.args.parent) c.in_ok-attributes.attributes (New []) refl refl tt c.in_ok-attributes.ensures (omega arith) c.requires
