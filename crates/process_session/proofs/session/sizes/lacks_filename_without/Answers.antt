use Rattle.std.proofs.Common.{codes, arith}
use Rattle.std.proofs.lemmas.Grind.{common_steps}
use Rattle.process_session.proofs.Encoded.{absent-remove}
use Rattle.process_session.proofs.session.sizes.lacks_filename_without.Goals as goal

pub returns-then-eq : goal.returns-then-eq
returns-then-eq c = rw (absent-remove c.args.attributes.now c.args.key.now (codes "filename")) (grind (arith, common_steps))

pub returns-else-eq : goal.returns-else-eq
returns-else-eq c = rw (absent-remove c.args.attributes.now c.args.key.now (codes "filename")) (grind (arith, common_steps))
