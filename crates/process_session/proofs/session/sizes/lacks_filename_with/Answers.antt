use Rattle.std.proofs.Common.{codes, arith}
use Rattle.std.proofs.lemmas.Grind.{common_steps}
use Rattle.process_session.proofs.Encoded.{absent-insert}
use Rattle.process_session.proofs.session.sizes.lacks_filename_with.Goals as goal

pub returns-then-ne : goal.returns-then-ne
returns-then-ne c value = rw (absent-insert c.args.attributes.now c.args.key.now value (codes "filename")) (grind (arith, common_steps))

pub returns-else-ne : goal.returns-else-ne
returns-else-ne c value = rw (absent-insert c.args.attributes.now c.args.key.now value (codes "filename")) (grind (arith, common_steps))
