use Rattle.std.proofs.Common.{arith}
use Rattle.process_session.proofs.Encoded.{encoded_size-remove}
use Rattle.process_session.proofs.session.sizes.encoded_without.Goals as goal

pub prove-unreachable-requires : goal.prove-unreachable-requires
prove-unreachable-requires c = omega (arith, encoded_size-remove c.args.attributes.now c.args.key.now)
