use Rattle.std.proofs.Common.{arith}
use Rattle.process_session.proofs.Encoded.{encoded_size-insert}
use Rattle.process_session.proofs.session.sizes.encoded_with.Goals as goal

pub prove-unreachable-requires : goal.prove-unreachable-requires
prove-unreachable-requires c = omega (arith, encoded_size-insert c.args.attributes.now c.args.key.now c.args.value.now)
