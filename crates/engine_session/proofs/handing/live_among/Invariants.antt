use Rattle.std.proofs.Common.{◌≡◌, take}
use Rattle.engine_session.specs.Handing.{live_among}
use Rattle.engine_session.proofs.handing.live_among.Given as goal

abbrev pub invariant-loop-number : goal.invariant-loop-number
invariant-loop-number l = l.files ≡ live_among l.live.items (take l.number-index l.numbers)
