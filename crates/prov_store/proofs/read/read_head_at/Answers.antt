use Rattle.std.proofs.Common.{◌-◌, refl, arith}
use Rattle.prov_store.proofs.Headers.{head_is, no_head, one_head, sized_fits}
use Rattle.prov_store.proofs.read.read_head_at.Goals as goal

pub returns-then-have-lt-HEAD_SIZE-clause-head : goal.returns-then-have-lt-HEAD_SIZE-clause-head
returns-then-have-lt-HEAD_SIZE-clause-head g c told event whole there =
    let room = no_head g.D.Disk.tells (g.D.Disk.held c.args.disk.now) c.args.cursor event whole c.requires told there in
    absurd (omega (arith, room, c.if-have-lt-HEAD_SIZE.true))

pub returns-clause-head : goal.returns-clause-head
returns-clause-head g c told event whole there =
    let have = c.args.cursor.size - c.args.cursor.at in
    let is = head_is g.D.Disk.tells (g.D.Disk.held c.args.disk.now) c.args.cursor c.read.new.into have event whole c.requires told refl (c.in_ok-read.ensures.bytes told) there in
    one_head c.head_of.result c.read.new.into have (record { kind = event.kind; size = whole }) c.head_of.ensures.some c.head_of.ensures.none is

pub returns-clause-within : goal.returns-clause-within
returns-clause-within g c head is =
    let fits = sized_fits _ (c.args.cursor.size - c.args.cursor.at) head.size (c.head_of.ensures.some head is).size in
    omega (arith, fits, c.requires.within)
