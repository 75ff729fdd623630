use Rattle.std.proofs.Common.{◌-◌, refl, arith, rules}
use Rattle.prov_store.proofs.Headers.{header_of, no_header}
use Rattle.prov_store.proofs.read.skip_event_at.Goals as goal

pub returns-then-have-lt-HEADER_SIZE-clause-damaged : goal.returns-then-have-lt-HEADER_SIZE-clause-damaged
returns-then-have-lt-HEADER_SIZE-clause-damaged g c damage is told event whole there =
    let room = no_header g.D.Disk.tells (g.D.Disk.held c.args.disk.now) c.args.cursor event whole c.requires told there in
    absurd (omega (arith, room, c.if-have-lt-HEADER_SIZE.true))

pub returns-in-Ok-clause-size : goal.returns-in-Ok-clause-size
returns-in-Ok-clause-size g c told event whole there =
    let header = header_of g.D.Disk.tells (g.D.Disk.held c.args.disk.now) c.args.cursor c.read.new.into (c.args.cursor.size - c.args.cursor.at) event whole c.requires told refl (c.in_ok-read.ensures.bytes told) there in
    cc (header, c.size_by_header.ensures, c.in-Ok.is)

pub returns-in-Err-Short-clause-damaged : goal.returns-in-Err-Short-clause-damaged
returns-in-Err-Short-clause-damaged g c damage is told event whole there =
    let header = header_of g.D.Disk.tells (g.D.Disk.held c.args.disk.now) c.args.cursor c.read.new.into (c.args.cursor.size - c.args.cursor.at) event whole c.requires told refl (c.in_ok-read.ensures.bytes told) there in
    cc (header, c.size_by_header.ensures, c.in-Err-Short.is, c.in-Err-Short.field-0-is)

pub returns-in-Err : goal.returns-in-Err
returns-in-Err g c = record {
  size = tt;
  within = tt;
  damaged = λ damage is told event whole there.
      let header = header_of g.D.Disk.tells (g.D.Disk.held c.args.disk.now) c.args.cursor c.read.new.into (c.args.cursor.size - c.args.cursor.at) event whole c.requires told refl (c.in_ok-read.ensures.bytes told) there in
      cc (header, c.size_by_header.ensures, c.in-Err.is);
  stays = search rules;
  cause = search rules;
}
