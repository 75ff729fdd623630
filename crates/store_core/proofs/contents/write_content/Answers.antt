use Rattle.std.proofs.Common.{length, ◌∙◌}
use Rattle.store_core.proofs.Growing.{since_torn, grows_torn}
use Rattle.store_core.proofs.PlacingOne.{may_append, new_placed, new_encoded, like_recorded, next_of, one_written}
use Rattle.store_core.proofs.contents.write_content.Goals as goal

pub append-requires-clause-content : goal.append-requires-clause-content
append-requires-clause-content g c κs within = may_append c.args.contents.now c.args.one.now c.args.bytes.now c.requires.new c.requires.may

pub returns-in_err-at-clause-grows : goal.returns-in_err-at-clause-grows
returns-in_err-at-clause-grows g c =
    let next = next_of c.args.contents.now c.args.one.now c.args.bytes.now c.requires.new c.requires.may.room in
    record {
      files = λ told. grows_torn c.args.contents.now next.0 (length c.args.bytes.now) (g.D.Disk.held c.args.disk.now) (g.D.Disk.held c.append.new.disk) next.1 (c.append.ensures.kept told).torn;
      left = since_torn g.D.Disk.moment g.D.Disk.images c.args.contents.now next.0 (length c.args.bytes.now) c.args.disk.now c.append.new.disk next.1 c.append.ensures.images;
    }

pub returns-clause-grows : goal.returns-clause-grows
returns-clause-grows g c =
    let next = next_of c.args.contents.now c.args.one.now c.args.bytes.now c.requires.new c.requires.may.room in
    record {
      files = λ told. grows_torn c.args.contents.now next.0 (length c.args.bytes.now) (g.D.Disk.held c.args.disk.now) (g.D.Disk.held c.append.new.disk) next.1 (c.append.ensures.kept told).torn;
      left = since_torn g.D.Disk.moment g.D.Disk.images c.args.contents.now next.0 (length c.args.bytes.now) c.args.disk.now c.append.new.disk next.1 c.append.ensures.images;
    }

pub set_content-requires-clause-encoded : goal.set_content-requires-clause-encoded
set_content-requires-clause-encoded g c =
    new_encoded c.args.one.now c.args.bytes.now c.args.contents.now c.append.new.self c.in_ok-at.at c.requires.new c.requires.may.fresh c.in_ok-at.ensures.appended

pub set_content-requires-clause-like : goal.set_content-requires-clause-like
set_content-requires-clause-like g c =
    like_recorded c.args.place c.args.one.now _ c.args.bytes.now c.args.contents.now c.append.new.self c.in_ok-at.at c.requires.recorded c.requires.new c.requires.may.fresh c.in_ok-at.ensures.appended

pub returns-clause-placed : goal.returns-clause-placed
returns-clause-placed g c =
    new_placed g.D.Disk.tells (g.D.Disk.held c.append.new.disk) c.args.place c.args.one.now c.args.bytes.now c.args.contents.now c.append.new.self c.in_ok-at.at c.args.entry.now c.set_content.new.self
    c.requires.new c.requires.may.fresh c.in_ok-at.ensures.appended (λ told. (c.in_ok-at.ensures.written told).content) c.set_content.ensures.entry

pub returns-clause-written : goal.returns-clause-written
returns-clause-written g c = record {
  sizes = λ told. (c.in_ok-at.ensures.written told).sizes;
  calls = c.append.ensures.moment ∙ one_written c.args.one.now c.args.bytes.now (g.D.Disk.moment c.args.disk.now) c.requires.new;
}
