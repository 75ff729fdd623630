use Rattle.disk_trait.proofs.DiskCalls.{write_goes_on}
use Rattle.disk_trait.proofs.memory.history.History.write.Goals as goal

pub invariant_of-self : goal.invariant_of-self
invariant_of-self c =
    let h = c.args.self.now in
    let e = c.write_file.ensures in
    record {
      past = (write_goes_on h.table c.write_file.new.table h.done c.write_file.new.done h.moment h.past c.write_file.result c.args.file c.args.at c.args.bytes.now e.number c.requires.inside e.written e.has e.noted e.held e.same e.first e.had).past;
    }

pub returns-clause-images : goal.returns-clause-images
returns-clause-images c =
    let h = c.args.self.now in
    let e = c.write_file.ensures in
    (write_goes_on h.table c.write_file.new.table h.done c.write_file.new.done h.moment h.past c.write_file.result c.args.file c.args.at c.args.bytes.now e.number c.requires.inside e.written e.has e.noted e.held e.same e.first e.had).images
