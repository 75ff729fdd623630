use Rattle.disk_trait.proofs.DiskCalls.{cut_goes_on}
use Rattle.disk_trait.proofs.memory.history.History.cut.Goals as goal

pub invariant_of-self : goal.invariant_of-self
invariant_of-self c =
    let h = c.args.self.now in
    let e = c.cut_file.ensures in
    record {
      past = (cut_goes_on h.table c.cut_file.new.table h.done c.cut_file.new.done h.moment h.past c.cut_file.result c.args.file c.args.size e.number c.requires.inside e.cut e.noted e.held e.same e.first e.had).past;
    }

pub returns-clause-images : goal.returns-clause-images
returns-clause-images c =
    let h = c.args.self.now in
    let e = c.cut_file.ensures in
    (cut_goes_on h.table c.cut_file.new.table h.done c.cut_file.new.done h.moment h.past c.cut_file.result c.args.file c.args.size e.number c.requires.inside e.cut e.noted e.held e.same e.first e.had).images
