use Rattle.std.proofs.Common.{◌≡◌, ap, ◌∙◌}
use Rattle.disk_trait.specs.Memory.{durable, state_after}
use Rattle.disk_trait.specs.MemoryStop.{touched_by}
use Rattle.disk_trait.specs.MemoryTable.{first_of}
use Rattle.disk_trait.proofs.DiskImages.{torn_bytes, torn_seed}
use Rattle.disk_trait.proofs.memory.table.FileTable.torn_file.Goals as goal

pub returns-clause-bytes : goal.returns-clause-bytes
returns-clause-bytes c =
    let name = c.args.name in
    let held = (state_after name (durable (first_of c.args.self.now name)) c.args.calls.now).held in
    let same : c.in_ok-bytes.bytes.items ≡ held = c.in_ok-bytes.ensures ∙ ap (λ first. (state_after name (durable first) c.args.calls.now).held) c.first.ensures in
    torn_bytes held c.in_ok-bytes.bytes.items c.deref_mut.result.now c.tear-next.new.bytes c.in_ok-marks.marks.items c.deref.result.now (touched_by name c.args.torn.now) c.args.seed c.in_ok-bytes.bytes.len
    same c.deref_mut.ensures.value c.deref.ensures.value (c.in_ok-marks.ensures.len ∙ c.len.ensures ∙ c.in_ok-bytes.bytes.ok.0) c.in_ok-marks.ensures.marks c.tear-next.ensures.bytes c.in_ok-bytes.bytes.ok.0

pub returns-clause-seed : goal.returns-clause-seed
returns-clause-seed c =
    let name = c.args.name in
    let held = (state_after name (durable (first_of c.args.self.now name)) c.args.calls.now).held in
    let same : c.in_ok-bytes.bytes.items ≡ held = c.in_ok-bytes.ensures ∙ ap (λ first. (state_after name (durable first) c.args.calls.now).held) c.first.ensures in
    torn_seed held c.in_ok-bytes.bytes.items c.deref_mut.result.now c.tear-next.new.bytes c.in_ok-marks.marks.items c.deref.result.now (touched_by name c.args.torn.now) c.args.seed c.in_ok-bytes.bytes.len
    same c.deref_mut.ensures.value c.deref.ensures.value (c.in_ok-marks.ensures.len ∙ c.len.ensures ∙ c.in_ok-bytes.bytes.ok.0) c.in_ok-marks.ensures.marks c.tear-next.result c.tear-next.ensures.seed
