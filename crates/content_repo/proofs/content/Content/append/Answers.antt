use Rattle.std.proofs.Common.{◌≡◌, ℕ, ◌+◌, length, sym, ap, subst, ◌∙◌, arith}
use Rattle.disk_trait.specs.Files.{At, Overwritten, Torn}
use Rattle.disk_trait.specs.declared.file_name.FileName.{FileName}
use Rattle.content_repo.specs.declared.slot.Slot.{Slot}
use Rattle.content_repo.specs.Append.{IsWritten}
use Rattle.content_repo.specs.Claims.{claim}
use Rattle.content_repo.specs.Slots.{size_of, taken}
use Rattle.content_repo.proofs.Appends.{keeps_contents, is_written}
use Rattle.content_repo.proofs.content.Content.append.Goals as goal

pub returns-clause-written : goal.returns-clause-written
returns-clause-written g c told =
    let slots = c.args.self.now in
    let slot = c.in-Some.slot in
    let bytes = c.args.bytes.now in
    let old = g.D.Disk.held c.args.disk.now in
    let new = g.D.Disk.held c.write.new.self in
    let offset = c.slot-offset.result.size in
    let size : offset ≡ size_of slots slot = ap (λ (s : Slot). s.size) c.slot-offset.ensures.slot in
    let at_file = subst (λ (f : FileName). At f (Overwritten offset bytes) old new) c.claim_file.ensures (c.in_ok-write.ensures.written told) in
    let at_end = subst (λ (n : ℕ). At (claim slot) (Overwritten n bytes) old new) size at_file in
    let written =
    is_written slots slot bytes c.args.digest old new (omega (arith, c.in-Some.ensures.within, c.slot-offset.ensures.long)) (c.requires.sizes told) at_end in
    let slots_now = c.take.ensures.value ∙ ap (λ (n : ℕ). taken slots slot (n + length bytes)) size in
    subst (λ (n : ℕ). IsWritten bytes (record { slot = slot; offset = n; size = length bytes; digest = c.args.digest }) c.take.new.self old new) (sym size)
    (rw slots_now written)

pub returns-clause-kept : goal.returns-clause-kept
returns-clause-kept g c told =
    let slots = c.args.self.now in
    let slot = c.in-Some.slot in
    let bytes = c.args.bytes.now in
    let old = g.D.Disk.held c.args.disk.now in
    let new = g.D.Disk.held c.write.new.self in
    let offset = c.slot-offset.result.size in
    let size : offset ≡ size_of slots slot = ap (λ (s : Slot). s.size) c.slot-offset.ensures.slot in
    let at_file = subst (λ (f : FileName). At f (Torn offset (length bytes)) old new) c.claim_file.ensures (c.write.ensures.torn told) in
    keeps_contents slots slot (length bytes) old new (sym c.in-Some.ensures.next)
    (subst (λ (n : ℕ). At (claim slot) (Torn n (length bytes)) old new) size at_file)

pub returns-in_err-write-clause-kept : goal.returns-in_err-write-clause-kept
returns-in_err-write-clause-kept g c told =
    let slots = c.args.self.now in
    let slot = c.in-Some.slot in
    let bytes = c.args.bytes.now in
    let old = g.D.Disk.held c.args.disk.now in
    let new = g.D.Disk.held c.write.new.self in
    let offset = c.slot-offset.result.size in
    let size : offset ≡ size_of slots slot = ap (λ (s : Slot). s.size) c.slot-offset.ensures.slot in
    let at_file = subst (λ (f : FileName). At f (Torn offset (length bytes)) old new) c.claim_file.ensures (c.write.ensures.torn told) in
    keeps_contents slots slot (length bytes) old new (sym c.in-Some.ensures.next)
    (subst (λ (n : ℕ). At (claim slot) (Torn n (length bytes)) old new) size at_file)
