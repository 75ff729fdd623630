use Rattle.std.proofs.Common.{◌≡◌, ◌-◌, length, take, drop, Some, sym, ap, ◌∙◌, arith, length-drop}
use Rattle.std.specs.Int.{w32, from_be_bytes}
use Rattle.std.proofs.lemmas.List.{take-take}
use Rattle.disk_trait.specs.declared.damage.Damage.TheVariants.{Short}
use Rattle.record_codec.specs.Block.{sized}
use Rattle.record_codec.specs.declared.block.TheConstants.{HEADER_SIZE}
use Rattle.block_file.proofs.Refusals.{header_cut, header_refused}
use Rattle.block_file.proofs.read.size_at.Goals as goal

pub returns-then-have-lt-HEADER_SIZE-clause-damaged : goal.returns-then-have-lt-HEADER_SIZE-clause-damaged
returns-then-have-lt-HEADER_SIZE-clause-damaged g c damage is told =
    let address = c.args.address in
    let rest = drop address.offset (g.D.Disk.held c.args.disk.now address.file) in
    let long : length rest ≡ address.size - address.offset = omega (arith, length-drop address.offset (g.D.Disk.held c.args.disk.now address.file), c.requires.size told) in
    let same : Short address.file address.at HEADER_SIZE (address.size - address.offset) ≡ damage = cc is in
    header_cut address.file address.at rest (omega (arith, long, c.if-have-lt-HEADER_SIZE.true))
    ∙ ap (λ n. Some (Short address.file address.at HEADER_SIZE n)) long ∙ ap Some same

pub returns-in-Err-clause-damaged : goal.returns-in-Err-clause-damaged
returns-in-Err-clause-damaged g c damage is told =
    let address = c.args.address in
    let rest = drop address.offset (g.D.Disk.held c.args.disk.now address.file) in
    let have = address.size - address.offset in
    let long : length rest ≡ have = omega (arith, length-drop address.offset (g.D.Disk.held c.args.disk.now address.file), c.requires.size told) in
    let same : c.damage_of.result ≡ damage = cc is in
    let header = ap (take 4) (c.in_ok-read.ensures.bytes told) ∙ take-take 4 5 rest (omega arith) in
    let e = c.in-Err.ensures ∙ ap (λ l. sized (from_be_bytes w32 l) have) header ∙ ap (sized (from_be_bytes w32 (take 4 rest))) (sym long) in
    header_refused address.file address.at rest (omega (arith, long, c.if-have-lt-HEADER_SIZE.false)) c.in-Err.end e ∙ ap Some (sym c.damage_of.ensures ∙ same)
