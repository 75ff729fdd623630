use Rattle.std.proofs.Common.{◌≡◌, List, ℕ, Some, None, ap, ◌∙◌, rules}
use Rattle.std.specs.Option.{option_copied}
use Rattle.world_io.proofs.Standing.{standing-at, standing-none}
use Rattle.world_io.proofs.memory.outbox.MemoryOutbox.standing.Goals as goal

pub returns-in_err-place : goal.returns-in_err-place
returns-in_err-place c =
    let missing : option_copied c.from_residual.result ≡ None = search rules in
    missing ∙ standing-none c.args.name.now c.args.self.now.files.items _ c.place_among.result c.deref.ensures.value c.place_among.ensures c.in_err-place.was

pub returns : goal.returns
returns c =
    ap (λ (bytes : List ℕ). Some bytes) c.deref-2.ensures.value ∙ standing-at c.args.name.now c.args.self.now.files.items _ c.place_among.result _ c.index.result.now c.deref.ensures.value c.place_among.ensures c.in_ok-place.was c.index.ensures
