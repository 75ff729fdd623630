use Rattle.std.proofs.Common.{◌≡◌, ◌≤◌, ◌&&◌, ℕ, List, length, Err, Some, ap, sym, ◌∙◌, subst, arith}
use Rattle.std.proofs.lemmas.Result.{err_from_is_err_and}
use Rattle.std.proofs.lemmas.Bool.{and_parts}
use Rattle.flowfile_record.specs.Reading.{whole}
use Rattle.record_codec.specs.StoreHeadReading.{head_at}
use Rattle.record_codec.specs.declared.block.TheConstants.{PAYLOAD_MAX}
use Rattle.checkpoint_store.specs.Reading.{are_distinct_names, has_counters, has_counts}
use Rattle.checkpoint_store.specs.Unfit.{unfit_of}
use Rattle.checkpoint_store.specs.declared.so_far.Unfit.TheVariants.{Memory}
use Rattle.checkpoint_store.proofs.Consistency.{head_alone}
use Rattle.checkpoint_store.proofs.Parts.{read_ok}
use Rattle.checkpoint_store.proofs.Untaken.{first_byte, other_version, this_version, head_says, lists_take, memory_only}
use Rattle.checkpoint_store.proofs.part.take_head.Goals as goal

pub returns-then-not-is_of_version-clause-unfit : goal.returns-then-not-is_of_version-clause-unfit
returns-then-not-is_of_version-clause-unfit c = λ form.
    other_version c.args.version c.args.payload.now (λ i. omega (arith, c.type_inv.payload i)) (sym c.is_of_version.ensures ∙ c.if-not-is_of_version.true)

pub returns-in_err-head-clause-memory : goal.returns-in_err-head-clause-memory
returns-in_err-head-clause-memory c = λ is.
    let p = err_from_is_err_and c.from_residual.result c.from_residual.ensures.1 in
    let unfit : unfit_of c.in_err-head.field-0.0 ≡ Memory = cc (p.1, p.2, is) in
    let same = memory_only c.in_err-head.field-0.0 unfit in
    let first = this_version c.args.version c.args.payload.now (sym c.is_of_version.ensures ∙ c.if-not-is_of_version.false) in
    lists_take c.args.version c.args.payload.now first (c.in_err-head.ensures.memory (ap Err same))

pub new-requires : goal.new-requires
new-requires c =
    let head = c.in_ok-head.head in
    let found = c.in_ok-head.ensures.found in
    let small = subst (λ (l : List ℕ). length l ≤ PAYLOAD_MAX) found.1 c.requires.size in
    let sound = sym c.is_sound.ensures ∙ c.if-not-is_sound.false in
    let last = and_parts (are_distinct_names head.connections && has_counters head) (has_counts head) sound in
    let first = and_parts (are_distinct_names head.connections) (has_counters head) last.0 in
    record { consistent = head_alone head found.0 small first.0 first.1 last.1 }

pub returns-clause-found : goal.returns-clause-found
returns-clause-found c =
    let head = c.in_ok-head.head in
    let bytes = c.args.payload.now in
    let read = read_ok (length bytes) head (whole head_at bytes) c.in_ok-head.ensures.exact in
    let begin = first_byte bytes head (λ i. omega (arith, c.type_inv.payload i)) read in
    let first = this_version c.args.version bytes (sym c.is_of_version.ensures ∙ c.if-not-is_of_version.false) in
    head_says c.args.version (whole head_at bytes) head read (sym begin.1 ∙ first) (sym c.is_sound.ensures ∙ c.if-not-is_sound.false) ∙ ap Some (sym c.new.ensures.kept)

pub returns-clause-so_far : goal.returns-clause-so_far
returns-clause-so_far c =
    let head = c.in_ok-head.head in
    let bytes = c.args.payload.now in
    let read = read_ok (length bytes) head (whole head_at bytes) c.in_ok-head.ensures.exact in
    let begin = first_byte bytes head (λ i. omega (arith, c.type_inv.payload i)) read in
    let first = this_version c.args.version bytes (sym c.is_of_version.ensures ∙ c.if-not-is_of_version.false) in
    (c.new.ensures.so_far, c.new.ensures.version ∙ sym begin.1 ∙ first)
