use Rattle.std.proofs.Common.{◌==◌, ap, sym, ◌∙◌}
use Rattle.std.proofs.lemmas.Bool.{eqb-true}
use Rattle.flowfile_record.specs.Identifier.{identifier}
use Rattle.flowfile_record.proofs.ByNumber.{refl_eqb}
use Rattle.machine_model.specs.Files.{is_number_among}
use Rattle.std.specs.Prelude.{slice_index_or}
use Rattle.flow_query.proofs.Identified.{asks_numbers, rest_more, rest_has, same_id, other_id}
use Rattle.flow_query.proofs.found.find_in.Goals as goal

pub returns-then-eq : goal.returns-then-eq
returns-then-eq c =
    let i = c.loop-file.file-index in
    let files = c.args.files.now in
    let file = slice_index_or files i 0 in (
      sym c.uuid_of.ensures.bits ∙ same_id _ _ _ c.eq.ensures c.if-eq.true,
      rest_has is_number_among (λ x n. x == n) asks_numbers c.args.store c.args.id files i 0 file c.loop-file-test.true (refl_eqb file) c.loop-file.invariant,
    )

pub loop-file-preserved : goal.loop-file-preserved
loop-file-preserved c =
    let i = c.loop-file.file-index in
    let files = c.args.files.now in
    rest_more is_number_among (λ x n. x == n) asks_numbers c.args.store c.args.id files i 0 c.loop-file-test.true
    (λ n is one. other_id _ _ _ c.eq.ensures c.if-eq.false (c.uuid_of.ensures.bits ∙ ap (identifier c.args.store) (eqb-true (slice_index_or files i 0) n one) ∙ is)) c.loop-file.invariant
