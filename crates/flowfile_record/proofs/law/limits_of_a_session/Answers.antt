use Rattle.std.proofs.Common.{◌≡◌, ◌+◌, length, ap}
use Rattle.uuid.specs.Text.{hyphenated_text, lower}
use Rattle.uuid.proofs.TextLemmas.{by_index_length}
use Rattle.flowfile_record.specs.Identifier.{identifier}
use Rattle.flowfile_record.proofs.law.limits_of_a_session.Goals as goal

pub returns-clause-filename : goal.returns-clause-filename
returns-clause-filename c store number =
    let long : length (hyphenated_text lower (identifier store number)) ≡ 36 = by_index_length 36 _ in
    ap (λ n. 8 + n + 6) long
