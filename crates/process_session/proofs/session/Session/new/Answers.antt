use Rattle.std.proofs.Common.{◌≡◌, ◌*◌, ◌≤◌, List, length, map, sum_by, sym, ◌∙◌, ap, subst, arith, zero-add}
use Rattle.std.specs.List.{All}
use Rattle.flowfile_record.specs.Outcome.{AreInTurn}
use Rattle.flowfile_record.specs.declared.attributes.TheConstants.{ATTRIBUTES_MAX}
use Rattle.process_session.specs.declared.file.File.{File}
use Rattle.process_session.specs.declared.file.Source.{Source}
use Rattle.process_session.specs.declared.file.Taken.{Taken}
use Rattle.flowfile_record.specs.declared.limits.TheConstants.{TAKEN_MAX}
use Rattle.process_session.specs.Bench.{HasItsSize, IsBodyOf, IsWhole, file_size, taken_source, files_taken}
use Rattle.process_session.specs.Sound.{IsHeldFile, as_worked}
use Rattle.process_session.proofs.Beginning.{bodies_taken, held_taken, length-sources, length-taken_files, sources_whole}
use Rattle.process_session.proofs.Turns.{in_turn-taken}
use Rattle.process_session.proofs.session.Session.new.Goals as goal

pub invariant_of-result : goal.invariant_of-result
invariant_of-result c =
    let taken : List Taken = c.into_vec.result.items in
    let begun = c.in_ok-begun.begun in
    let begins = c.in_ok-begun.ensures in
    let few : length taken ≤ TAKEN_MAX = subst (λ (files : List Taken). length files ≤ TAKEN_MAX) (sym c.into_vec.ensures) c.requires.few in
    let whole : All IsWhole taken = subst (All IsWhole) (sym c.into_vec.ensures) c.requires.whole in
    let sources : length begun.sources.items ≡ length taken = ap length begins.sources ∙ length-sources taken in
    let files : length begun.files.items ≡ length taken = ap length begins.files ∙ length-taken_files 0 taken in
    let mapped : length (map taken_source taken) ≡ length taken = length-sources taken in
    let small : begun.counted ≤ length taken * ATTRIBUTES_MAX = begins.small in
    record {
      summed = begins.summed ∙ ap (sum_by file_size) (sym begins.files);
      attributes = omega arith;
      handed = omega arith;
      few = omega arith;
      taken = omega arith;
      in_turn = subst (λ (files : List File). AreInTurn 0 (length begun.sources.items) (map as_worked files)) (sym begins.files) (subst (λ n. AreInTurn 0 n (map as_worked (files_taken 0 taken))) (sym sources) (in_turn-taken 0 (length taken) taken (zero-add (length taken))));
      each = subst (All (IsHeldFile c.args.relationships)) (sym begins.files) (held_taken c.args.relationships 0 taken begins.limits);
      whole = subst (All (λ (source : Source). HasItsSize source.bytes source.size)) (sym begins.sources) (sources_whole taken whole);
      bodies = subst (All (λ (file : File). IsBodyOf begun.sources.items file.body)) (sym begins.files) (subst (λ (of : List Source). All (λ (file : File). IsBodyOf of file.body) (files_taken 0 taken)) (sym begins.sources) (bodies_taken (map taken_source taken) 0 taken (omega arith)));
    }
