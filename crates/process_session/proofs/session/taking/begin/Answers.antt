use Rattle.std.proofs.Common.{◌≡◌, ◌+◌, [], ◌∷◌, ◌++◌, length, sym, ◌∙◌, ap, arith, length-append, zero-add}
use Rattle.std.proofs.lemmas.List.{map-append}
use Rattle.std.proofs.lemmas.List.Elements.{All-push}
use Rattle.flowfile_record.specs.Attributes.{IsWithinLimits}
use Rattle.process_session.specs.declared.file.Taken.{Taken}
use Rattle.process_session.specs.Bench.{taken_source, taken_file, files_taken}
use Rattle.process_session.proofs.Beginning.{sum_by-taken_push, taken_files-push}
use Rattle.process_session.proofs.session.taking.begin.Goals as goal

pub loop-file-preserved : goal.loop-file-preserved
loop-file-preserved c =
    let files = c.loop-file.yielded in
    let file = c.in-Some.file in
    let more : length (files ++ file ∷ []) ≡ length files + 1 = length-append files (file ∷ []) in
    let place : c.loop-file.place ≡ 0 + length files = c.loop-file.invariant.place ∙ sym (zero-add (length files)) in
    record {
      sources = c.in_ok-take_one.ensures.sources ∙ ap (λ sources. sources ++ taken_source file ∷ []) c.loop-file.invariant.sources ∙ sym (map-append taken_source files (file ∷ []));
      files = c.in_ok-take_one.ensures.files ∙ ap (λ taken. taken ++ taken_file c.loop-file.place file ∷ []) c.loop-file.invariant.files ∙ ap (λ n. files_taken 0 files ++ taken_file n file ∷ []) place ∙ sym (taken_files-push 0 files file);
      summed = omega (arith, c.in_ok-take_one.ensures.summed, sum_by-taken_push files file);
      small = omega (arith, c.in_ok-take_one.ensures.summed, c.in_ok-take_one.ensures.limits.size);
      limits = All-push (λ (one : Taken). IsWithinLimits one.attributes) files file c.loop-file.invariant.limits c.in_ok-take_one.ensures.limits;
      place = omega arith;
    }
