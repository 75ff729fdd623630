use Rattle.std.proofs.Common.{◌≡◌, ◌+◌, ◌++◌, [], ℕ, List, length, take, get_or, sym, ap, ◌∙◌, append_assoc, arith}
use Rattle.std.proofs.lemmas.List.{flat_map_more, take_more}
use Rattle.std.proofs.lemmas.List.Sums.{sum_by_more}
use Rattle.prov_index.specs.Index.{numbers_naming}
use Rattle.lineage_query.specs.Told.{own_event_numbers, numbers_of_all}
use Rattle.lineage_query.proofs.told.tell_all.Goals as goal

pub loop-file-preserved : goal.loop-file-preserved
loop-file-preserved g c =
    let events = c.args.index.now in
    let files = c.args.files.now in
    let i = c.loop-file.file-index in
    let file = get_or files i 0 in
    let before = c.args.told.now.items in
    let more = flat_map_more (own_event_numbers events) [] (take i files) file ∙ ap (numbers_of_all events) (sym (take_more files i 0 c.loop-file-test.true)) in
    record {
      told = c.in_ok-tell.ensures.told ∙ ap (λ (l : List ℕ). l ++ own_event_numbers events file) c.loop-file.invariant.told ∙ append_assoc before (numbers_of_all events (take i files)) (own_event_numbers events file)
          ∙ ap (λ (l : List ℕ). before ++ l) more;
      steps = omega (arith, c.tell.ensures.steps, c.loop-file.invariant.steps, sum_by_more (λ (f : ℕ). length (numbers_naming events f)) files i 0 c.loop-file-test.true);
    }
