use Rattle.std.proofs.Common.{◌≡◌, [], None, sym, ap, ◌∙◌}
use Rattle.std.specs.BTreeSet.{contains}
use Rattle.std.specs.Option.{option_map, is_some, unwrap_or}
use Rattle.machine_model.specs.Due.{numbers_of}
use Rattle.machine_model.specs.Fragments.{fragment_seen}
use Rattle.flow_queue.specs.Fragments.{whole_cmp, whole_at, AreMissing}
use Rattle.flow_queue.specs.Queue.{held_view}
use Rattle.flow_queue.proofs.Parts.{contained, missing-more, part-whole, picks-same, where-none, whole-numbers}
use Rattle.flow_queue.proofs.queue.wholes.pick_candidate.Goals as goal

pub returns-then-not-branch : goal.returns-then-not-branch
returns-then-not-branch c files first missing =
    let candidate = c.args.candidate.now in
    let fragment = c.in-Some.fragment in
    let whole = fragment.whole in
    let read = sym (ap (option_map fragment_seen) c.in-Some.is) ∙ c.requires.read in
    let is_there = contained (contains whole_cmp c.args.tried.now whole) (sym c.if-not-branch.true ∙ c.in_ok-insert.ensures.added) in
    let none : whole_at candidate files ≡ None = part-whole fragment (held_view candidate.held.now) files read ∙ missing whole is_there in (
      (ap (λ o. is_some (option_map numbers_of o)) (sym none), c.requires.empty ∙ ap (λ o. unwrap_or (option_map numbers_of o) []) (sym none)),
      λ _. missing-more c.args.tried.now c.insert.new.self whole files missing (missing whole is_there) c.in_ok-insert.ensures.updates.0,
    )

pub returns : goal.returns
returns c files first missing =
    let candidate = c.args.candidate.now in
    let fragment = c.in-Some.fragment in
    let whole = fragment.whole in
    let read = sym (ap (option_map fragment_seen) c.in-Some.is) ∙ c.requires.read in
    let is = part-whole fragment (held_view candidate.held.now) files read in
    let picks = picks-same _ (option_map numbers_of (whole_at candidate files)) c.take_all.result c.take_all.new.list.items
    (whole-numbers c.args.numbers.now whole files first ∙ ap (option_map numbers_of) (sym is)) c.take_all.ensures in (
      picks,
      where-none (AreMissing c.insert.new.self files) (whole_at candidate files) c.take_all.result c.take_all.new.list.items picks
          (λ none. missing-more c.args.tried.now c.insert.new.self whole files missing (sym is ∙ none) c.in_ok-insert.ensures.updates.0),
    )
