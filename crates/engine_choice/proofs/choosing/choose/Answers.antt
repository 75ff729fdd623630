use Rattle.std.proofs.Common.{◌≡◌, ℕ, length, ap, subst, ◌∙◌}
use Rattle.std.specs.Prelude.{Option}
use Rattle.engine_choice.specs.declared.choice.Choice.{Choice}
use Rattle.engine_choice.specs.Choice.{choice_of, known_by, next_choice, place_within}
use Rattle.engine_choice.specs.First.{GiveNothing, IsFirstGiven, IsGivenBy}
use Rattle.engine_choice.proofs.Turns.{chosen-before, chosen-behind, if-ok}
use Rattle.engine_choice.proofs.choosing.choose.Goals as goal

pub returns-in-Some : goal.returns-in-Some
returns-in-Some c =
    let gives = choice_of c.args.flow.now (known_by c.args.queues.now c.args.counts.now c.args.busy.now c.args.listing.now c.args.moment) in
    let processors = c.args.flow.now.processors in
    let start : c.place_behind-start.result ≡ place_within (length processors) c.args.last =
    c.place_behind-start.ensures ∙ ap (λ n. place_within n c.args.last) c.len-count.ensures in
    let A : Option Choice → Type 0 = IsFirstGiven gives processors c.place_behind-start.result c.len-count.result in
    let B : ℕ → Type 0 = λ end. IsGivenBy gives processors c.place_behind-start.result end c.in-Some.choice in
    let C : ℕ → Type 0 = λ start. IsGivenBy gives processors start (length processors) c.in-Some.choice in
    chosen-behind c.args.flow.now (known_by c.args.queues.now c.args.counts.now c.args.busy.now c.args.listing.now c.args.moment) c.args.last c.in-Some.choice
    (subst C start (subst B c.len-count.ensures (subst A c.in-Some.is c.in_ok-choice.ensures)))

pub returns : goal.returns
returns c =
    let gives = choice_of c.args.flow.now (known_by c.args.queues.now c.args.counts.now c.args.busy.now c.args.listing.now c.args.moment) in
    let processors = c.args.flow.now.processors in
    let start : c.place_behind-start.result ≡ place_within (length processors) c.args.last =
    c.place_behind-start.ensures ∙ ap (λ n. place_within n c.args.last) c.len-count.ensures in
    let A : Option Choice → Type 0 = IsFirstGiven gives processors c.place_behind-start.result c.len-count.result in
    let B : ℕ → Type 0 = λ end. GiveNothing gives processors c.place_behind-start.result end in
    let C : ℕ → Type 0 = λ start. GiveNothing gives processors start (length processors) in
    let nothing = subst C start (subst B c.len-count.ensures (subst A c.in-None.is c.in_ok-choice.ensures)) in
    if-ok (IsFirstGiven gives processors 0 c.place_behind-start.result)
    (λ choice. choice ≡ next_choice c.args.flow.now (known_by c.args.queues.now c.args.counts.now c.args.busy.now c.args.listing.now c.args.moment) c.args.last)
    (λ choice is.
    let D : ℕ → Type 0 = λ start. IsFirstGiven gives processors 0 start choice in
    chosen-before c.args.flow.now (known_by c.args.queues.now c.args.counts.now c.args.busy.now c.args.listing.now c.args.moment) c.args.last choice nothing (subst D start is))
    c.first_choice-in-None.result c.first_choice-in-None.ensures
