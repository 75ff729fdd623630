use Rattle.std.proofs.Common.{◌+◌, arith, ap, length, ◌∙◌}
use Rattle.settlement.specs.Ending.{ended_files, place_of}
use Rattle.settlement.specs.Placing.{firsts, wanted}
use Rattle.settlement.specs.Telling.{all_drafts, numbered_wrapping}
use Rattle.settlement.specs.Whole.{told_of}
use Rattle.machine_model.specs.Placing.{count_made}
use Rattle.settlement.proofs.Bounds.{made_few, wanted_few}
use Rattle.settlement.proofs.Wholes.{settled_is}
use Rattle.settlement.proofs.settling.settle_files.Goals as goal

pub tell-requires : goal.tell-requires
tell-requires c =
    let made = c.in_ok-files.ensures ∙ ap (ended_files (place_of c.args.setting.now) c.args.counters.next_number) c.into_vec.ensures in
    let few = wanted_few (place_of c.args.setting.now) c.args.counters.next_number c.args.outcome.files c.in_ok-files.files.items made c.requires.connections c.requires.few in
    omega (arith, few, ap (λ files. length (wanted files)) c.deref.ensures.value, ap length c.as_slice.ensures, c.count_made.ensures.bound, c.requires.few, c.requires.next_number)

pub count_clones-clones-requires : goal.count_clones-clones-requires
count_clones-clones-requires c =
    let made = c.in_ok-files.ensures ∙ ap (ended_files (place_of c.args.setting.now) c.args.counters.next_number) c.into_vec.ensures in
    let few = wanted_few (place_of c.args.setting.now) c.args.counters.next_number c.args.outcome.files c.in_ok-files.files.items made c.requires.connections c.requires.few in
    omega (arith, few, ap (λ files. length (wanted files)) c.deref-3.ensures.value)

pub place_all-requires-clause-few : goal.place_all-requires-clause-few
place_all-requires-clause-few c =
    let made = c.in_ok-files.ensures ∙ ap (ended_files (place_of c.args.setting.now) c.args.counters.next_number) c.into_vec.ensures in
    let count = made_few (place_of c.args.setting.now) c.args.counters.next_number c.args.outcome.files c.in_ok-files.files.items made c.requires.few in
    omega (arith, count, c.requires.few)

pub place_all-requires-clause-numbers : goal.place_all-requires-clause-numbers
place_all-requires-clause-numbers c =
    let made = c.in_ok-files.ensures ∙ ap (ended_files (place_of c.args.setting.now) c.args.counters.next_number) c.into_vec.ensures in
    let few = wanted_few (place_of c.args.setting.now) c.args.counters.next_number c.args.outcome.files c.in_ok-files.files.items made c.requires.connections c.requires.few in
    omega (arith, few, ap length c.as_slice.ensures, c.count_made.ensures.bound, c.requires.few, c.requires.next_number)

pub place_all-requires-clause-arrivals : goal.place_all-requires-clause-arrivals
place_all-requires-clause-arrivals c =
    let made = c.in_ok-files.ensures ∙ ap (ended_files (place_of c.args.setting.now) c.args.counters.next_number) c.into_vec.ensures in
    let few = wanted_few (place_of c.args.setting.now) c.args.counters.next_number c.args.outcome.files c.in_ok-files.files.items made c.requires.connections c.requires.few in
    let count = made_few (place_of c.args.setting.now) c.args.counters.next_number c.args.outcome.files c.in_ok-files.files.items made c.requires.few in
    omega (arith, few, count, c.requires.next_arrival)

pub overflow_add-result : goal.overflow_add-result
overflow_add-result c =
    let made = c.in_ok-files.ensures ∙ ap (ended_files (place_of c.args.setting.now) c.args.counters.next_number) c.into_vec.ensures in
    let few = wanted_few (place_of c.args.setting.now) c.args.counters.next_number c.args.outcome.files c.in_ok-files.files.items made c.requires.connections c.requires.few in
    let clones = c.count_clones-clones.ensures ∙ ap (λ files. length (wanted files)) c.deref-3.ensures.value in
    omega (arith, few, clones, ap length c.as_slice.ensures, c.count_made.ensures.bound, c.requires.few, c.requires.next_number)

pub overflow_add-result-2 : goal.overflow_add-result-2
overflow_add-result-2 c =
    let made = c.in_ok-files.ensures ∙ ap (ended_files (place_of c.args.setting.now) c.args.counters.next_number) c.into_vec.ensures in
    let few = wanted_few (place_of c.args.setting.now) c.args.counters.next_number c.args.outcome.files c.in_ok-files.files.items made c.requires.connections c.requires.few in
    let clones = c.count_clones-clones.ensures ∙ ap (λ files. length (wanted files)) c.deref-3.ensures.value in
    let count = made_few (place_of c.args.setting.now) c.args.counters.next_number c.args.outcome.files c.in_ok-files.files.items made c.requires.few in
    let firsts_few = ap length c.deref-2.ensures.value in
    omega (arith, few, clones, count, firsts_few, c.count_firsts-firsts.ensures.bound)

pub overflow_add-result-3 : goal.overflow_add-result-3
overflow_add-result-3 c =
    let made = c.in_ok-files.ensures ∙ ap (ended_files (place_of c.args.setting.now) c.args.counters.next_number) c.into_vec.ensures in
    let few = wanted_few (place_of c.args.setting.now) c.args.counters.next_number c.args.outcome.files c.in_ok-files.files.items made c.requires.connections c.requires.few in
    let clones = c.count_clones-clones.ensures ∙ ap (λ files. length (wanted files)) c.deref-3.ensures.value in
    let count = made_few (place_of c.args.setting.now) c.args.counters.next_number c.args.outcome.files c.in_ok-files.files.items made c.requires.few in
    let firsts_few = ap length c.deref-2.ensures.value in
    omega (arith, few, clones, count, firsts_few, c.count_firsts-firsts.ensures.bound, c.requires.next_arrival)

pub returns : goal.returns
returns c =
    let at = place_of c.args.setting.now in
    let first = c.args.counters.next_number + c.count_made.result in
    let made = c.in_ok-files.ensures ∙ ap (ended_files at c.args.counters.next_number) c.into_vec.ensures in
    let events = c.from-2.ensures ∙ c.in_ok-events.ensures
    ∙ ap (λ files. numbered_wrapping (c.args.counters.last_event + 1) (all_drafts (told_of at.processor at.taken c.args.given.now files) c.args.outcome.sent first)) c.deref.ensures.value in
    settled_is at c.args.given.now c.args.counters c.args.connection c.args.outcome c.in_ok-files.files.items c.count_made.result c.count_firsts-firsts.result c.count_clones-clones.result
    c.in_ok-gone.gone c.from.result c.from-2.result c.count_of.result made (c.count_made.ensures.count ∙ ap count_made c.as_slice.ensures) (c.from.ensures ∙ c.in_ok-placed.ensures) events c.in_ok-gone.ensures
    (c.count_firsts-firsts.ensures.count ∙ ap (λ files. length (firsts files)) c.deref-2.ensures.value)
    (c.count_clones-clones.ensures ∙ ap (λ files. length (wanted files)) c.deref-3.ensures.value) c.count_of.ensures
