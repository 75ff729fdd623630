use Rattle.std.proofs.Common.{◌≡◌, ℕ, nat_lt, Bool, List, get_or, length, map, set, refl, sym, ap, ◌∙◌, arith}
use Rattle.std.proofs.lemmas.List.{get_or-set_same, length-map}
use Rattle.std.proofs.lemmas.Option.{slice_get_read}
use Rattle.flow_queue.specs.Leaving.{queue_left_by}
use Rattle.flow_queue.specs.Queue.{QueueState}
use Rattle.engine_queues.specs.Waiting.{has_files}
use Rattle.engine_queues.proofs.Changing.{written}
use Rattle.engine_queues.proofs.Together.{all-leave, has-place, left-together}
use Rattle.engine_queues.proofs.Waiting.{marked-changed}
use Rattle.engine_queues.proofs.settling.take_out.Goals as goal

pub index_mut-requires : goal.index_mut-requires
index_mut-requires c =
    let within = has-place c.args.connection c.args.numbers.now c.args.queues.now.items (sym c.is_empty.ensures ∙ c.if-is_empty.false) c.requires.files in
    omega (arith, within, c.from-place.ensures)

pub leave_all-requires-clause-there : goal.leave_all-requires-clause-there
leave_all-requires-clause-there c =
    let queues = c.args.queues.now.items in
    let before = c.index_mut.result.now in
    let within = has-place c.args.connection c.args.numbers.now queues (sym c.is_empty.ensures ∙ c.if-is_empty.false) c.requires.files in
    let read = c.index_mut.ensures.value ∙ ap (λ (i : ℕ). get_or queues i before) c.from-place.ensures in
    (all-leave c.args.connection c.args.numbers.now queues before (slice_get_read queues (length queues) c.args.connection before refl within read) c.requires.files).0

pub leave_all-requires-clause-distinct : goal.leave_all-requires-clause-distinct
leave_all-requires-clause-distinct c =
    let queues = c.args.queues.now.items in
    let before = c.index_mut.result.now in
    let within = has-place c.args.connection c.args.numbers.now queues (sym c.is_empty.ensures ∙ c.if-is_empty.false) c.requires.files in
    let read = c.index_mut.ensures.value ∙ ap (λ (i : ℕ). get_or queues i before) c.from-place.ensures in
    (all-leave c.args.connection c.args.numbers.now queues before (slice_get_read queues (length queues) c.args.connection before refl within read) c.requires.files).1

pub index-requires : goal.index-requires
index-requires c =
    let within = has-place c.args.connection c.args.numbers.now c.args.queues.now.items (sym c.is_empty.ensures ∙ c.if-is_empty.false) c.requires.files in
    omega (arith, within, c.from-place.ensures)

pub index_mut-requires-2 : goal.index_mut-requires-2
index_mut-requires-2 c =
    let within = has-place c.args.connection c.args.numbers.now c.args.queues.now.items (sym c.is_empty.ensures ∙ c.if-is_empty.false) c.requires.files in
    omega (arith, within, c.from-place.ensures, ap length c.requires.occupied, length-map c.args.queues.now.items has_files)

pub returns-clause-queues : goal.returns-clause-queues
returns-clause-queues c =
    let queues = c.args.queues.now.items in
    let numbers = c.args.numbers.now in
    let within = has-place c.args.connection numbers queues (sym c.is_empty.ensures ∙ c.if-is_empty.false) c.requires.files in
    written queues c.from-place.result c.args.connection (queue_left_by numbers) c.index_mut.result.now c.leave_all.new.self c.from-place.ensures within c.index_mut.ensures.value c.leave_all.ensures
    ∙ sym (left-together c.args.connection numbers queues)

pub returns-clause-occupied : goal.returns-clause-occupied
returns-clause-occupied c =
    let queues = c.args.queues.now.items in
    let numbers = c.args.numbers.now in
    let before = c.index_mut.result.now in
    let place = c.from-place.result in
    let within = has-place c.args.connection numbers queues (sym c.is_empty.ensures ∙ c.if-is_empty.false) c.requires.files in
    let read = c.index_mut.ensures.value ∙ ap (λ (i : ℕ). get_or queues i before) c.from-place.ensures in
    let got = slice_get_read queues (length queues) c.args.connection before refl within read in
    let now = written queues place c.args.connection (queue_left_by numbers) before c.leave_all.new.self c.from-place.ensures within c.index_mut.ensures.value c.leave_all.ensures in
    let left : c.index.result.now ≡ queue_left_by numbers before = c.index.ensures ∙ get_or-set_same queues place c.leave_all.new.self c.index.result.now (omega (arith, within, c.from-place.ensures)) ∙ c.leave_all.ensures in
    let mark : nat_lt 0 c.len.result ≡ has_files (queue_left_by numbers before) = ap (nat_lt 0) c.len.ensures.len ∙ ap (λ (q : QueueState). has_files q) left in
    ap (λ (n : ℕ). set c.args.occupied.now.items n (nat_lt 0 c.len.result)) c.from-place.ensures
    ∙ ap (λ (l : List Bool). set l c.args.connection (nat_lt 0 c.len.result)) c.requires.occupied
    ∙ marked-changed c.args.connection (queue_left_by numbers) queues before (nat_lt 0 c.len.result) got mark ∙ ap (map has_files) (sym now)
