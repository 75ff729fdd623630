use Rattle.std.proofs.Common.{◌≡◌, ◌+◌, ◌<◌, ◌≤◌, ◌∷◌, ℕ, List, drop, get_or, length, map, refl, sym, ap, subst, ◌∙◌, arith}
use Rattle.std.proofs.lemmas.List.{drop_more, length-map}
use Rattle.std.proofs.lemmas.Option.{slice_get_read}
use Rattle.flowfile_record.specs.declared.stored.Placed.{Placed}
use Rattle.engine_queues.specs.Settling.{without_room}
use Rattle.engine_queues.proofs.Changing.{written}
use Rattle.engine_queues.proofs.Reserving.{IsRoomyOrNext, at_first, one_roomier, same-changed}
use Rattle.engine_queues.proofs.settling.reserve_for.Goals as goal

pub loop-one-init : goal.loop-one-init
loop-one-init c = record { same = refl; room = at_first c.args.placed.now c.args.queues.now.items }

pub loop-one-preserved : goal.loop-one-preserved
loop-one-preserved c =
    let queues = c.loop-one.queues.items in
    let placed = c.args.placed.now in
    let i = c.loop-one.one-index in
    let p = c.one-item.result in
    let before = c.index_mut.result.now in
    let now = c.reserve.new.self in
    let coming : drop i placed ≡ p ∷ drop (i + 1) placed =
    drop_more placed i p c.loop-one-test.true ∙ ap (λ (q : Placed). q ∷ drop (i + 1) placed) (sym c.one-item.is) in
    let there : get_or placed i p ≡ p = sym c.one-item.is in
    let first = subst (λ (q : Placed). q.connection < length c.args.queues.now.items) there (c.requires.within i p c.loop-one-test.true) in
    let within : p.connection < length queues =
    omega (arith, first, ap length c.loop-one.invariant.same, length-map queues without_room, length-map c.args.queues.now.items without_room) in
    let read = c.index_mut.ensures.value ∙ ap (λ (n : ℕ). get_or queues n before) c.from.ensures in
    let got = slice_get_read queues (length queues) p.connection before refl within read in
    let new = written queues c.from.result p.connection (λ old. now) before now c.from.ensures within c.index_mut.ensures.value refl in
    let has = subst (λ (l : List Placed). IsRoomyOrNext placed l queues) coming c.loop-one.invariant.room in
    let room : length placed ≤ now.spare = omega (arith, c.in_ok-reserve.ensures.room) in
    record {
      same = ap (map without_room) new ∙ same-changed p.connection now before queues got (ap without_room c.reserve.ensures.same) ∙ c.loop-one.invariant.same;
      room = subst (IsRoomyOrNext placed (drop (i + 1) placed)) (sym new) (one_roomier placed p (drop (i + 1) placed) queues now has room);
    }
