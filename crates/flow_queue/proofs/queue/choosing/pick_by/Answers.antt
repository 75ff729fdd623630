use Rattle.std.proofs.Common.{List, sym, ◌∙◌, ap, arith}
use Rattle.std.specs.Option.{option_map}
use Rattle.std.proofs.lemmas.List.{take_all}
use Rattle.machine_model.specs.Due.{numbers_of}
use Rattle.machine_model.specs.declared.kind.TakeRule.TheVariants.{Bin, Defragment}
use Rattle.flow_queue.specs.declared.held.Held.{Held}
use Rattle.flow_queue.specs.Picking.{numbers_picked, views_at}
use Rattle.flow_queue.specs.Ranked.{eligible_among}
use Rattle.flow_queue.proofs.Bins.{bin-front}
use Rattle.flow_queue.proofs.Parts.{picks-same}
use Rattle.flow_queue.proofs.Ranks.{among-length}
use Rattle.flow_queue.proofs.queue.choosing.pick_by.Goals as goal
use denote.Ref.{Bor}

pub returns-in_ok-files-in-Bin-clause-picks : goal.returns-in_ok-files-in-Bin-clause-picks
returns-in_ok-files-in-Bin-clause-picks c =
    let eligible = eligible_among c.args.limits.now c.args.moment c.args.files.now.items c.args.by_rank.now.items in
    picks-same _ _ c.pick_bin.result c.pick_bin.new.list.items
    (ap (λ (held : List (Bor Held)). numbers_picked (Bin c.in-Bin.min c.in-Bin.max) (views_at held)) c.deref.ensures.value
    ∙ ap (numbers_picked (Bin c.in-Bin.min c.in-Bin.max)) c.in_ok-files-in-Bin.ensures.files
    ∙ ap (option_map numbers_of) (bin-front c.in-Bin.min c.in-Bin.max eligible)
    ∙ ap (λ rule. numbers_picked rule eligible) (sym c.in-Bin.is)) c.pick_bin.ensures.picks

pub returns-in_ok-files-in-Defragment-clause-picks : goal.returns-in_ok-files-in-Defragment-clause-picks
returns-in_ok-files-in-Defragment-clause-picks c =
    let numbers = c.args.by_rank.now in
    let eligible = eligible_among c.args.limits.now c.args.moment c.args.files.now.items numbers.items in
    let short = among-length c.args.limits.now c.args.moment c.args.files.now.items numbers.items in
    let all = take_all c.len.result eligible (omega (arith, short, c.len.ensures, numbers.ok.0)) in
    picks-same _ _ c.pick_whole.result c.pick_whole.new.list.items
    (ap (λ (held : List (Bor Held)). numbers_picked Defragment (views_at held)) c.deref-in-Defragment.ensures.value
    ∙ ap (numbers_picked Defragment) (c.in_ok-files-in-Defragment.ensures.files ∙ all)
    ∙ ap (λ rule. numbers_picked rule eligible) (sym c.in-Defragment.is)) c.pick_whole.ensures.picks
