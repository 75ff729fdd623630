use Rattle.std.proofs.Common.{◌∙◌, sym, ap, map, min, nat_lt, arith}
use Rattle.std.specs.Prelude.{filter}
use Rattle.std.specs.List.{reduce}
use Rattle.std.proofs.lemmas.Bool.{ltb-false}
use Rattle.std.proofs.lemmas.Simd.{map-map}
use Rattle.machine_model.specs.View.{FileView}
use Rattle.flow_queue.specs.Queue.{held_view, next_penalty_end, views_of}
use Rattle.flow_queue.specs.declared.held.Held.{Held}
use Rattle.flow_queue.proofs.NoWhole.{no-end}
use Rattle.flow_queue.proofs.queue.Queue.next_penalty_end.Goals as goal

pub returns-then-not-has_penalties : goal.returns-then-not-has_penalties
returns-then-not-has_penalties c =
    let queue = c.self.inside in
    let none = ltb-false 0 queue.counts.penalised (sym c.has_penalties.ensures ∙ c.if-not-has_penalties.true) in
    sym (no-end queue.counts queue.files.items c.args.moment c.self.invariant.counts (omega (arith, none)))
    ∙ ap (λ q. next_penalty_end c.args.moment (views_of q.files)) c.self.view_is

pub returns : goal.returns
returns c =
    c.next_end.ensures
    ∙ ap (λ ends. reduce min (filter (nat_lt c.args.moment) ends))
    (ap (map (λ (held : Held). held.file.penalty_end)) (ap (λ q. q.files) c.self.view_is)
    ∙ sym (map-map (λ (file : FileView). file.penalty_end) held_view c.args.self.now.files))
