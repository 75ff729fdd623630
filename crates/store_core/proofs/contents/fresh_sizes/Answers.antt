use Rattle.std.proofs.Common.{◌++◌, ◌∷◌, [], List, ℕ, ◌+◌, length, map, take, ap, sym, ◌∙◌}
use Rattle.std.specs.Prelude.{Option}
use Rattle.std.specs.List.{cons_option}
use Rattle.std.proofs.lemmas.List.{append-nil}
use Rattle.flowfile_record.specs.Shared.{own_bytes}
use Rattle.flowfile_record.specs.declared.stored.Fresh.{Fresh}
use Rattle.store_core.specs.Change.{fresh_contents_of}
use Rattle.store_core.proofs.Giving.{fresh_next, none_own, sizes_more}
use Rattle.store_core.proofs.contents.fresh_sizes.Goals as goal
use Rattle.store_core.proofs.contents.fresh_sizes.Goals.{in-Bytes+in_ok-push, in_default}

pub loop-one-preserved : goal.loop-one-preserved
loop-one-preserved c =
    let placed = c.args.placed.now in
    let i = c.loop-one.one-index in
    let p = c.one-item.result in
    let before = fresh_contents_of (take i placed) in
    let next = fresh_next placed i p c.loop-one-test.true c.one-item.is in
    elim c.match-one.branch [
      | in-Bytes+in_ok-push w ↦
          let bytes = w.in-Bytes.bytes in
          let more = next ∙ ap (λ (f : Fresh). before ++ cons_option (own_bytes f) []) w.in-Bytes.is in
          ap (λ s. s.items) w.sizes-is ∙ w.in_ok-push.ensures.items ∙ ap (λ (n : ℕ). c.loop-one.sizes.items ++ n ∷ []) w.len.ensures
          ∙ sizes_more c.loop-one.sizes.items before (fresh_contents_of (take (i + 1) placed)) bytes c.loop-one.invariant more
      | in_default w ↦
          ap (λ s. s.items) w.sizes-is ∙ c.loop-one.invariant
          ∙ ap (map length) (sym (next ∙ ap (λ (o : Option (List ℕ)). before ++ cons_option o []) (none_own p.fresh w.in_default.not-Bytes) ∙ append-nil before))
    ]
