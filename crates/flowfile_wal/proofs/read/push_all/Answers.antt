use Rattle.std.proofs.Common.{◌≡◌, ℕ, List, [], ◌∷◌, ◌++◌, sym, ap, ◌∙◌, append_assoc}
use Rattle.std.specs.Vec.Iter.{into_iter_items}
use Rattle.record_codec.specs.LogEntries.{gated}
use Rattle.record_codec.specs.declared.entry.LogEntry.{LogEntry}
use Rattle.flowfile_wal.proofs.read.push_all.Goals as goal

pub loop-entry-preserved : goal.loop-entry-preserved
loop-entry-preserved c =
    let gate = c.args.gate in
    let all = c.loop-entry.all.items in
    let entry = c.in-Some.entry in
    let later = into_iter_items c.next.new.self in
    let coming : into_iter_items c.loop-entry.entry-iterator ≡ entry ∷ later = c.in-Some.ensures.steps.0 in
    ap (λ (l : List (ℕ × LogEntry)). l ++ gated gate later) c.in_ok-push.ensures.items ∙ append_assoc all ((gate, entry) ∷ []) (gated gate later)
    ∙ ap (λ (l : List LogEntry). all ++ gated gate l) (sym coming) ∙ c.loop-entry.invariant
