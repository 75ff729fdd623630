use Rattle.std.proofs.Common.{ℕ, List, Option, ap, sym, subst, ◌∙◌}
use Rattle.std.specs.Prelude.{IfSome}
use Rattle.std.proofs.lemmas.List.Elements.{All-push}
use Rattle.record_codec.specs.BlockEntries.{entry_read, entries_of}
use Rattle.record_codec.specs.EntryEncoding.{IsEntry}
use Rattle.record_codec.specs.declared.entry.LogEntry.{LogEntry}
use Rattle.record_codec.proofs.BlockContents.{reads_on, reads_none, reads_all}
use Rattle.record_codec.proofs.block_entries.read_items.Goals as goal

pub returns-in_default-clause-exact : goal.returns-in_default-clause-exact
returns-in_default-clause-exact c =
    let items = c.args.items.now in
    let item = c.item-item.result in
    let read = ap (λ (p : List ℕ). entry_read item.kind p) (sym c.as_slice.ensures) ∙ sym c.in_ok-entry.ensures.exact ∙ c.in_default.is in
    reads_none c.loop-item.entries.items items c.loop-item.item-index item (entries_of items) c.loop-item-test.true (sym c.item-item.is) read c.loop-item.invariant.reads

pub loop-item-preserved : goal.loop-item-preserved
loop-item-preserved c =
    let items = c.args.items.now in
    let item = c.item-item.result in
    let e = c.in-Some.entry in
    let front = c.loop-item.entries.items in
    let read = ap (λ (p : List ℕ). entry_read item.kind p) (sym c.as_slice.ensures) ∙ sym c.in_ok-entry.ensures.exact ∙ c.in-Some.is in
    let encoded = subst (λ (o : Option LogEntry). IfSome o IsEntry) c.in-Some.is c.in_ok-entry.ensures.encoded in
    record {
      reads = rw c.in_ok-push.ensures.items (reads_on front items c.loop-item.item-index item e (entries_of items) c.loop-item-test.true (sym c.item-item.is) read c.loop-item.invariant.reads);
      encoded = rw c.in_ok-push.ensures.items (All-push IsEntry front e c.loop-item.invariant.encoded encoded);
    }

pub returns-clause-exact : goal.returns-clause-exact
returns-clause-exact c =
    let items = c.args.items.now in
    reads_all c.loop-item.entries.items items c.loop-item.item-index (entries_of items) c.loop-item-test.false c.loop-item.invariant.reads
