use Rattle.std.proofs.Common.{◌≡◌, true, false, [], sym, ◌∙◌, ap}
use Rattle.std.specs.List.{list_any}
use Rattle.std.specs.Prelude.{◌==◌, ◌&&◌}
use Rattle.flowfile_record.specs.Stored.{Kept}
use Rattle.flowfile_record.specs.declared.stored.SwapBatch.{SwapBatch}
use Rattle.record_codec.specs.EntryEncoding.{IsEntry}
use Rattle.record_codec.specs.declared.entry.LogEntry.{LogEntry}
use Rattle.record_codec.specs.declared.entry.LogEntry.TheVariants.{Begin, Session, Expire, SwapOut, SwapIn, Age}
use Rattle.checkpoint_store.specs.Consistent.{IsConsistent}
use Rattle.kept_state.specs.Applied.{applied, batch_swapped_out}
use Rattle.kept_state.specs.Changes.{no_files}
use Rattle.kept_state.specs.Fits.{entry_suits}
use Rattle.kept_state.proofs.Keeping.{session_keeps, expire_keeps}
use Rattle.kept_state.proofs.law.fits_leave_a_consistent_state.Goals as goal

keeps : (k : Kept) (e : LogEntry) → IsConsistent k → k.batches ≡ [] → batch_swapped_out e ≡ [] → IsEntry e → entry_suits no_files k e ≡ true → IsConsistent (applied no_files k e)
keeps k (Begin version log) was none out is fit = absurd cc
keeps k (Session s) was none out is fit = session_keeps k s was none is fit
keeps k (Expire e) was none out is fit = expire_keeps k e was is
keeps k (SwapOut s) was none out is fit = absurd cc
keeps k (SwapIn connection batch) was none out is fit =
    let never : false ≡ true = ap (list_any (λ (b : SwapBatch). (b.batch == batch) && (b.connection == connection))) (sym none) ∙ fit in absurd cc
keeps k (Age line) was none out is fit = absurd cc

pub returns-clause-consistent : goal.returns-clause-consistent
returns-clause-consistent c = keeps
