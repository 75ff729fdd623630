-- What an opening leaves beside the current log and its snapshot: nothing.
use Rattle.std.proofs.Common.{◌≡◌, ◌≢◌, ℕ, List, sym, ap, subst, ◌∙◌}
use Rattle.std.specs.Prelude.{Option, None, Some}
use Rattle.disk_trait.specs.Files.{Files, At, named}
use Rattle.disk_trait.specs.Images.{After, Since, IsOnly}
use Rattle.disk_trait.specs.declared.file_name.FileKind.{FileKind}
use Rattle.disk_trait.specs.declared.file_name.FileKind.TheVariants.{Log, Snapshot, Swap, Claim, Events}
use Rattle.disk_trait.specs.declared.file_name.FileName.{FileName}
use Rattle.disk_trait.proofs.Moments.{at_the_end}
use Rattle.checkpoint_store.specs.Begun.{log_file}
use Rattle.checkpoint_store.specs.Snapshot.{snapshot_file}
use Rattle.flowfile_record.specs.declared.content.ContentRef.{ContentRef}
use Rattle.content_repo.specs.Claims.{HasSizes, CutTo}
use Rattle.content_repo.specs.Slots.{size_of, covered}
use Rattle.prov_store.specs.State.{CutsStale}
use Rattle.prov_store.specs.declared.events.Stale.{Stale}
use Rattle.store_core.specs.Discard.{HasNoOthers}
use Rattle.store_core.specs.Opened.{HasNoLeftovers}
use Rattle.store_core.specs.Store.{StoreState, live_in}

-- ---- a store that is made

same_number : (kind : FileKind) (m n : ℕ) → named kind m ≡ named kind n → m ≡ n
same_number kind m n same = ap (λ (f : FileName). f.number) same

others_made : (P Q : List ℕ → List ℕ → Type 0) (a b c : Files) → HasNoOthers None a → At (snapshot_file 1) P a b → At (log_file 1) Q b c → HasNoOthers (Some 1) c
others_made P Q a b c none written begun = record {
  logs = λ n other.
      begun.others (named Log n) (λ (e : named Log n ≡ log_file 1). other (ap Some (sym (same_number Log n 1 e))))
      ∙ written.others (named Log n) (λ (e : named Log n ≡ snapshot_file 1). let kinds : Log ≡ Snapshot = ap (λ (f : FileName). f.kind) e in absurd cc)
      ∙ none.logs n (λ (e : None ≡ Some n). absurd cc);
  snapshots = λ n other.
      begun.others (named Snapshot n) (λ (e : named Snapshot n ≡ log_file 1). let kinds : Snapshot ≡ Log = ap (λ (f : FileName). f.kind) e in absurd cc)
      ∙ written.others (named Snapshot n) (λ (e : named Snapshot n ≡ snapshot_file 1). other (ap Some (sym (same_number Snapshot n 1 e))))
      ∙ none.snapshots n (λ (e : None ≡ Some n). absurd cc);
  batches = λ n.
      begun.others (named Swap n) (λ (e : named Swap n ≡ log_file 1). let kinds : Swap ≡ Log = ap (λ (f : FileName). f.kind) e in absurd cc)
      ∙ written.others (named Swap n) (λ (e : named Swap n ≡ snapshot_file 1). let kinds : Swap ≡ Snapshot = ap (λ (f : FileName). f.kind) e in absurd cc)
      ∙ none.batches n;
}

module _ {D : Type 0} (moment : D → ℕ) (images : D → ℕ → Files → Type 0) (held : D → Files) (P Q : List ℕ → List ℕ → Type 0) (first mid last : D) where
  pub no_others_made : HasNoOthers None (held first) → At (snapshot_file 1) P (held first) (held mid) → IsOnly (held mid) (images mid (moment mid))
      → Since moment images mid last (After (At (log_file 1) Q) (images mid (moment mid))) → images last (moment last) (held last) → HasNoOthers (Some 1) (held last)
  no_others_made none written only since left =
      let after = at_the_end moment images mid last (After (At (log_file 1) Q) (images mid (moment mid))) since (held last) left in
      others_made P Q (held first) (held mid) (held last) none written
      (subst (λ (files : Files). At (log_file 1) Q files (held last)) (only after.0 after.1) after.2)

-- ---- what comes after

others_beside : (kind : FileKind) (current : Option ℕ) (old new : Files) → Log ≢ kind → Snapshot ≢ kind → Swap ≢ kind → ((f : FileName) → f.kind ≢ kind → new f ≡ old f) → HasNoOthers current old
    → HasNoOthers current new
others_beside kind current old new log snapshot swap same none = record {
  logs = λ n other. same (named Log n) log ∙ none.logs n other;
  snapshots = λ n other. same (named Snapshot n) snapshot ∙ none.snapshots n other;
  batches = λ n. same (named Swap n) swap ∙ none.batches n;
}

pub no_leftovers : (s : StoreState) (current : ℕ) (refs : List ContentRef) (stale : List Stale) (made cut trimmed : Files) → s.log.number ≡ Some current → refs ≡ live_in s
    → HasNoOthers (Some current) made → CutTo (λ k. covered k refs) made cut → CutsStale stale cut trimmed → HasSizes s.slots trimmed → ((k : ℕ) → size_of s.slots k ≡ covered k refs)
    → HasNoLeftovers s trimmed
no_leftovers s current refs stale made cut trimmed number live others cuts trims sizes ends = record {
  others =
      subst (λ (o : Option ℕ). HasNoOthers o trimmed) (sym number)
      (others_beside Events (Some current) cut trimmed (λ (e : Log ≡ Events). absurd cc) (λ (e : Snapshot ≡ Events). absurd cc) (λ (e : Swap ≡ Events). absurd cc) trims.others
      (others_beside Claim (Some current) made cut (λ (e : Log ≡ Claim). absurd cc) (λ (e : Snapshot ≡ Claim). absurd cc) (λ (e : Swap ≡ Claim). absurd cc) cuts.others others));
  claims = λ n. sizes n ∙ ends n ∙ ap (covered n) live;
}
