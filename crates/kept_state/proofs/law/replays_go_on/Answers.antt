use Rattle.std.proofs.Common.{◌≡◌, ℕ, Bool, true, false, cond, List, [], ◌∷◌, ◌++◌, Ok, Err, sym, ap, ◌∙◌, inl, inr}
use Rattle.std.proofs.lemmas.Bool.{cases_Bool}
use Rattle.flowfile_record.specs.Stored.{Kept}
use Rattle.flowfile_record.specs.declared.flow_file.FlowFile.{FlowFile}
use Rattle.record_codec.specs.declared.entry.LogEntry.{LogEntry}
use Rattle.kept_state.specs.Applied.{applied}
use Rattle.kept_state.specs.Fits.{entry_suits, replayed}
use Rattle.kept_state.proofs.law.replays_go_on.Goals as goal

-- replaying goes by a test, of which nothing else is needed
replay_step : (files : ℕ → List FlowFile) (k : Kept) (e : ℕ × LogEntry) (entries : List (ℕ × LogEntry)) (fit : Bool) → entry_suits files k e.1 ≡ fit
    → replayed files k (e ∷ entries) ≡ cond fit (replayed files (applied files k e.1) entries) (Err e.0)
replay_step files k e entries fit is = ap (λ b. cond b (replayed files (applied files k e.1) entries) (Err e.0)) is

more : (files : ℕ → List FlowFile) (k l : Kept) (entries : List (ℕ × LogEntry)) (at : ℕ) (e : LogEntry) → replayed files k entries ≡ Ok l
    → replayed files k (entries ++ (at, e) ∷ []) ≡ cond (entry_suits files l e) (Ok (applied files l e)) (Err at)
more files k l [] at e is =
    let same : k ≡ l = cc in
    ap (λ (m : Kept). cond (entry_suits files m e) (Ok (applied files m e)) (Err at)) same
more files k l (first ∷ entries) at e is = elim (cases_Bool (entry_suits files k first.1)) [
  | inl t ↦
      let rest : replayed files (applied files k first.1) entries ≡ Ok l = sym (replay_step files k first entries true t) ∙ is in
      replay_step files k first (entries ++ (at, e) ∷ []) true t ∙ more files (applied files k first.1) l entries at e rest
  | inr f ↦ absurd (let none : Err first.0 ≡ Ok l = sym (replay_step files k first entries false f) ∙ is in cc)
]

unfit : (files : ℕ → List FlowFile) (k : Kept) (entries more : List (ℕ × LogEntry)) (at : ℕ) → replayed files k entries ≡ Err at → replayed files k (entries ++ more) ≡ Err at
unfit files k [] more at is = absurd cc
unfit files k (first ∷ entries) more at is = elim (cases_Bool (entry_suits files k first.1)) [
  | inl t ↦
      let rest : replayed files (applied files k first.1) entries ≡ Err at = sym (replay_step files k first entries true t) ∙ is in
      replay_step files k first (entries ++ more) true t ∙ unfit files (applied files k first.1) entries more at rest
  | inr f ↦ replay_step files k first (entries ++ more) false f ∙ sym (replay_step files k first entries false f) ∙ is
]

pub returns-clause-more : goal.returns-clause-more
returns-clause-more c = more

pub returns-clause-unfit : goal.returns-clause-unfit
returns-clause-unfit c = unfit
