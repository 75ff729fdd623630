-- Which files a run writes.
use Rattle.std.proofs.Common.{◌≡◌, ◌⊎◌, inl, inr, ⊎_elim, ℕ, ◌+◌, refl, sym, ◌∙◌, ap, subst, arith}
use Rattle.std.specs.Prelude.{Option, Some}
use Rattle.disk_trait.specs.Files.{Files}
use Rattle.disk_trait.specs.Images.{After, Since, Stays}
use Rattle.disk_trait.specs.declared.file_name.FileKind.TheVariants.{Snapshot}
use Rattle.disk_trait.specs.declared.file_name.FileName.{FileName}
use Rattle.disk_trait.proofs.Moments.{nothing, only_read, step_after_step, wider}
use Rattle.store_core.specs.Checkpoint.{Checkpoints, IsOfNumber}
use Rattle.store_core.specs.Touched.{MayTouch, TouchesOnly}
use Rattle.store_core.proofs.Cutting.{shortened_as, shortened_in_turn, shortened_same}
use Rattle.run_law.specs.Work.{IsFrom, IsNoEarlier, IsLaterLog, MayWriteFrom, WritesFrom, WritesLog}

-- ---- the log's number

pub same_log : (old new : Option ℕ) → new ≡ old → IsNoEarlier old new
same_log old new same n is = (n, sym same ∙ is, omega arith)

pub next_log : (old new : Option ℕ) (number : ℕ) → old ≡ Some number → new ≡ Some (number + 1) → IsNoEarlier old new
next_log old new number was is n so =
    let both : Some (number + 1) ≡ Some n = sym is ∙ so in
    let next : number + 1 ≡ n = cc in
    (number, was, omega (arith, next))

pub later_log : (old mid new : Option ℕ) → IsNoEarlier old mid → IsNoEarlier mid new → IsNoEarlier old new
later_log old mid new first second n is =
    let between = second n is in
    let begun = first between.0 between.1 in
    (begun.0, begun.1, omega (arith, begun.2, between.2))

-- ---- files

module _ (log other : Option ℕ) (no_earlier : IsNoEarlier log other) where
  from_before : (n : ℕ) → IsFrom other n → IsFrom log n
  from_before n is = let begun = no_earlier is.0 is.1 in (begun.0, begun.1, omega (arith, begun.2, is.2))

  past_before : (n : ℕ) → IsLaterLog other n → IsLaterLog log n
  past_before n is = let begun = no_earlier is.0 is.1 in (begun.0, begun.1, omega (arith, begun.2, is.2))

  written_before : (f : FileName) → MayWriteFrom other f → MayWriteFrom log f
  written_before f (inl is) = inl is
  written_before f (inr (inl is)) = inr (inl is)
  written_before f (inr (inr (inl is))) = inr (inr (inl (is.0, from_before f.number is.1)))
  written_before f (inr (inr (inr is))) = inr (inr (inr (is.0, past_before f.number is.1)))

  changed_before : (f : FileName) → MayWriteFrom other f ⊎ ((f.kind ≡ Snapshot) × IsFrom other f.number) → MayWriteFrom log f ⊎ ((f.kind ≡ Snapshot) × IsFrom log f.number)
  changed_before f (inl is) = inl (written_before f is)
  changed_before f (inr is) = inr (is.0, from_before f.number is.1)

  both_write : (a b c : Files) → WritesFrom log a b → WritesFrom other b c → WritesFrom log a c
  both_write a b c first second = record {
    shorter = λ f no. shortened_in_turn 0 (a f) (b f) (c f) (first.shorter f no) (second.shorter f (λ may. no (written_before f may)));
    others = λ f no. second.others f (λ may. no (changed_before f may)) ∙ first.others f no;
  }

module _ (log : Option ℕ) where
  writes_nothing : (files : Files) → WritesFrom log files files
  writes_nothing files = record { shorter = λ f no. shortened_same 0 (files f); others = λ f no. refl }

  touched_is_written : (f : FileName) → MayTouch log f → MayWriteFrom log f
  touched_is_written f (inl is) = inl is
  touched_is_written f (inr (inl is)) = inr (inl is)
  touched_is_written f (inr (inr is)) =
      let number : f.number ≡ is.0 = ap (λ (g : FileName). g.number) is.2 in
      inr (inr (inl (ap (λ (g : FileName). g.kind) is.2, (is.0, is.1, omega (arith, number)))))

  pub log_writes : (a b : Files) → TouchesOnly (MayTouch log) a b → WritesFrom log a b
  log_writes a b touched = record {
    shorter = λ f no. shortened_as 0 (a f) (b f) (touched f (λ may. no (touched_is_written f may)));
    others = λ f no. touched f (λ may. no (inl (touched_is_written f may)));
  }

  next_is_written : (number : ℕ) → log ≡ Some number → (f : FileName) → IsOfNumber (number + 1) f → MayWriteFrom log f
  next_is_written number was f (inl is) =
      let next : f.number ≡ number + 1 = ap (λ (g : FileName). g.number) is in
      inr (inr (inl (ap (λ (g : FileName). g.kind) is, (number, was, omega (arith, next)))))
  next_is_written number was f (inr is) =
      let next : f.number ≡ number + 1 = ap (λ (g : FileName). g.number) is in
      inr (inr (inr (ap (λ (g : FileName). g.kind) is, (number, was, omega (arith, next)))))

  now_changes : (number : ℕ) → log ≡ Some number → (f : FileName) → IsOfNumber number f → MayWriteFrom log f ⊎ ((f.kind ≡ Snapshot) × IsFrom log f.number)
  now_changes number was f (inl is) =
      let same : f.number ≡ number = ap (λ (g : FileName). g.number) is in
      inl (inr (inr (inl (ap (λ (g : FileName). g.kind) is, (number, was, omega (arith, same))))))
  now_changes number was f (inr is) =
      let same : f.number ≡ number = ap (λ (g : FileName). g.number) is in
      inr (ap (λ (g : FileName). g.kind) is, (number, was, omega (arith, same)))

  pub checkpoint_writes : (number : ℕ) → log ≡ Some number → (a b : Files) → Checkpoints number a b → WritesFrom log a b
  checkpoint_writes number was a b step = record {
    shorter = λ f no. step.shorter f (λ next. no (next_is_written number was f next));
    others = λ f no.
        step.others f
        (λ either. no (⊎_elim
        (λ (now : IsOfNumber number f). now_changes number was f now) (λ (next : IsOfNumber (number + 1) f). inl (next_is_written number was f next)) either));
  }

-- ---- calls

module _ {D : Type 0} (moment : D → ℕ) (images : D → ℕ → Files → Type 0) (log : Option ℕ) where
  pub writes_as : (step : Files → Files → Type 0) (old new : D) → ((a b : Files) → step a b → WritesFrom log a b) → Since moment images old new (After step (images old (moment old))) → WritesLog moment images log old new
  writes_as step old new writes since =
      wider moment images old new (After step (images old (moment old))) (After (WritesFrom log) (images old (moment old))) since
      (λ c after. (after.0, after.1, writes after.0 c after.2))

  pub writes_none : (disk : D) → WritesLog moment images log disk disk
  writes_none disk = wider moment images disk disk (images disk (moment disk)) (After (WritesFrom log) (images disk (moment disk))) (nothing moment images disk) (λ c left. (c, left, writes_nothing log c))

  pub reads_only : (held : D → Files) (old new : D) → Stays held moment images old new → WritesLog moment images log old new
  reads_only held old new stays =
      wider moment images old new (images old (moment old)) (After (WritesFrom log) (images old (moment old))) (only_read moment images held old new stays) (λ c left. (c, left, writes_nothing log c))

  -- a later call, of this log or a later one
  pub writes_on : (other : Option ℕ) (old mid new : D) → IsNoEarlier log other → WritesLog moment images log old mid → WritesLog moment images other mid new → WritesLog moment images log old new
  writes_on other old mid new no_earlier first second =
      step_after_step moment images old mid new (WritesFrom log) (WritesFrom other) (WritesFrom log) (images old (moment old)) first second (λ d c r. r) (both_write log other no_earlier)

  pub writes_in_turn : (old mid new : D) → WritesLog moment images log old mid → WritesLog moment images log mid new → WritesLog moment images log old new
  writes_in_turn old mid new first second = writes_on log old mid new (same_log log log refl) first second

  -- the same log under another name
  pub writes_to : (other : Option ℕ) (old new : D) → other ≡ log → WritesLog moment images other old new → WritesLog moment images log old new
  writes_to other old new same = subst (λ (l : Option ℕ). WritesLog moment images l old new) same

  -- only this log is written, beside claims and events
  pub touches_log : (other : Option ℕ) (old new : D) → other ≡ log → Since moment images old new (After (TouchesOnly (MayTouch other)) (images old (moment old))) → WritesLog moment images log old new
  touches_log other old new same since =
      subst (λ (l : Option ℕ). Since moment images old new (After (TouchesOnly (MayTouch l)) (images old (moment old))) → WritesLog moment images log old new) (sym same)
      (λ touched. writes_as (TouchesOnly (MayTouch log)) old new (log_writes log) touched) since
