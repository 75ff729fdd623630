-- What stands where a disk was read and nothing else was done.
use Rattle.std.proofs.Common.{◌≡◌, ℕ, ◌≤◌, Bool, List, refl, sym, subst, ◌∙◌, arith}
use Rattle.std.specs.Prelude.{Result}
use Rattle.disk_trait.specs.Faults.{CountsFaults}
use Rattle.disk_trait.specs.Files.{Files}
use Rattle.disk_trait.specs.Images.{Stays}
use Rattle.flowfile_record.specs.NamedFile.{NamedFile}
use Rattle.content_repo.specs.Claims.{content_in}
use Rattle.machine_model.specs.State.{Machine}
use Rattle.run_law.specs.Laws.{SparedRunsGoOn}
use Rattle.engine_steps.specs.Commit.{StandsSo}
use Rattle.engine_steps.specs.Engine.{EngineState}
use Rattle.engine_steps.specs.Entering.{IsReread}
use Rattle.engine_steps.specs.Errors.{CountsEachFault, IsReadBy}
use Rattle.engine_steps.specs.declared.error.EngineError.{EngineError}
use Rattle.engine_steps.specs.Leaving.{MayGoOn}
use Rattle.engine_steps.specs.Ready.{EngineIsReady}
use Rattle.engine_steps.specs.Running.{IsRunning}
use Rattle.engine_session.specs.declared.done.Done.{Done}
use Rattle.engine_steps.proofs.Commits.{work_read}
use Rattle.engine_steps.proofs.Goes.{spared_by_read}
use Rattle.run_law.specs.Puts.{Outgoing, Start}
use Rattle.engine_steps.proofs.Steps.{runs_on}

module _ (tells : Bool) {D : Type 0} (held : D → Files) (moment : D → ℕ) (images : D → ℕ → Files → Type 0) (old new : D) (stays : Stays held moment images old new) where
  pub still_ready : (e f : EngineState) → f ≡ e → EngineIsReady tells held moment images e old → EngineIsReady tells held moment images f new
  still_ready e f same ready =
      subst (λ (x : EngineState). EngineIsReady tells held moment images x new) (sym same)
      (record {
        work = work_read e.flow tells held moment images e.store old new stays ready.work;
        memory = ready.memory;
      })

  -- .. and it may go on
  pub still_goes_on : (e f : EngineState) → f ≡ e → (in_tells : Bool) (left now_left : List NamedFile) → now_left ≡ left → MayGoOn tells held moment images in_tells left e old
      → MayGoOn tells held moment images in_tells now_left f new
  still_goes_on e f same in_tells left now_left lies may =
      subst (λ (x : EngineState). MayGoOn tells held moment images in_tells now_left x new) (sym same)
      (subst (λ (l : List NamedFile). MayGoOn tells held moment images in_tells l e new) (sym lies)
      (record { ready = still_ready e e refl may.ready; works = may.works; left = may.left }))

  -- the run is where it was
  pub still_runs : SparedRunsGoOn moment images → (e f : EngineState) → f ≡ e → (opened : Machine) (first : D) (start : Start) (time later : ℕ) → time ≤ later
      → (left now_left : List NamedFile) (out now_out : Outgoing) → now_left ≡ left → now_out ≡ out
      → IsRunning moment images e opened first start time old left out → IsRunning moment images f opened first start later new now_left now_out
  still_runs law e f same opened first start time later le left now_left out now_out lies stands run =
      let on = runs_on moment images law e opened first start time later old new left out run le
      (spared_by_read tells held moment images e.flow e.store.lot run.reached old new stays run.to.run.holds) in
      subst (λ (x : EngineState). IsRunning moment images x opened first start later new now_left now_out) (sym same)
      (subst (λ (l : List NamedFile). IsRunning moment images e opened first start later new l now_out) (sym lies)
      (subst (λ (o : Outgoing). IsRunning moment images e opened first start later new left o) (sym stands) on))

  -- a work's job stands as it did
  pub still_stands : (e f : EngineState) → f ≡ e → (in_tells out_tells : Bool) (left now_left : List NamedFile) (out now_out : Outgoing) → now_left ≡ left → now_out ≡ out → (done : Done)
      → StandsSo tells in_tells out_tells e (content_in (held old)) left out.standing done → StandsSo tells in_tells out_tells f (content_in (held new)) now_left now_out.standing done
  still_stands e f same in_tells out_tells left now_left out now_out lies stands done so =
      subst (λ (x : EngineState). StandsSo tells in_tells out_tells x (content_in (held new)) now_left now_out.standing done) (sym same)
      (subst (λ (l : List NamedFile). StandsSo tells in_tells out_tells e (content_in (held new)) l now_out.standing done) (sym lies)
      (subst (λ (o : Outgoing). StandsSo tells in_tells out_tells e (content_in (held new)) left o.standing done) (sym stands)
      (subst (λ (files : Files). StandsSo tells in_tells out_tells e (content_in files) left out.standing done) (sym stays.files) so)))

-- ---- a look that showed nothing, and then a job that was read again

-- what is said of an engine and devices that are as others
pub of_others : (P : EngineState → Files → List NamedFile → Outgoing → Type 0) (e f : EngineState) (files now_files : Files) (left now_left : List NamedFile) (out now_out : Outgoing)
    → f ≡ e → now_files ≡ files → now_left ≡ left → now_out ≡ out → P f now_files now_left now_out → P e files left out
of_others P e f files now_files left now_left out now_out same held lies stands is =
    subst (λ (x : EngineState). P x files left out) same
    (subst (λ (c : Files). P f c left out) held (subst (λ (l : List NamedFile). P f now_files l out) lies (subst (λ (o : Outgoing). P f now_files now_left o) stands is)))

module _ {D A : Type 0} (result : Result A EngineError) (held : D → Files) (moment : D → ℕ) (images : D → ℕ → Files → Type 0) (e f g : EngineState) (old mid new : D) (left mid_left now_left : List NamedFile)
    (out mid_out now_out : Outgoing) where
  pub reread_behind : f ≡ e → Stays held moment images old mid → mid_left ≡ left → mid_out ≡ out → IsReread result held moment images f g mid new mid_left now_left mid_out now_out
      → IsReread result held moment images e g old new left now_left out now_out
  reread_behind same stays lies stands then = record {
    store = subst (λ (x : EngineState). IsReadBy result x.store g.store) same then.store;
    rest = then.rest ∙ (λ i. record (same i) { store = g.store });
    disk = record {
      files = then.disk.files ∙ stays.files;
      time = then.disk.time ∙ stays.time;
      past = λ k c left. stays.past k c (then.disk.past k c left);
      kept = λ k c left. then.disk.kept k c (stays.kept k c left);
    };
    inbox = then.inbox ∙ lies;
    outbox = then.outbox ∙ stands;
  }

-- the counts only rose before
count_behind : (failed : Type 0) (old mid new : ℕ) → old ≤ mid → CountsFaults mid new failed → CountsFaults old new failed
count_behind failed old mid new first second = record {
  never_falls = omega (arith, first, second.never_falls);
  rose = λ is below. omega (arith, first, second.rose is below);
}

pub counts_behind : {A : Type 0} (result : Result A EngineError) (disk_old disk_mid disk_new inbox_old inbox_mid inbox_new outbox_old outbox_mid outbox_new : ℕ)
    → disk_old ≤ disk_mid → inbox_old ≤ inbox_mid → outbox_old ≤ outbox_mid
    → CountsEachFault result disk_mid disk_new inbox_mid inbox_new outbox_mid outbox_new → CountsEachFault result disk_old disk_new inbox_old inbox_new outbox_old outbox_new
counts_behind result disk_old disk_mid disk_new inbox_old inbox_mid inbox_new outbox_old outbox_mid outbox_new disk inbox outbox each = record {
  disk = count_behind _ disk_old disk_mid disk_new disk each.disk;
  inbox = count_behind _ inbox_old inbox_mid inbox_new inbox each.inbox;
  outbox = count_behind _ outbox_old outbox_mid outbox_new outbox each.outbox;
  put = count_behind _ outbox_old outbox_mid outbox_new outbox each.put;
}
