-- What a session in flight is handed its processor may be handed, since it may still take what it took.
use Rattle.std.proofs.Common.{◌≡◌, inl, inr, ℕ, ◌<◌, ◌≤◌, zero, suc, Bool, true, false, List, [], ◌∷◌, length, map, refl, sym, ap, subst, ◌∙◌, arith, true≢false}
use Rattle.std.specs.Prelude.{Option, None, Some, IsSome, slice_get}
use Rattle.std.specs.Option.{option_to_list}
use Rattle.std.proofs.lemmas.Bool.{and_parts, eqb-true, leb-true}
use Rattle.std.proofs.lemmas.List.{length-map}
use Rattle.prioritizer.specs.declared.prioritizer.Prioritizer.{Prioritizer}
use Rattle.flowfile_record.specs.Stored.{Kept}
use Rattle.flowfile_record.specs.declared.limits.TheConstants.{NUMBER_LIMIT, TAKEN_MAX}
use Rattle.machine_model.specs.declared.flow.Flow.{Flow}
use Rattle.machine_model.specs.declared.flow.Processor.{Processor}
use Rattle.machine_model.specs.declared.given.Given.{Given}
use Rattle.machine_model.specs.declared.kind.Kind.{Kind}
use Rattle.machine_model.specs.declared.kind.Kind.TheVariants.{GetFile, GenerateFlowFile}
use Rattle.machine_model.specs.declared.kind.TakeRule.{TakeRule}
use Rattle.machine_model.specs.declared.kind.TakeRule.TheVariants.{Source, One, Bin, Defragment}
use Rattle.machine_model.specs.declared.limits.TheConstants.{GENERATED_MAX}
use Rattle.machine_model.specs.Kinds.{is_source, take_rule_of}
use Rattle.machine_model.specs.Laws.{MayTake, received_name}
use Rattle.machine_model.specs.Sound.{IsSound, IsSoundKind}
use Rattle.machine_model.specs.Stepping.{admits, is_in_turn}
use Rattle.machine_model.specs.View.{FileView}
use Rattle.machine_model.proofs.Among.{Among, all_among}
use Rattle.processor_api.specs.Acts.{IsGivenTo}
use Rattle.engine_queues.specs.Views.{view_of_kept}
use Rattle.engine_choice.specs.Laws.{given_for, numbers_in}
use Rattle.engine_choice.specs.declared.choice.Taking.{Taking}
use Rattle.engine_choice.specs.declared.choice.Taking.TheVariants.{Files, Generate, Receive}
use Rattle.engine_session.specs.Handing.{live_files}
use Rattle.engine_session.specs.Job.{MayHand}
use Rattle.engine_session.specs.Taken.{MayStillGet, MayStillMake, MayStillTake, TakesStill}
use Rattle.engine_session.specs.declared.job.Job.{Job}
use Rattle.engine_session.proofs.Lookups.{live_count}
use Rattle.engine_steps.specs.Handing.{HasBytes, JobIsHanded}
use Rattle.engine_steps.specs.declared.flight.InFlight.{InFlight}

-- ---- how many files are taken

admits_many : (rule : TakeRule) (order : List Prioritizer) (files : List FileView) → admits rule order files ≡ true → MayTake rule (length files)
admits_many Source order files is = eqb-true (length files) 0 is
admits_many One order files is = eqb-true (length files) 1 is
admits_many (Bin min max) order files is =
    let outer = and_parts _ (is_in_turn order files) is in
    let parts = and_parts _ _ outer.0 in
    (leb-true 1 (length files) parts.0, leb-true (length files) max parts.1)
admits_many Defragment order files is =
    let parts = and_parts _ _ is in
    (leb-true 1 (length files) parts.0, leb-true (length files) TAKEN_MAX parts.1)

made_none : (kind : Kind) (index : ℕ) → MayStillMake kind index → MayTake (take_rule_of kind) 0
made_none (GenerateFlowFile count text) index makes = refl
made_none kind index makes = absurd makes

got_none : (kind : Kind) (name : List ℕ) → MayStillGet kind name → MayTake (take_rule_of kind) 0
got_none (GetFile filter) name gets = refl
got_none kind name gets = absurd gets

takes_many : (flow : Flow) (k : Kept) (moment place : ℕ) (kind : Kind) (taking : Taking) → MayStillTake flow k moment place kind taking → MayTake (take_rule_of kind) (length (numbers_in taking))
takes_many flow k moment place kind (Files connection numbers) (other, still) =
    subst (MayTake (take_rule_of kind)) (length-map (live_files k numbers) view_of_kept ∙ live_count k connection numbers still.active)
    (admits_many (take_rule_of kind) still.from.order (map view_of_kept (live_files k numbers)) still.admitted)
takes_many flow k moment place kind (Generate index) makes = made_none kind index makes
takes_many flow k moment place kind (Receive name) gets = got_none kind name gets

-- ---- what is given

-- what is given beside the files is for a processor of this kind
record IsGivenSo (kind : Kind) (given : Given) : Type 0 where
  pub to : IsGivenTo kind given
  pub file : received_name kind given.file ≡ option_to_list given.file
  pub index : given.index < NUMBER_LIMIT

-- the file and the index that are given
file_is : (given wanted : Given) → record given { bytes = None } ≡ wanted → given.file ≡ wanted.file
file_is given wanted is = ap (λ (g : Given). g.file) is

index_is : (given wanted : Given) → record given { bytes = None } ≡ wanted → given.index ≡ wanted.index
index_is given wanted is = ap (λ (g : Given). g.index) is

given_any : (kind : Kind) (given : Given) → is_source kind ≡ false → IsGivenTo kind given
given_any (GetFile filter) given other = absurd (true≢false other)
given_any (GenerateFlowFile count text) given other = tt
given_any kind given other = tt

receives_none : (kind : Kind) → received_name kind None ≡ []
receives_none (GetFile filter) = refl
receives_none kind = refl

given_files : (kind : Kind) (given wanted : Given) → is_source kind ≡ false → record given { bytes = None } ≡ wanted → wanted.file ≡ None → wanted.index ≡ 0 → IsGivenSo kind given
given_files kind given wanted other is no_file no_index =
    let file : given.file ≡ None = file_is given wanted is ∙ no_file in
    let index : given.index ≡ 0 = index_is given wanted is ∙ no_index in
    record {
      to = given_any kind given other;
      file = subst (λ (o : Option (List ℕ)). received_name kind o ≡ option_to_list o) (sym file) (receives_none kind);
      index = omega (arith, index);
    }

given_index : (kind : Kind) (index : ℕ) (given wanted : Given) → IsSoundKind kind → MayStillMake kind index → record given { bytes = None } ≡ wanted → wanted.file ≡ None → wanted.index ≡ index → IsGivenSo kind given
given_index (GenerateFlowFile count text) index given wanted sound makes is no_file this_index =
    let file : given.file ≡ None = file_is given wanted is ∙ no_file in
    let at : given.index ≡ index = index_is given wanted is ∙ this_index in
    let most : count ≤ GENERATED_MAX = leb-true count GENERATED_MAX sound.ranges in
    record {
      to = tt;
      file = subst (λ (o : Option (List ℕ)). received_name (GenerateFlowFile count text) o ≡ option_to_list o) (sym file) refl;
      index = omega (arith, at, makes.1, most);
    }
given_index kind index given wanted sound makes is no_file this_index = absurd makes

given_name : (kind : Kind) (name : List ℕ) (given wanted : Given) → MayStillGet kind name → record given { bytes = None } ≡ wanted → wanted.file ≡ Some name → wanted.index ≡ 0 → HasBytes (Receive name) given.bytes → IsGivenSo kind given
given_name (GetFile filter) name given wanted gets is this_file no_index has =
    let file : given.file ≡ Some name = file_is given wanted is ∙ this_file in
    let index : given.index ≡ 0 = index_is given wanted is ∙ no_index in
    record {
      to = (subst (λ (o : Option (List ℕ)). IsSome o) (sym file) refl, has);
      file = subst (λ (o : Option (List ℕ)). received_name (GetFile filter) o ≡ option_to_list o) (sym file) refl;
      index = omega (arith, index);
    }
given_name kind name given wanted gets is this_file no_index has = absurd gets

given_so : (flow : Flow) (k : Kept) (moment place : ℕ) (kind : Kind) (taking : Taking) (there : Bool) (given : Given) → IsSoundKind kind → MayStillTake flow k moment place kind taking
    → record given { bytes = None } ≡ given_for moment there taking → HasBytes taking given.bytes → IsGivenSo kind given
given_so flow k moment place kind (Files connection numbers) there given sound takes is has = given_files kind given (given_for moment there (Files connection numbers)) takes.0 is refl refl
given_so flow k moment place kind (Generate index) there given sound makes is has = given_index kind index given (given_for moment there (Generate index)) sound makes is refl refl
given_so flow k moment place kind (Receive name) there given sound gets is has = given_name kind name given (given_for moment there (Receive name)) gets is refl refl has

-- ---- the job

among_got : {X : Type 0} (xs : List X) (place : ℕ) (x : X) → slice_get xs place ≡ Some x → Among x xs
among_got [] place x is = absurd cc
among_got (y ∷ xs) zero x is = let same : y ≡ x = cc in inl same
among_got (y ∷ xs) (suc place) x is = inr (among_got xs place x is)

-- what it is handed its processor may be handed
pub may_hand : (flow : Flow) (k : Kept) (flight : InFlight) (job : Job) → IsSound flow → TakesStill flow k flight.moment flight.choice → JobIsHanded k flight job → MayHand flow k job
may_hand flow k flight job sound still handed =
    let kind = still.processor.kind in
    let sound_kind : IsSoundKind kind = all_among (λ (p : Processor). IsSoundKind p.kind) still.processor flow.processors sound.kinds (among_got flow.processors flight.choice.processor still.processor still.there) in
    let given = given_so flow k flight.moment flight.choice.processor kind flight.choice.taking job.given.there job.given sound_kind still.takes handed.given handed.has in
    record {
      processor = still.processor;
      found = ap (slice_get flow.processors) handed.processor ∙ still.there;
      rule = subst (λ (numbers : List ℕ). MayTake (take_rule_of kind) (length numbers)) (sym handed.numbers) (takes_many flow k flight.moment flight.choice.processor kind flight.choice.taking still.takes);
      bytes = handed.bytes;
      taken = handed.taken;
      given = given.to;
      file = given.file;
      index = given.index;
    }
