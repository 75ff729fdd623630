-- What a session is told of the outbox is what the machine gives it, or it makes no difference there.
use Rattle.std.proofs.Common.{◌≡◌, ℕ, Bool, true, false, cond, List, ◌∷◌, [], map, true≢false, refl, sym, ap, ◌∙◌}
use Rattle.std.specs.Prelude.{◌&&◌, Option, None, Some, is_some, option_and_then, slice_get, slice_index}
use Rattle.std.specs.Option.{option_map_or}
use Rattle.flowfile_record.specs.NamedFile.{bytes_of}
use Rattle.flowfile_record.specs.declared.content.ContentRef.{ContentRef}
use Rattle.flowfile_record.specs.declared.flow_file.FlowFile.{FlowFile}
use Rattle.machine_model.specs.declared.flow.Flow.{Flow}
use Rattle.machine_model.specs.declared.flow.Processor.{Processor}
use Rattle.machine_model.specs.declared.given.Given.{Given}
use Rattle.machine_model.specs.declared.kind.Kind.{Kind}
use Rattle.machine_model.specs.declared.kind.Kind.TheVariants.{GetFile, GenerateFlowFile, PutFile}
use Rattle.machine_model.specs.declared.pattern.Pattern.{Pattern}
use Rattle.machine_model.specs.Acting.{name_in}
use Rattle.machine_model.specs.Changing.{queued_file}
use Rattle.machine_model.specs.State.{QueuedFile, State, World}
use Rattle.machine_model.specs.Stepping.{given_in, is_there, may_generate, may_get}
use Rattle.engine_choice.specs.Laws.{given_for}
use Rattle.engine_choice.specs.declared.choice.Taking.{Taking}
use Rattle.engine_choice.specs.declared.choice.Taking.TheVariants.{Files, Generate, Receive}
use Rattle.engine_steps.specs.Handing.{asks_at, asks_outbox, there_for}

-- ---- what the outbox answers

-- what it is asked is whether it has the first file's name
is_named : (world : World) (standing : List ℕ → Option (List ℕ)) (contents : ContentRef → List ℕ) (files : List FlowFile) → world.outbox ≡ standing
    → option_map_or (λ (file : FlowFile). option_map_or (λ name. is_some (standing name)) (name_in file.attributes) false) (slice_get files 0) false ≡ is_there world (map (queued_file contents) files)
is_named world standing contents [] same = refl
is_named world standing contents (file ∷ files) same = ap (λ (s : List ℕ → Option (List ℕ)). option_map_or (λ name. is_some (s name)) (name_in file.attributes) false) (sym same)

module _ (flow : Flow) (place : ℕ) (world : World) (standing : List ℕ → Option (List ℕ)) (contents : ContentRef → List ℕ) where
  pub there_so : (files : List FlowFile) (asks there : Bool) → world.outbox ≡ standing → asks ≡ asks_at flow place
      → there ≡ asks && option_map_or (λ (file : FlowFile). option_map_or (λ name. is_some (standing name)) (name_in file.attributes) false) (slice_get files 0) false
      → there ≡ there_for flow place world (map (queued_file contents) files)
  there_so files asks there same asked is =
      is ∙ ap (λ (b : Bool). asks && b) (is_named world standing contents files same) ∙ ap (λ (b : Bool). b && is_there world (map (queued_file contents) files)) asked

  -- a session that takes no files is told no
  pub none_there : (files : List FlowFile) → files ≡ [] → false ≡ there_for flow place world (map (queued_file contents) files)
  none_there files none = by (asks_at flow place) ∙ ap (λ (some : List FlowFile). there_for flow place world (map (queued_file contents) some)) (sym none)
    where
      by : (asks : Bool) → false ≡ asks && false
      by true = refl
      by false = refl

-- ---- what the machine gives

some_too : (b : Bool) (given handed other : Given) → cond b (Some given) None ≡ Some handed → cond b (Some other) None ≡ Some other
some_too true given handed other is = refl
some_too false given handed other is = absurd cc

-- what a GetFile is given
abbrev got_by : Option Pattern → World → Given → List ℕ → Option Given
got_by filter world given name = cond (may_get filter world name) (Some (record given { bytes = bytes_of world.inbox name })) None

got_too : (filter : Option Pattern) (world : World) (given handed other : Given) (file : Option (List ℕ)) → option_and_then (got_by filter world given) file ≡ Some handed
    → (also : Given) × (option_and_then (got_by filter world other) file ≡ Some also)
got_too filter world given handed other None is = absurd cc
got_too filter world given handed other (Some name) is =
    let also : Given = record other { bytes = bytes_of world.inbox name } in
    (also, some_too (may_get filter world name) (record given { bytes = bytes_of world.inbox name }) handed also is)

-- where the outbox isn't asked, what is given stands whatever is told
unasked_given : (kind : Kind) (place : ℕ) (state : State) (world : World) (files : List QueuedFile) (given handed : Given) (there : Bool) → asks_outbox kind ≡ false → given_in kind place state world files given ≡ Some handed
    → (also : Given) × (given_in kind place state world files (record given { there = there }) ≡ Some also)
unasked_given (GetFile filter) place state world files given handed there unasked is = got_too filter world given handed (record given { there = there }) given.file is
unasked_given (GenerateFlowFile count text) place state world files given handed there unasked is =
    (record given { there = there }, some_too (may_generate count (slice_index state.counts place) given.index) given handed (record given { there = there }) is)
unasked_given (PutFile conflict) place state world files given handed there unasked is = absurd (true≢false unasked)
unasked_given kind place state world files given handed there unasked is = (record given { there = there }, refl)

told_so : (moment : ℕ) (was there : Bool) (taking : Taking) → record (given_for moment was taking) { there = there } ≡ given_for moment there taking
told_so moment was there (Files connection numbers) = refl
told_so moment was there (Generate index) = refl
told_so moment was there (Receive name) = refl

-- what a session is given stands where it is told what it asks
pub told_given : (kind : Kind) (place : ℕ) (state : State) (world : World) (files : List QueuedFile) (moment : ℕ) (there : Bool) (taking : Taking) (handed : Given) → there ≡ asks_outbox kind && is_there world files
    → given_in kind place state world files (given_for moment (is_there world files) taking) ≡ Some handed → (also : Given) × (given_in kind place state world files (given_for moment there taking) ≡ Some also)
told_given kind place state world files moment there taking handed says is = by (asks_outbox kind) refl
  where
    by : (asks : Bool) → asks_outbox kind ≡ asks → (also : Given) × (given_in kind place state world files (given_for moment there taking) ≡ Some also)
    by true asks =
        let told : there ≡ is_there world files = says ∙ ap (λ (b : Bool). b && is_there world files) asks in
        (handed, ap (λ (b : Bool). given_in kind place state world files (given_for moment b taking)) told ∙ is)
    by false unasked =
        let found = unasked_given kind place state world files (given_for moment (is_there world files) taking) handed there unasked is in
        (found.0, ap (given_in kind place state world files) (sym (told_so moment (is_there world files) there taking)) ∙ found.1)

-- the processor at the place asks by its kind
pub asks_by : (flow : Flow) (place : ℕ) (processor : Processor) → slice_get flow.processors place ≡ Some processor → asks_at flow place ≡ asks_outbox processor.kind
asks_by flow place processor found = ap (λ (o : Option Processor). option_map_or (λ (p : Processor). asks_outbox p.kind) o false) found
