-- The files with which a session of what is kept has ended: their numbers, their sizes, their parents and where they go.
use Rattle.std.proofs.Common.{ℕ, ◌+◌, ◌<◌, ◌≤◌, Bool, true, false, cond, List, [], ◌∷◌, length, map, take, drop, sym, subst, arith}
use Rattle.std.specs.Prelude.{All, zip}
use Rattle.std.specs.List.{range_with_len}
use Rattle.std.proofs.lemmas.Bool.Decides.{Decides-eqb}
use Rattle.std.proofs.lemmas.List.{length-drop, length-map, length-take}
use Rattle.std.proofs.lemmas.List.Elements.{All-weaker}
use Rattle.std.proofs.lemmas.Map.Made.{AllPairs-from_IsDistinct}
use Rattle.flowfile_record.specs.Outcome.{AreInTurn, IsBodyOver, IsWorked, NamesEachOnce, content_of, parents_of}
use Rattle.flowfile_record.specs.declared.TheConstants.{CONTENT_MAX}
use Rattle.flowfile_record.specs.declared.content.ContentRef.{ContentRef}
use Rattle.flowfile_record.specs.declared.flow_file.FlowFile.{FlowFile}
use Rattle.flowfile_record.specs.declared.limits.TheConstants.{FILES_MAX, NUMBER_LIMIT}
use Rattle.flowfile_record.specs.declared.worked.Body.{Body}
use Rattle.flowfile_record.specs.declared.worked.Body.TheVariants as body
use Rattle.flowfile_record.specs.declared.worked.End.{End}
use Rattle.flowfile_record.specs.declared.worked.End.TheVariants.{To, Back, Removed}
use Rattle.flowfile_record.specs.declared.worked.Origin.{Origin}
use Rattle.flowfile_record.specs.declared.worked.Origin.TheVariants.{Taken, Created, Received, Forked, Part, Cloned, Joined}
use Rattle.flowfile_record.specs.declared.worked.Worked.{Worked}
use Rattle.process_session.specs.declared.file.Source.{Source}
use Rattle.machine_model.specs.declared.flow.Flow.{Flow}
use Rattle.machine_model.specs.declared.flow.Processor.{Processor}
use Rattle.machine_model.specs.declared.limits.TheConstants.{FAN_OUT_MAX}
use Rattle.machine_model.specs.Changing.{queued_file}
use Rattle.machine_model.specs.Kinds.{is_among}
use Rattle.machine_model.specs.Placing.{Drops, EndedSession, SettledFile, clones_from, connections_of, count_made, entered_in, further_connections, goes, numbers_from, relationship_at, settled_file, settled_files, to_connections, wanted_clones}
use Rattle.machine_model.specs.State.{QueuedFile}
use Rattle.machine_model.proofs.Numbers.{numbers_are}
use Rattle.machine_model.proofs.Tally.{Each, each-append}
use Rattle.settlement.specs.Handed.{AreReadSources}
use Rattle.engine_change.proofs.Each.{each_at, each_from_all, each_in_row, each_joined, each_made, each_second, each_so, each_weaker, each_zip, length-zipped}
use Rattle.engine_change.proofs.Few.{few_below}
use Rattle.engine_change.proofs.Told.{HasShortName, IsFit, IsFitClone}
use Rattle.flowfile_record.specs.declared.name.TheConstants.{NAME_MAX}

-- ---- contents

abbrev pub IsSmall : List ℕ → Type 0
IsSmall bytes = length bytes ≤ CONTENT_MAX

part_small : (size offset : ℕ) (bytes : List ℕ) → IsSmall bytes → IsSmall (take size (drop offset bytes))
part_small size offset bytes small = omega (arith, length-take size (drop offset bytes), length-drop offset bytes)

content_small : (contents : List (List ℕ)) (sizes : List ℕ) (part : Body) → Each IsSmall contents → IsBodyOver sizes part → IsSmall (content_of contents part)
content_small contents sizes (body.Whole of) small is = each_at IsSmall [] (omega arith) contents small of
content_small contents sizes (body.Part of offset size) small is = part_small size offset _ (each_at IsSmall [] (omega arith) contents small of)
content_small contents sizes (body.New bytes) small is = is

-- the bytes that were read of files that are small enough
pub read_small : (bytes : ContentRef → List ℕ) (taken : List FlowFile) (sources : List Source) → AreReadSources bytes taken sources → Each (λ file. file.content.size ≤ CONTENT_MAX) taken
    → Each IsSmall (map (λ file. file.bytes) (map (queued_file bytes) taken))
read_small bytes [] sources read small = tt
read_small bytes (file ∷ taken) [] read small = absurd read
read_small bytes (file ∷ taken) (source ∷ sources) read small =
    let size = read.0.size in
    let here = small.0 in
    (omega (arith, size, here), read_small bytes taken sources read.1 small.1)

-- ---- parents

-- all are places of files of the outcome
parents_below : (place count most : ℕ) (files : List Worked) → place + length files ≤ most → AreInTurn place count files → Each (λ file. All (λ parent. parent < most) (parents_of file.origin)) files
parents_below place count most [] le turn = tt
parents_below place count most (file ∷ files) le turn = (
  All-weaker (λ parent. parent < place) (λ parent. parent < most) (λ parent lt. omega (arith, lt, le)) (parents_of file.origin) turn.1,
  parents_below (place + 1) count most files (omega arith) turn.2,
)

few_parents : (most : ℕ) (from : Origin) → most ≤ FILES_MAX → NamesEachOnce from → All (λ parent. parent < most) (parents_of from) → length (parents_of from) ≤ FILES_MAX
few_parents most (Taken place) le once below = omega arith
few_parents most Created le once below = omega arith
few_parents most Received le once below = omega arith
few_parents most (Forked parent) le once below = omega arith
few_parents most (Part parent) le once below = omega arith
few_parents most (Cloned parent) le once below = omega arith
few_parents most (Joined parents) le once below = omega (arith, le, few_below most parents (AllPairs-from_IsDistinct Decides-eqb parents once.1) below)

-- ---- where files go

named : (relationship : List ℕ) (places : List ℕ) → length relationship ≤ NAME_MAX → HasShortName (to_connections relationship places)
named relationship [] short = short
named relationship (first ∷ others) short = tt

few_others : (relationship : List ℕ) (places : List ℕ) → length places ≤ FAN_OUT_MAX → length (further_connections (to_connections relationship places)) ≤ FAN_OUT_MAX
few_others relationship [] few = omega arith
few_others relationship (first ∷ others) few = omega (arith, few)

module _ (flow : Flow) (place : ℕ) (processor : Processor) (short : (relationship : ℕ) → length (relationship_at processor relationship) ≤ NAME_MAX)
    (fan_out : (name : List ℕ) → length (connections_of flow place name) ≤ FAN_OUT_MAX) where
  goes_short : (end : End) → HasShortName (goes flow place processor end)
  goes_short (To relationship) = by (is_among (relationship_at processor relationship) processor.terminated)
    where
      by : (b : Bool) → HasShortName (cond b (Drops (relationship_at processor relationship)) (to_connections (relationship_at processor relationship) (connections_of flow place (relationship_at processor relationship))))
      by true = short relationship
      by false = named (relationship_at processor relationship) (connections_of flow place (relationship_at processor relationship)) (short relationship)
  goes_short Back = tt
  goes_short Removed = tt

  goes_further : (end : End) → length (further_connections (goes flow place processor end)) ≤ FAN_OUT_MAX
  goes_further (To relationship) = by (is_among (relationship_at processor relationship) processor.terminated)
    where
      by : (b : Bool) → length (further_connections (cond b (Drops (relationship_at processor relationship)) (to_connections (relationship_at processor relationship) (connections_of flow place (relationship_at processor relationship))))) ≤ FAN_OUT_MAX
      by true = omega arith
      by false = few_others (relationship_at processor relationship) (connections_of flow place (relationship_at processor relationship)) (fan_out (relationship_at processor relationship))
  goes_further Back = omega arith
  goes_further Removed = omega arith

-- a file goes to no more connections than a relationship leads to
abbrev pub LeadsToFew : SettledFile → Type 0
LeadsToFew file = length (further_connections file.goes) ≤ FAN_OUT_MAX

-- ---- the files

-- what is known of a session and its files
pub record IsKnown (session : EndedSession) (files : List Worked) : Type 0 where
  pub contents : Each IsSmall (map (λ file. file.bytes) session.taken)
  pub numbers : Each (λ n. (1 ≤ n) × (n < session.state.next_number)) (map (λ file. file.number) session.taken)
  pub first : 1 ≤ session.state.next_number
  pub relationships : ℕ
  pub sizes : List ℕ
  pub worked : All (IsWorked relationships sizes) files
  pub in_turn : AreInTurn 0 (length session.taken) files
  pub few : length files ≤ FILES_MAX
  pub short : (relationship : ℕ) → length (relationship_at session.processor relationship) ≤ NAME_MAX
  pub fan_out : (name : List ℕ) → length (connections_of session.flow session.place name) ≤ FAN_OUT_MAX

-- each is a file of an outcome, with a number
abbrev IsNumbered : (most : ℕ) → ℕ → Type 0
IsNumbered most n = (1 ≤ n) × (n < most)

module _ (session : EndedSession) (files : List Worked) (known : IsKnown session files) where
  abbrev contents : List (List ℕ)
  contents = map (λ file. file.bytes) session.taken

  -- what of a file matters here
  record IsFile (file : Worked) : Type 0 where
    body : length (content_of contents file.body) ≤ CONTENT_MAX
    parents : length (parents_of file.origin) ≤ FILES_MAX

  each_file : Each IsFile files
  each_file = both files (each_from_all (IsWorked known.relationships known.sizes) files known.worked) (parents_below 0 (length session.taken) (length files) files (omega arith) known.in_turn)
    where
      both : (some : List Worked) → Each (IsWorked known.relationships known.sizes) some → Each (λ file. All (λ parent. parent < length files) (parents_of file.origin)) some → Each IsFile some
      both [] worked below = tt
      both (file ∷ some) worked below = (
        record { body = content_small contents known.sizes file.body known.contents worked.0.body; parents = few_parents (length files) file.origin known.few worked.0.names below.0 },
        both some worked.1 below.1,
      )

  abbrev own : List ℕ
  own = map (λ file. file.number) session.taken

  each_number : (most : ℕ) → session.state.next_number + count_made files ≤ most → Each (IsNumbered most) (numbers_from session.state.next_number own files)
  each_number most le =
      let next = session.state.next_number in
      let first = known.first in
      subst (Each (IsNumbered most)) (sym (numbers_are own next 0 files (subst (λ n. AreInTurn 0 n files) (sym (length-map session.taken (λ (file : QueuedFile). file.number))) known.in_turn)))
      (each-append (IsNumbered most) own (range_with_len next (count_made files))
      (each_weaker (IsNumbered next) (IsNumbered most) (λ n is. let below = is.1 in (is.0, omega (arith, below, le))) own known.numbers)
      (each_weaker (λ n. (next ≤ n) × (n < most)) (IsNumbered most) (λ n is. let low = is.0 in (omega (arith, low, first), is.1)) (range_with_len next (count_made files)) (each_in_row next (count_made files) most le)))

  pub each_fits : session.state.next_number + count_made files ≤ NUMBER_LIMIT → Each IsFit (settled_files session files)
  each_fits le =
      let numbers = numbers_from session.state.next_number own files in
      let entered = entered_in session.given.moment (map (λ file. file.entered) session.taken) files in
      each_made (λ (f : ℕ × (ℕ × Worked)). IsNumbered NUMBER_LIMIT f.0 × IsFile f.1.1) IsFit (λ f. settled_file session (f.0, f.1.0, f.1.1))
      (λ f is.
      let small = is.1.body in
      record {
        first = is.0.0;
        number = is.0.1;
        size = omega (arith, small);
        parents = is.1.parents;
        goes = goes_short session.flow session.place session.processor known.short known.fan_out f.1.1.end;
      }) (zip numbers (zip entered files))
      (each_zip (IsNumbered NUMBER_LIMIT) (λ (f : ℕ × Worked). IsFile f.1) numbers (zip entered files) (each_number NUMBER_LIMIT le) (each_second IsFile entered files each_file))

  pub each_leads : Each LeadsToFew (settled_files session files)
  each_leads =
      let numbers = numbers_from session.state.next_number own files in
      let entered = entered_in session.given.moment (map (λ file. file.entered) session.taken) files in
      let all = zip numbers (zip entered files) in
      each_made (λ f. Unit {0}) LeadsToFew (λ f. settled_file session (f.0, f.1.0, f.1.1)) (λ f _. goes_further session.flow session.place session.processor known.short known.fan_out f.1.1.end) all
      (each_so (λ f. Unit {0}) (λ f. tt) all)

  pub few_files : length (settled_files session files) ≤ FILES_MAX
  few_files =
      let numbers = numbers_from session.state.next_number own files in
      let entered = entered_in session.given.moment (map (λ file. file.entered) session.taken) files in
      omega (arith, length-map (zip numbers (zip entered files)) (λ f. settled_file session (f.0, f.1.0, f.1.1)), length-zipped numbers (zip entered files), length-zipped entered files, known.few)

-- ---- clones

each_clone : (next : ℕ) (wanted : List (SettledFile × ℕ)) → Each (λ clone. IsFit clone.0) wanted → next + length (clones_from next wanted) ≤ NUMBER_LIMIT → Each IsFitClone (clones_from next wanted)
each_clone next [] fit le = tt
each_clone next (clone ∷ wanted) fit le = ((omega (arith, le), fit.0), each_clone (next + 1) wanted fit.1 (omega (arith, le)))

pub clones_known : (next : ℕ) (files : List SettledFile) → Each IsFit files → next + length (clones_from next (wanted_clones files)) ≤ NUMBER_LIMIT → Each IsFitClone (clones_from next (wanted_clones files))
clones_known next files fit le =
    each_clone next (wanted_clones files)
    (each_joined IsFit (λ clone. IsFit clone.0) (λ file. map (λ connection. (file, connection)) (further_connections file.goes))
    (λ file is. each_made (λ connection. Unit {0}) (λ clone. IsFit clone.0) (λ connection. (file, connection)) (λ connection _. is) (further_connections file.goes) (each_so (λ connection. Unit {0}) (λ connection. tt) (further_connections file.goes))) files fit) le
