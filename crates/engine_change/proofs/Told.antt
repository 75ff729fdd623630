-- What tells of a session fits, kind by kind, where its files do.
use Rattle.std.proofs.Common.{◌≡◌, ℕ, zero, suc, ◌^◌, ◌<◌, ◌≤◌, Bool, true, false, cond, List, [], ◌∷◌, ◌++◌, length, map, refl, ap, ◌∙◌, arith}
use Rattle.std.specs.Prelude.{IfSome, Option, Some, None, filter, nat_le, slice_get, unwrap_or, ◌||◌}
use Rattle.std.specs.List.{enumerate_from, flat_map}
use Rattle.std.specs.Option.{option_map_or}
use Rattle.std.proofs.lemmas.List.{length-map}
use Rattle.sha2.proofs.Facts256.{length-sha256}
use Rattle.flowfile_record.specs.Encoding.{IsNumber}
use Rattle.flowfile_record.specs.Outcome.{parents_of, same_attributes}
use Rattle.flowfile_record.specs.declared.event.EventKind.{EventKind}
use Rattle.flowfile_record.specs.declared.event.EventKind.TheVariants as kind
use Rattle.flowfile_record.specs.declared.limits.TheConstants.{FILES_MAX}
use Rattle.flowfile_record.specs.declared.name.TheConstants.{NAME_MAX}
use Rattle.flowfile_record.specs.declared.worked.Origin.{Origin}
use Rattle.flowfile_record.specs.declared.worked.Origin.TheVariants as origin
use Rattle.flowfile_record.specs.declared.worked.Sent.{Sent}
use Rattle.machine_model.specs.declared.limits.TheConstants.{ID_MAX}
use Rattle.machine_model.specs.Events.{Draft, alone, ascending, attributes_modified, clone_event, clonings, copies, created, dropped, fork_of, forked_children, forks, is_cloned_from, is_forked_from, is_removed, joined, modified, number_at, of_file, put_ascending, received, routed, sent}
use Rattle.machine_model.specs.Placing.{Destination, Drops, EndedSession, Leaves, Queues, Returns, SettledFile, SettlementClone, relationship_at}
use Rattle.machine_model.specs.State.{QueuedFile}
use Rattle.machine_model.proofs.Drafted.{attributes_part, clones_part, dropped_part, first_part, joined_part, modified_part, routed_part}
use Rattle.machine_model.proofs.Tally.{Each, each-append}
use Rattle.engine_change.proofs.Each.{each_filtered, each_joined, each_made, each_option, each_placed, each_so, length-filtered}
use Rattle.engine_change.proofs.Fits.{AreFew, Fits, FitsAsAny}

-- ---- what is asked of files and of their session

abbrev pub HasShortName : Destination → Type 0
HasShortName (Drops relationship) = length relationship ≤ NAME_MAX
HasShortName _ = Unit {0}

pub record IsFit (file : SettledFile) : Type 0 where
  pub first : 1 ≤ file.number
  pub number : IsNumber file.number
  pub size : length file.bytes < 2 ^ 64
  pub parents : length (parents_of file.worked.origin) ≤ FILES_MAX
  pub goes : HasShortName file.goes

pub record IsFitSession (session : EndedSession) : Type 0 where
  pub moment : session.given.moment < 2 ^ 64
  pub component : length session.processor.id ≤ ID_MAX
  pub received : length (unwrap_or session.given.file []) ≤ NAME_MAX
  pub relationships : (place : ℕ) → length (relationship_at session.processor place) ≤ NAME_MAX

abbrev pub IsFitClone : SettlementClone → Type 0
IsFitClone clone = IsNumber clone.number × IsFit clone.original

abbrev pub IsShortlySent : Option Sent → Type 0
IsShortlySent put = IfSome put (λ sent. length sent.name ≤ NAME_MAX)

-- ---- numbers

none : AreFew []
none = record { each = tt; few = omega arith }

one : (n : ℕ) → IsNumber n → AreFew (n ∷ [])
one n is = record { each = (is, tt); few = omega arith }

each_put : (n : ℕ) (numbers : List ℕ) → IsNumber n → Each IsNumber numbers → Each IsNumber (put_ascending n numbers)
each_put n [] is each = (is, tt)
each_put n (m ∷ numbers) is each = by (nat_le n m) (each_put n numbers is each.1)
  where
    by : (b : Bool) → Each IsNumber (put_ascending n numbers) → Each IsNumber (cond b (n ∷ m ∷ numbers) (m ∷ put_ascending n numbers))
    by true rest = (is, each)
    by false rest = (each.0, rest)

length-put : (n : ℕ) (numbers : List ℕ) → length (put_ascending n numbers) ≡ suc (length numbers)
length-put n [] = refl
length-put n (m ∷ numbers) = by (nat_le n m) (length-put n numbers)
  where
    by : (b : Bool) → length (put_ascending n numbers) ≡ suc (length numbers) → length (cond b (n ∷ m ∷ numbers) (m ∷ put_ascending n numbers)) ≡ suc (suc (length numbers))
    by true rest = refl
    by false rest = ap suc rest

each_ascending : (numbers : List ℕ) → Each IsNumber numbers → Each IsNumber (ascending numbers)
each_ascending [] each = tt
each_ascending (n ∷ numbers) each = each_put n (ascending numbers) each.0 (each_ascending numbers each.1)

length-ascending : (numbers : List ℕ) → length (ascending numbers) ≡ length numbers
length-ascending [] = refl
length-ascending (n ∷ numbers) = length-put n (ascending numbers) ∙ ap suc (length-ascending numbers)

number_of_place : (files : List SettledFile) → Each IsFit files → (place : ℕ) → IsNumber (number_at files place)
number_of_place [] each place = omega arith
number_of_place (file ∷ files) each zero = each.0.number
number_of_place (file ∷ files) each (suc place) = number_of_place files each.1 place

each_of_places : (files : List SettledFile) → Each IsFit files → (places : List ℕ) → Each IsNumber (map (number_at files) places)
each_of_places files each [] = tt
each_of_places files each (place ∷ places) = (number_of_place files each place, each_of_places files each places)

are_few_ascending : (files : List SettledFile) → Each IsFit files → (places : List ℕ) → length places ≤ FILES_MAX → AreFew (ascending (map (number_at files) places))
are_few_ascending files each places few =
    record {
      each = each_ascending (map (number_at files) places) (each_of_places files each places);
      few = omega (arith, length-ascending (map (number_at files) places), length-map places (number_at files));
    }

are_few_children : (files : List SettledFile) → Each IsFit files → length files ≤ FILES_MAX → (place : ℕ) → AreFew (forked_children files place)
are_few_children files each few place =
    let children = filter (λ (file : SettledFile). is_forked_from place file.worked.origin) files in
    record {
      each = each_made IsFit IsNumber (λ file. file.number) (λ file is. is.number) children (each_filtered IsFit (λ file. is_forked_from place file.worked.origin) files each);
      few = omega (arith, length-map children (λ (file : SettledFile). file.number), length-filtered (λ (file : SettledFile). is_forked_from place file.worked.origin) files);
    }

-- ---- kind by kind

module _ (session : EndedSession) (fit : IsFitSession session) where
  fits : (what : EventKind) (file : SettledFile) (parents children detail : List ℕ) → IsFit file → AreFew parents → AreFew children → length detail ≤ NAME_MAX
      → (n : ℕ) → Fits (of_file session what file parents children detail n)
  fits what file parents children detail is these those short =
      λ n. record {
        moment = fit.moment;
        component = fit.component;
        first_file = is.first;
        file = is.number;
        parents = these;
        children = those;
        detail = short;
        size = is.size;
        digest = length-sha256 file.bytes;
      }

  pub created_fits : (file : SettledFile) (from : Origin) → IsFit file → Each FitsAsAny (created session file from)
  created_fits file origin.Created is = (fits kind.Create file [] [] [] is none none (omega arith), tt)
  created_fits file _ is = tt

  pub received_fits : (file : SettledFile) (from : Origin) → IsFit file → Each FitsAsAny (received session file from)
  received_fits file origin.Received is = (fits kind.Receive file [] [] (unwrap_or session.given.file []) is none none fit.received, tt)
  received_fits file _ is = tt

  fork_fits : (parent : SettledFile) (children : List ℕ) → IsFit parent → AreFew children → Each FitsAsAny (fork_of session parent children)
  fork_fits parent [] is few = tt
  fork_fits parent (child ∷ children) is few =
      (fits kind.Fork parent (parent.number ∷ []) (child ∷ children) [] is (one parent.number is.number) few (omega arith), tt)

  joined_fits : (files : List SettledFile) → Each IsFit files → (file : SettledFile) (from : Origin) → IsFit file → length (parents_of from) ≤ FILES_MAX
      → Each FitsAsAny (joined session files file from)
  joined_fits files each file (origin.Joined parents) is few = (
    fits kind.Join file (ascending (map (number_at files) parents)) (file.number ∷ []) [] is (are_few_ascending files each parents few) (one file.number is.number) (omega arith),
    tt,
  )
  joined_fits files each file _ is few = tt

  clone_fits : (original : SettledFile) (clone : ℕ) → IsFit original → IsNumber clone → FitsAsAny (clone_event session original clone)
  clone_fits original clone is number =
      fits kind.Clone original (original.number ∷ []) (clone ∷ []) [] is (one original.number is.number) (one clone number) (omega arith)

  modified_fits : (file : SettledFile) (from : Origin) → IsFit file → Each FitsAsAny (modified session file from)
  modified_fits file (origin.Taken place) is = by (is_removed file.worked.end) file.worked.written
    where
      by : (gone written : Bool) → Each FitsAsAny (cond gone [] (cond written (alone session kind.ContentModified file [] ∷ []) []))
      by true written = tt
      by false true = (fits kind.ContentModified file [] [] [] is none none (omega arith), tt)
      by false false = tt
  modified_fits file _ is = tt

  attributes_fits : (file : SettledFile) (from : Origin) → IsFit file → Each FitsAsAny (attributes_modified session file from)
  attributes_fits file (origin.Taken place) is = by (is_removed file.worked.end || file.worked.written)
    where
      changed : (same : Bool) → Each FitsAsAny (cond same [] (alone session kind.AttributesModified file [] ∷ []))
      changed true = tt
      changed false = (fits kind.AttributesModified file [] [] [] is none none (omega arith), tt)

      by : (b : Bool) → Each FitsAsAny (cond b [] (option_map_or (λ (taken : QueuedFile). cond (same_attributes taken.attributes file.attributes) [] (alone session kind.AttributesModified file [] ∷ [])) (slice_get session.taken place) []))
      by true = tt
      by false = each_option (λ taken. Unit {0}) FitsAsAny _ (λ taken _. changed (same_attributes taken.attributes file.attributes)) session.taken (each_so (λ taken. Unit {0}) (λ taken. tt) session.taken) place
  attributes_fits file _ is = tt

  routed_fits : (file : SettledFile) (relationship : Option ℕ) → IsFit file → Each FitsAsAny (routed session file relationship)
  routed_fits file (Some relationship) is = (fits kind.Route file [] [] (relationship_at session.processor relationship) is none none (fit.relationships relationship), tt)
  routed_fits file None is = tt

  sent_fits : (files : List SettledFile) → Each IsFit files → (put : Option Sent) → IsShortlySent put → Each FitsAsAny (sent session files put)
  sent_fits files each (Some put) short =
      each_option IsFit FitsAsAny (λ file. alone session kind.Send file put.name ∷ []) (λ file is. (fits kind.Send file [] [] put.name is none none short, tt)) files each put.place
  sent_fits files each None short = tt

  dropped_fits : (file : SettledFile) (goes : Destination) → IsFit file → HasShortName goes → Each FitsAsAny (dropped session file goes)
  dropped_fits file (Drops relationship) is short = (fits kind.Drop file [] [] relationship is none none short, tt)
  dropped_fits file Leaves is short = (fits kind.Drop file [] [] [] is none none (omega arith), tt)
  dropped_fits file (Queues first others) is short = tt
  dropped_fits file Returns is short = tt

  -- ---- all of a kind

  module _ (files : List SettledFile) (each : Each IsFit files) (few : length files ≤ FILES_MAX) where
    pub forks_fit : Each FitsAsAny (forks session files)
    forks_fit = each_joined (λ (f : ℕ × SettledFile). IsFit f.1) FitsAsAny (λ f. fork_of session f.1 (forked_children files f.0))
        (λ f is. fork_fits f.1 (forked_children files f.0) is (are_few_children files each few f.0)) (enumerate_from 0 files) (each_placed IsFit 0 files each)

    pub clonings_fit : Each FitsAsAny (clonings session files)
    clonings_fit = each_joined (λ (f : ℕ × SettledFile). IsFit f.1) FitsAsAny (λ f. map (λ copy. clone_event session f.1 copy.number) (copies files f.0))
        (λ f is. each_made IsFit FitsAsAny (λ copy. clone_event session f.1 copy.number) (λ copy known. clone_fits f.1 copy.number is known.number) (copies files f.0)
        (each_filtered IsFit (λ file. is_cloned_from f.0 file.worked.origin) files each)) (enumerate_from 0 files) (each_placed IsFit 0 files each)

    pub clones_fit : (clones : List SettlementClone) → Each IsFitClone clones → Each FitsAsAny (clones_part session clones)
    clones_fit clones known = each_made IsFitClone FitsAsAny (λ clone. clone_event session clone.original clone.number) (λ clone is. clone_fits clone.original clone.number is.1 is.0) clones known

    -- what is told of each file alone
    each_file : (tell : SettledFile → List Draft) → ((file : SettledFile) → IsFit file → Each FitsAsAny (tell file)) → Each FitsAsAny (flat_map tell files)
    each_file tell fits = each_joined IsFit FitsAsAny tell fits files each

    pub all_fit : (put : Option Sent) → IsShortlySent put → (clones : List SettlementClone) → Each IsFitClone clones
        → Each FitsAsAny (first_part session files ++ forks session files ++ joined_part session files ++ clonings session files ++ modified_part session files
        ++ attributes_part session files ++ routed_part session files ++ sent session files put ++ clones_part session clones ++ dropped_part session files)
    all_fit put short clones known =
        let a = first_part session files in
        let b = forks session files in
        let c = joined_part session files in
        let d = clonings session files in
        let e = modified_part session files in
        let f = attributes_part session files in
        let g = routed_part session files in
        let h = sent session files put in
        let i = clones_part session clones in
        let j = dropped_part session files in
        each-append FitsAsAny (a ++ b ++ c ++ d ++ e ++ f ++ g ++ h ++ i) j
        (each-append FitsAsAny (a ++ b ++ c ++ d ++ e ++ f ++ g ++ h) i
        (each-append FitsAsAny (a ++ b ++ c ++ d ++ e ++ f ++ g) h
        (each-append FitsAsAny (a ++ b ++ c ++ d ++ e ++ f) g
        (each-append FitsAsAny (a ++ b ++ c ++ d ++ e) f
        (each-append FitsAsAny (a ++ b ++ c ++ d) e
        (each-append FitsAsAny (a ++ b ++ c) d
        (each-append FitsAsAny (a ++ b) c
        (each-append FitsAsAny a b
        (each-append FitsAsAny (flat_map (λ file. created session file file.worked.origin) files) (flat_map (λ file. received session file file.worked.origin) files)
        (each_file (λ file. created session file file.worked.origin) (λ file is. created_fits file file.worked.origin is))
        (each_file (λ file. received session file file.worked.origin) (λ file is. received_fits file file.worked.origin is)))
        forks_fit)
        (each_file (λ file. joined session files file file.worked.origin) (λ file is. joined_fits files each file file.worked.origin is is.parents)))
        clonings_fit)
        (each_file (λ file. modified session file file.worked.origin) (λ file is. modified_fits file file.worked.origin is)))
        (each_file (λ file. attributes_modified session file file.worked.origin) (λ file is. attributes_fits file file.worked.origin is)))
        (each_file (λ file. routed session file file.worked.routed) (λ file is. routed_fits file file.worked.routed is)))
        (sent_fits files each put short))
        (clones_fit clones known))
        (each_file (λ file. dropped session file file.goes) (λ file is. dropped_fits file file.goes is is.goes))
