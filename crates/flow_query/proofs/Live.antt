-- The live file of an identifier.
use Rattle.std.proofs.Common.{◌≡◌, ℕ, Bool, List, [], ◌∷◌, Ok, Option, None, Some, refl, sym, ap, subst, ◌∙◌, inl, inr}
use Rattle.std.specs.Prelude.{Contains}
use Rattle.disk_trait.specs.Files.{Files}
use Rattle.flowfile_record.specs.Identifier.{identifier}
use Rattle.flowfile_record.specs.declared.stored.ActiveFile.{ActiveFile}
use Rattle.content_repo.specs.Claims.{content_in}
use Rattle.machine_model.specs.Files.{queue_at}
use Rattle.machine_model.specs.State.{QueuedFile, State}
use Rattle.machine_model.proofs.Among.{Among, among_contained, contains_among}
use Rattle.store_core.specs.Seen.{no_flow, SeenState, kept_seen, live_file, IsSeenOn, IsContentRead, HasContent}
use Rattle.store_core.specs.State.{stands_for}
use Rattle.store_core.proofs.Seeing.{state_is, item_absent}
use Rattle.store_core.proofs.Validity.{queued_is_live}
use Rattle.flow_query.specs.Answers.{IsAbsent, IsContentOfId}
use Rattle.flow_query.specs.Parts.{IsFileOfId, HasNoFile}
use Rattle.flow_query.specs.declared.asking.Query.TheVariants as query
use Rattle.flow_query.proofs.Known.{known}

-- the files of an identifier are among those that are left
pub record IsFileLeft (store : ℕ) (id : List ℕ) (files left : List ActiveFile) : Type 0 where
  pub only : (a : ActiveFile) → Among a files → identifier store a.file.number ≡ id → Among a left
  pub within : (a : ActiveFile) → Among a left → Among a files

module _ (store : ℕ) (id : List ℕ) (files : List ActiveFile) where
  pub files_all : (left : List ActiveFile) → left ≡ files → IsFileLeft store id files left
  files_all left is = record { only = λ a there same. subst (Among a) (sym is) there; within = λ a there. subst (Among a) is there }

  pub files_more : (left rest : List ActiveFile) (x : ActiveFile) → left ≡ x ∷ rest → (identifier store x.file.number ≡ id → ⊥) → IsFileLeft store id files left → IsFileLeft store id files rest
  files_more left rest x is other some = record {
    only = λ a there same. by a same (subst (Among a) is (some.only a there same));
    within = λ a there. some.within a (subst (Among a) (sym is) (inr there));
  }
    where
      by : (a : ActiveFile) → identifier store a.file.number ≡ id → Among a (x ∷ rest) → Among a rest
      by a same (inl one) = absurd (other (ap (λ (y : ActiveFile). identifier store y.file.number) one ∙ same))
      by a same (inr later) = later

  pub files_has : (left rest : List ActiveFile) (x : ActiveFile) → left ≡ x ∷ rest → IsFileLeft store id files left → Contains files x
  files_has left rest x is some = contains_among x files (some.within x (subst (Among x) (sym is) (inl refl)))

  pub files_none : (left : List ActiveFile) (a : ActiveFile) → left ≡ [] → IsFileLeft store id files left → Contains files a → identifier store a.file.number ≡ id → ⊥
  files_none left a none some there same = subst (Among a) none (some.only a (among_contained a files there) same)

-- where no live file has an identifier, no queued one has
pub none_queued : (files : Files) (s : SeenState) (state : State) (id : List ℕ) → IsSeenOn files s → stands_for no_flow 0 files ≡ Ok state → HasNoFile id (kept_seen s) → IsAbsent (query.Content id) state
none_queued files s state id seen is none place file has same =
    let k = kept_seen s in
    let live = queued_is_live (content_in files) seen.events.events k place file (subst (λ (x : State). Contains (queue_at x place) file) (state_is files s state seen is) has) in
    none live.active live.there
    (ap (identifier k.store) (ap (λ (f : QueuedFile). f.number) live.is) ∙ ap (λ (n : ℕ). identifier n file.number) (sym (known files s state seen is).store) ∙ same)

-- a live file has a content
none_read : (tells : Bool) (files : Files) (found : Option ActiveFile) → IsContentRead tells files found None → found ≡ None
none_read tells files None read = refl
none_read tells files (Some active) read = absurd read

pub never_none : (tells : Bool) (files : Files) (s : SeenState) (id : List ℕ) (number : ℕ) (content : Option (List ℕ)) → IsFileOfId id (kept_seen s) number
    → content ≡ None → IsContentRead tells files (live_file number s) content → ⊥
never_none tells files s id number content file none read =
    item_absent number (kept_seen s).files file.active (none_read tells files (live_file number s) (subst (IsContentRead tells files (live_file number s)) none read)) file.there file.numbered

pub content_is : (files : Files) (s : SeenState) (state : State) (id : List ℕ) (number : ℕ) (bytes : List ℕ) → IsSeenOn files s → stands_for no_flow 0 files ≡ Ok state
    → IsFileOfId id (kept_seen s) number → HasContent number bytes state → IsContentOfId id state bytes
content_is files s state id number bytes seen is file content = record {
  number = number;
  identified = ap (λ (n : ℕ). identifier n number) (known files s state seen is).store ∙ file.identified;
  content = content;
}
