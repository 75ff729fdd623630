-- That the parts of a session's files can be told in an entry: attributes, moments, and fresh contents.
use Rattle.std.proofs.Common.{◌≡◌, inl, ℕ, zero, suc, ◌+◌, ◌^◌, ◌<◌, ◌≤◌, Bool, true, false, cond, List, [], ◌∷◌, ◌++◌, map, length, refl, ap, arith}
use Rattle.std.specs.Prelude.{IfSome, codes, fold, slice_index}
use Rattle.std.specs.FinMap.{contains_key, insert}
use Rattle.std.proofs.lemmas.Str.{IsUtf8-from_ascii}
use Rattle.uuid.specs.Text.{lower}
use Rattle.uuid.proofs.TextLemmas.{hyphenated_ascii}
use Rattle.flowfile_record.specs.Attributes.{AttributeMap, IsPair, IsWithinLimits, encoded_size}
use Rattle.flowfile_record.specs.Identifier.{identifier}
use Rattle.flowfile_record.specs.Outcome.{IsBodyOver, IsWorked, is_made}
use Rattle.flowfile_record.specs.Shared.{own_bytes}
use Rattle.flowfile_record.specs.declared.TheConstants.{CONTENT_MAX}
use Rattle.flowfile_record.specs.declared.limits.TheConstants.{FILENAME_SIZE}
use Rattle.flowfile_record.specs.declared.worked.Body.{Body}
use Rattle.flowfile_record.specs.declared.worked.Body.TheVariants.{Whole, Part, New}
use Rattle.flowfile_record.specs.declared.worked.Origin.{Origin}
use Rattle.flowfile_record.specs.declared.worked.Origin.TheVariants as origin
use Rattle.flowfile_record.specs.declared.worked.Worked.{Worked}
use Rattle.machine_model.specs.Placing.{entered_by, entered_in, least, penalty_end_of, uuid_text, with_filename}
use Rattle.machine_model.proofs.OneOutcome.{insert-pairs, insert-size, literal}
use Rattle.machine_model.proofs.Tally.{Each, each-append}
use Rattle.settlement.specs.Contents.{fresh_in}
use Rattle.settlement.proofs.NameRoom.{name_size, named_fits}

-- ---- attributes

-- attributes behind a session: within limits, and no larger than with a name
pub record IsNamed (worked : Worked) (attributes : AttributeMap) : Type 0 where
  pub limits : IsWithinLimits attributes
  pub size : encoded_size attributes ≤ encoded_size worked.attributes + FILENAME_SIZE

name_pair : (store number : ℕ) → IsPair (codes "filename", uuid_text store number)
name_pair store number = record {
  key = refl;
  key_text = literal (codes "filename") refl;
  value_text = IsUtf8-from_ascii (uuid_text store number) (hyphenated_ascii lower (identifier store number) (inl refl));
}

made_named : (relationships : ℕ) (sizes : List ℕ) (store number : ℕ) (worked : Worked) → IsWorked relationships sizes worked → is_made worked.origin ≡ true
    → IsNamed worked (cond (contains_key worked.attributes (codes "filename")) worked.attributes (insert worked.attributes (codes "filename") (uuid_text store number)))
made_named relationships sizes store number worked is made =
    elim (contains_key worked.attributes (codes "filename")) as (λ b. contains_key worked.attributes (codes "filename") ≡ b
    → IsNamed worked (cond b worked.attributes (insert worked.attributes (codes "filename") (uuid_text store number)))) [
      | true ↦ λ has. record { limits = is.attributes; size = omega arith }
      | false ↦ λ lacks. record {
        limits = record {
          pairs = insert-pairs worked.attributes (codes "filename") (uuid_text store number) (name_pair store number) is.attributes.pairs;
          size = named_fits worked.origin worked.attributes store number made lacks is.named;
        };
        size = omega (arith, insert-size worked.attributes (codes "filename") (uuid_text store number), name_size store number);
      }
    ] refl

pub named-within : (relationships : ℕ) (sizes : List ℕ) (store number : ℕ) (worked : Worked) (from : Origin) → worked.origin ≡ from → IsWorked relationships sizes worked
    → IsNamed worked (with_filename from store number worked.attributes)
named-within relationships sizes store number worked (origin.Taken of) same is = record { limits = is.attributes; size = omega arith }
named-within relationships sizes store number worked origin.Created same is = made_named relationships sizes store number worked is (ap is_made same)
named-within relationships sizes store number worked origin.Received same is = made_named relationships sizes store number worked is (ap is_made same)
named-within relationships sizes store number worked (origin.Forked of) same is = made_named relationships sizes store number worked is (ap is_made same)
named-within relationships sizes store number worked (origin.Part of) same is = made_named relationships sizes store number worked is (ap is_made same)
named-within relationships sizes store number worked (origin.Cloned of) same is = made_named relationships sizes store number worked is (ap is_made same)
named-within relationships sizes store number worked (origin.Joined of) same is = made_named relationships sizes store number worked is (ap is_made same)

-- ---- moments

abbrev pub AreMoments : List ℕ → Type 0
AreMoments moments = Each (λ moment. moment < 2 ^ 64) moments

moment_at : (moments : List ℕ) (place : ℕ) → AreMoments moments → slice_index moments place < 2 ^ 64
moment_at [] place all = omega arith
moment_at (moment ∷ moments) zero all = all.0
moment_at (moment ∷ moments) (suc place) all = moment_at moments place all.1

moments_at : (moments places : List ℕ) → AreMoments moments → AreMoments (map (slice_index moments) places)
moments_at moments [] all = tt
moments_at moments (place ∷ places) all = (moment_at moments place all, moments_at moments places all)

least_moment : (moments : List ℕ) → AreMoments moments → least moments < 2 ^ 64
least_moment [] all = omega arith
least_moment (moment ∷ []) all = all.0
least_moment (moment ∷ next ∷ moments) all = omega (arith, all.0, least_moment (next ∷ moments) all.1)

entered_moment : (moment : ℕ) (taken before : List ℕ) (from : Origin) → moment < 2 ^ 64 → AreMoments taken → AreMoments before → entered_by moment taken before from < 2 ^ 64
entered_moment moment taken before (origin.Taken place) now own all = moment_at taken place own
entered_moment moment taken before origin.Created now own all = now
entered_moment moment taken before origin.Received now own all = now
entered_moment moment taken before (origin.Forked parent) now own all = moment_at before parent all
entered_moment moment taken before (origin.Part parent) now own all = moment_at before parent all
entered_moment moment taken before (origin.Cloned parent) now own all = moment_at before parent all
entered_moment moment taken before (origin.Joined parents) now own all = least_moment (map (slice_index before) parents) (moments_at before parents all)

folded_moments : (moment : ℕ) (taken before : List ℕ) (files : List Worked) → moment < 2 ^ 64 → AreMoments taken → AreMoments before
    → AreMoments (fold (λ before (file : Worked). before ++ entered_by moment taken before file.origin ∷ []) before files)
folded_moments moment taken before [] now own all = all
folded_moments moment taken before (file ∷ files) now own all =
    folded_moments moment taken (before ++ entered_by moment taken before file.origin ∷ []) files now own
    (each-append (λ (moment : ℕ). moment < 2 ^ 64) before (entered_by moment taken before file.origin ∷ []) all (entered_moment moment taken before file.origin now own all, tt))

pub entered-moments : (moment : ℕ) (taken : List ℕ) (files : List Worked) → moment < 2 ^ 64 → AreMoments taken → AreMoments (entered_in moment taken files)
entered-moments moment taken files now own = folded_moments moment taken [] files now own tt

pub penalty-moment : (penalised : Bool) (moment penalty : ℕ) → penalty_end_of penalised moment penalty < 2 ^ 64
penalty-moment true moment penalty = omega arith
penalty-moment false moment penalty = omega arith

-- ---- fresh contents

pub fresh-fits : (sizes : List ℕ) (body : Body) → IsBodyOver sizes body → IfSome (own_bytes (fresh_in body)) (λ bytes. length bytes ≤ CONTENT_MAX)
fresh-fits sizes (Whole of) over = tt
fresh-fits sizes (Part of offset size) over = tt
fresh-fits sizes (New bytes) over = over
