-- The patterns of a processor's own properties.
use Rattle.std.proofs.Common.{◌≡◌, ℕ, Bool, true, false, List, [], ◌∷◌, ◌++◌, map, All, Option, Some, None, unwrap_or, refl, sym, ap, ◌∙◌}
use Rattle.std.specs.List.{list_all, filter_map}
use Rattle.std.specs.Option.{option_map_or, option_or}
use Rattle.std.proofs.lemmas.Bool.{false≢true, true≢false}
use Rattle.std.proofs.lemmas.List.Elements.{All-nil, All-cons}
use Rattle.std.proofs.lemmas.Option.{none-some}
use Rattle.serde_json.specs.Data.{Data}
use Rattle.machine_model.specs.Sound.{MatchesWhole}
use Rattle.machine_model.specs.declared.flow.Processor.{Processor}
use Rattle.machine_model.specs.declared.kind.Kind.{Kind}
use Rattle.machine_model.specs.declared.kind.Kind.TheVariants as kind
use Rattle.machine_model.specs.declared.kind.OwnPattern.{OwnPattern}
use Rattle.flow_definition.specs.declared.field.Field.TheVariants.{Id, Tasks, Penalty, Terminated}
use Rattle.flow_definition.specs.declared.own_patterns.Attempt.{Attempt}
use Rattle.flow_definition.specs.declared.own_patterns.Attempt.TheVariants.{Read, Unread, TooBig}
use Rattle.flow_definition.specs.declared.processor_type.Own.TheVariants as own
use Rattle.flow_definition.specs.declared.processor_type.ProcessorType.{ProcessorType}
use Rattle.flow_definition.specs.declared.processor_type.ProcessorType.TheVariants as type
use Rattle.flow_definition.specs.declared.rule.Rule.{Rule}
use Rattle.flow_definition.specs.declared.rule.Rule.TheVariants.{BadPattern}
use Rattle.flow_definition.specs.Looks.{hold_patterns, member_names, names_at, own_in, own_properties_in, own_texts_in, type_of}
use Rattle.flow_definition.specs.OwnPatterns.{IsAttempt, AreAttempts, is_read, read_in, refusal_by, rule_by, too_big_in, unread_in, told_attempt, told_attempts}
use Rattle.flow_definition.specs.Patterns.{Told}
use Rattle.flow_definition.specs.Reading.{IsKindOf, IsProcessorOf, field_number, id_at, own_patterns, patterns_of, patterns_in, is_whole_in, requirement_in}
use Rattle.flow_definition.specs.Types.{own_of_type}
use Rattle.flow_definition.proofs.OwnProperties.{texts_named}

-- ---- one more

pub attempt_push : (R : Type 0) (whole : Bool) (ts : List (List ℕ × List ℕ)) (list : List Attempt) (t : List ℕ × List ℕ) (x : Attempt)
    → AreAttempts R whole ts list → IsAttempt R whole t x → AreAttempts R whole (ts ++ t ∷ []) (list ++ x ∷ [])
attempt_push R whole [] [] t x each one = (one, tt)
attempt_push R whole [] (y ∷ list) t x each one = absurd each
attempt_push R whole (s ∷ ts) [] t x each one = absurd each
attempt_push R whole (s ∷ ts) (y ∷ list) t x each one = (each.0, attempt_push R whole ts list t x each.1 one)

pub attempts_told : (R : Type 0) (whole : Bool) (n : Told) (ts : List (List ℕ × List ℕ)) (list : List Attempt) (t : List ℕ × List ℕ) (x : Attempt)
    → AreAttempts R whole ts list → told_attempts whole n (ts ++ t ∷ []) (list ++ x ∷ []) ≡ told_attempt whole (told_attempts whole n ts list) t x
attempts_told R whole n [] [] t x each = refl
attempts_told R whole n [] (y ∷ list) t x each = absurd each
attempts_told R whole n (s ∷ ts) [] t x each = absurd each
attempts_told R whole n (s ∷ ts) (y ∷ list) t x each = attempts_told R whole (told_attempt whole n s y) ts list t x each.1

pub attempt_later : (R S : Type 0) (whole : Bool) (t : List ℕ × List ℕ) (x : Attempt) → (R → S) → IsAttempt R whole t x → IsAttempt S whole t x
attempt_later R S whole t (Read own) f h = h
attempt_later R S whole t (Unread name) f h = h
attempt_later R S whole t (TooBig name) f h = (h.0, f h.1)

pub attempts_later : (R S : Type 0) (whole : Bool) (ts : List (List ℕ × List ℕ)) (list : List Attempt) → (R → S) → AreAttempts R whole ts list
    → AreAttempts S whole ts list
attempts_later R S whole [] [] f each = tt
attempts_later R S whole [] (x ∷ list) f each = absurd each
attempts_later R S whole (t ∷ ts) [] f each = absurd each
attempts_later R S whole (t ∷ ts) (x ∷ list) f each = (attempt_later R S whole t x f each.0, attempts_later R S whole ts list f each.1)

-- ---- each is read

pub all_read : (R : Type 0) (whole : Bool) (ts : List (List ℕ × List ℕ)) (list : List Attempt) → AreAttempts R whole ts list
    → list_all is_read list ≡ true → own_patterns (filter_map read_in list) ≡ patterns_of whole ts
all_read R whole [] [] each read = refl
all_read R whole [] (x ∷ list) each read = absurd each
all_read R whole (t ∷ ts) [] each read = absurd each
all_read R whole (t ∷ ts) (Read own ∷ list) each read =
    let later = all_read R whole ts list each.1 read in
    λ i. (each.0.0 i, each.0.1 i) ∷ later i
all_read R whole (t ∷ ts) (Unread name ∷ list) each read = absurd (false≢true read)
all_read R whole (t ∷ ts) (TooBig name ∷ list) each read = absurd (false≢true read)

pub none_told : (n : Told) (whole : Bool) (ts : List (List ℕ × List ℕ)) (list : List Attempt) → list_all is_read list ≡ true
    → told_attempts whole n ts list ≡ n
none_told n whole [] list read = refl
none_told n whole (t ∷ ts) [] read = refl
none_told n whole (t ∷ ts) (Read own ∷ list) read = none_told n whole ts list read
none_told n whole (t ∷ ts) (Unread name ∷ list) read = absurd (false≢true read)
none_told n whole (t ∷ ts) (TooBig name ∷ list) read = absurd (false≢true read)

-- where the count didn't rise, none is too big
pub none_big : (n : Told) (whole : Bool) (ts : List (List ℕ × List ℕ)) (list : List Attempt) → AreAttempts ⊥ whole ts list
    → told_attempts whole n ts list ≡ n
none_big n whole [] [] each = refl
none_big n whole [] (x ∷ list) each = absurd each
none_big n whole (t ∷ ts) [] each = absurd each
none_big n whole (t ∷ ts) (Read own ∷ list) each = none_big n whole ts list each.1
none_big n whole (t ∷ ts) (Unread name ∷ list) each = none_big n whole ts list each.1
none_big n whole (t ∷ ts) (TooBig name ∷ list) each = absurd each.0.1

-- where none is unread and not each is read, one is too big
pub some_big : (R : Type 0) (whole : Bool) (ts : List (List ℕ × List ℕ)) (list : List Attempt) → AreAttempts R whole ts list
    → list_all is_read list ≡ false → unread_in list ≡ None → R
some_big R whole [] [] each read none = absurd (true≢false read)
some_big R whole [] (x ∷ list) each read none = absurd each
some_big R whole (t ∷ ts) [] each read none = absurd each
some_big R whole (t ∷ ts) (Read own ∷ list) each read none = some_big R whole ts list each.1 read none
some_big R whole (t ∷ ts) (Unread name ∷ list) each read none = absurd (none-some _ (sym none))
some_big R whole (t ∷ ts) (TooBig name ∷ list) each read none = each.0.1

-- ---- patterns of which none is kept

pub unread_push : (list : List Attempt) (x : Attempt) → unread_in (list ++ x ∷ []) ≡ option_or (unread_in list) (unread_in (x ∷ []))
unread_push [] x = refl
unread_push (Read own ∷ list) x = unread_push list x
unread_push (Unread name ∷ list) x = refl
unread_push (TooBig name ∷ list) x = unread_push list x

pub too_big_push : (list : List Attempt) (x : Attempt) → too_big_in (list ++ x ∷ []) ≡ option_or (too_big_in list) (too_big_in (x ∷ []))
too_big_push [] x = refl
too_big_push (Read own ∷ list) x = too_big_push list x
too_big_push (Unread name ∷ list) x = too_big_push list x
too_big_push (TooBig name ∷ list) x = refl

refused_big : (unread : Option (List ℕ)) (name : List ℕ) → refusal_by unread (Some name) ≡ None → ⊥
refused_big (Some other) name none = none-some _ (sym none)
refused_big None name none = none-some _ (sym none)

pub not_refused : (list : List Attempt) → refusal_by (unread_in list) (too_big_in list) ≡ None → list_all is_read list ≡ true
not_refused [] none = refl
not_refused (Read own ∷ list) none = not_refused list none
not_refused (Unread name ∷ list) none = absurd (none-some _ (sym none))
not_refused (TooBig name ∷ list) none = absurd (refused_big (unread_in list) name none)

pub refused_some : (list : List Attempt) (refusal : Rule × List ℕ) → refusal_by (unread_in list) (too_big_in list) ≡ Some refusal
    → list_all is_read list ≡ false
refused_some [] refusal is = absurd (none-some _ is)
refused_some (Read own ∷ list) refusal is = refused_some list refusal is
refused_some (Unread name ∷ list) refusal is = refl
refused_some (TooBig name ∷ list) refusal is = refl

abbrev refusal_or : Option (Rule × List ℕ) → Rule × List ℕ
refusal_or refusal = unwrap_or refusal (BadPattern, [])

pub refused_by_name : (unread too_big : Option (List ℕ)) (refusal : Rule × List ℕ) → refusal_by unread too_big ≡ Some refusal
    → (refusal.0 ≡ rule_by unread) × (refusal.1 ≡ unwrap_or (option_or unread too_big) [])
refused_by_name (Some name) too_big refusal is = (ap (λ r. (refusal_or r).0) (sym is), ap (λ r. (refusal_or r).1) (sym is))
refused_by_name None (Some name) refusal is = (ap (λ r. (refusal_or r).0) (sym is), ap (λ r. (refusal_or r).1) (sym is))
refused_by_name None None refusal is = absurd (none-some _ is)

-- ---- the patterns as they are read

names_by_pairs : (list : List OwnPattern) → map (λ property. property.name) list ≡ map (λ t. t.0) (own_patterns list)
names_by_pairs [] = refl
names_by_pairs (x ∷ list) = ap (λ names. x.name ∷ names) (names_by_pairs list)

names_by_texts : (whole : Bool) (ts : List (List ℕ × List ℕ)) → map (λ t. t.0) (patterns_of whole ts) ≡ map (λ t. t.0) ts
names_by_texts whole [] = refl
names_by_texts whole (t ∷ ts) = ap (λ names. t.0 ∷ names) (names_by_texts whole ts)

pub pattern_names : (d : Data) (list : List OwnPattern) → own_patterns list ≡ patterns_in d
    → map (λ property. property.name) list ≡ member_names (own_properties_in d)
pattern_names d list is =
    names_by_pairs list ∙ ap (map (λ t. t.0)) is ∙ names_by_texts (is_whole_in d) (own_texts_in d) ∙ texts_named (own_properties_in d)

abbrev head_or : List (List ℕ × List ℕ) → List ℕ × List ℕ
head_or [] = ([], [])
head_or (x ∷ xs) = x

abbrev tail_of : List (List ℕ × List ℕ) → List (List ℕ × List ℕ)
tail_of [] = []
tail_of (x ∷ xs) = xs

match_all : (ts : List (List ℕ × List ℕ)) (list : List OwnPattern) → own_patterns list ≡ patterns_of true ts
    → All (λ property. MatchesWhole property.pattern) list
match_all ts [] is = All-nil (λ property. MatchesWhole property.pattern)
match_all [] (x ∷ list) is = absurd (cc)
match_all (t ∷ ts) (x ∷ list) is =
    All-cons (λ property. MatchesWhole property.pattern) x list (t.1, ap (λ ps. (head_or ps).1) is) (match_all ts list (ap tail_of is))

pub whole_matched : (d : Data) (list : List OwnPattern) → is_whole_in d ≡ true → own_patterns list ≡ patterns_in d
    → All (λ property. MatchesWhole property.pattern) list
whole_matched d list whole is = match_all (own_texts_in d) list (is ∙ ap (λ b. patterns_of b (own_texts_in d)) whole)

-- ---- a processor whose own patterns are all read

pub kind_held : (d : Data) (list : List OwnPattern) → hold_patterns (own_in d) ≡ true → own_patterns list ≡ patterns_in d
    → (k : Kind) × IsKindOf d k
kind_held d list held is = by_type (type_of d) refl held where
  by_type : (t : Option ProcessorType) → type_of d ≡ t → hold_patterns (option_map_or own_of_type t own.Nothing) ≡ true → (k : Kind) × IsKindOf d k
  by_type None typed none = absurd (false≢true none)
  by_type (Some type.GetFile) typed none = absurd (false≢true none)
  by_type (Some type.GenerateFlowFile) typed none = absurd (false≢true none)
  by_type (Some type.PutFile) typed none = absurd (false≢true none)
  by_type (Some type.UpdateAttribute) typed none = absurd (false≢true none)
  by_type (Some type.RouteOnAttribute) typed none = absurd (false≢true none)
  by_type (Some type.AttributesToJson) typed none = absurd (false≢true none)
  by_type (Some type.DuplicateFlowFile) typed none = absurd (false≢true none)
  by_type (Some type.CryptographicHashContent) typed none = absurd (false≢true none)
  by_type (Some type.SplitText) typed none = absurd (false≢true none)
  by_type (Some type.ReplaceText) typed none = absurd (false≢true none)
  by_type (Some type.ExtractText) typed some = (kind.ExtractText list, (typed, is))
  by_type (Some type.RouteOnContent) typed some = (kind.RouteOnContent (requirement_in d) list, (typed, refl, is))
  by_type (Some type.MergeContent) typed none = absurd (false≢true none)
  by_type (Some type.SegmentContent) typed none = absurd (false≢true none)
  by_type (Some type.ModifyBytes) typed none = absurd (false≢true none)

pub processor_held : (d : Data) (list : List OwnPattern) → hold_patterns (own_in d) ≡ true → own_patterns list ≡ patterns_in d
    → (p : Processor) × IsProcessorOf d p
processor_held d list held is =
    let read = kind_held d list held is in (
      record {
        id = id_at Id d;
        kind = read.0;
        tasks = field_number Tasks d;
        penalty = field_number Penalty d;
        terminated = names_at Terminated d;
      },
      record { id = refl; kind = read.1; tasks = refl; penalty = refl; terminated = refl },
    )
