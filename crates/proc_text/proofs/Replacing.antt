-- A ReplaceText makes what the machine makes.
use Rattle.std.proofs.Common.{◌≡◌, ℕ, ◌<◌, ◌≤◌, Bool, true, false, cond, List, [], ◌∷◌, ◌++◌, length, None, Option, Some, refl, sym, ◌∙◌, ap, subst, arith, length-append}
use Rattle.std.specs.Prelude.{nat_le, option_map}
use Rattle.std.specs.Str.{is_utf8}
use Rattle.std.proofs.lemmas.Bool.{leb-true, lt-leb}
use Rattle.flowfile_record.specs.Attributes.{AttributeMap}
use Rattle.flowfile_record.specs.declared.TheConstants.{CONTENT_MAX}
use Rattle.flowfile_record.specs.declared.worked.Outcome.{Outcome}
use Rattle.machine_model.specs.Acting.{act}
use Rattle.machine_model.specs.AttributesToJson.{written_on}
use Rattle.machine_model.specs.Making.{TakenFile, alone, as_content, or_given_up, passed_on}
use Rattle.machine_model.specs.ReplaceText.{replaced_content, text_replaced}
use Rattle.machine_model.specs.declared.given.Given.{Given}
use Rattle.machine_model.specs.declared.kind.Kind.TheVariants.{ReplaceText}
use Rattle.machine_model.specs.declared.kind.Replacement.{Replacement}
use Rattle.process_session.specs.Bench.{Bench, bench_attributes, bench_bytes}
use Rattle.process_session.specs.Finish.{outcome_of}
use Rattle.processor_api.specs.Acts.{Begins, EndsAs}
use Rattle.processor_api.proofs.Began.{one-acts, taken-attributes, taken-content}
use Rattle.processor_api.specs.Sessions.{EndsWith}

-- ---- what is too long for a content, and what isn't

pub past-content : (front back whole : List ℕ) → front ++ back ≡ whole → CONTENT_MAX < length front → None ≡ as_content whole
past-content front back whole is long =
    let more = length-append front back in
    let same : length (front ++ back) ≡ length whole = ap length is in
    let past : CONTENT_MAX < length whole = omega (arith, more, same, long) in
    let over : nat_le (length whole) CONTENT_MAX ≡ false = lt-leb (length whole) CONTENT_MAX past in
    rw over refl

pub in-text : (replacement : Replacement) (content : List ℕ) → is_utf8 content ≡ true → as_content (text_replaced replacement content) ≡ replaced_content replacement content
in-text replacement content is = rw is refl

pub not-in-text : (replacement : Replacement) (content : List ℕ) → is_utf8 content ≡ false → None ≡ replaced_content replacement content
not-in-text replacement content isnt = rw isnt refl

pub content-fits : (replacement : Replacement) (content bytes : List ℕ) → replaced_content replacement content ≡ Some bytes → length bytes ≤ CONTENT_MAX
content-fits replacement content bytes made = of_tests (is_utf8 content) (nat_le (length text) CONTENT_MAX) refl made
  where
    text : List ℕ
    text = text_replaced replacement content

    of_tests : (utf8 short : Bool) → nat_le (length text) CONTENT_MAX ≡ short → cond utf8 (cond short (Some text) None) None ≡ Some bytes → length bytes ≤ CONTENT_MAX
    of_tests false short short-is is = absurd (let no : None ≡ Some bytes = is in cc)
    of_tests true false short-is is = absurd (let no : None ≡ Some bytes = is in cc)
    of_tests true true short-is is =
        let same : text ≡ bytes = cc in
        subst (λ bytes. length bytes ≤ CONTENT_MAX) same (leb-true (length text) CONTENT_MAX short-is)

-- ---- the processor

-- the taken file with these bytes to success, or where they are none, as it was to failure
abbrev pub replaced_with : AttributeMap → Option (List ℕ) → Outcome
replaced_with attributes (Some bytes) = alone (written_on attributes bytes)
replaced_with attributes None = alone (passed_on 0 attributes false 1)

replaced-up : (file : TakenFile) (content : Option (List ℕ)) → or_given_up 1 (file ∷ []) (option_map (λ bytes. alone (written_on file.attributes bytes)) content) ≡ replaced_with file.attributes content
replaced-up file None = refl
replaced-up file (Some bytes) = refl

pub text-acts : (replacement : Replacement) (before : Bench) (given : Given) (after : Bench) (content : List ℕ) (made : Option (List ℕ)) → Begins (ReplaceText replacement) before given → bench_bytes before 0 ≡ Some content
    → replaced_content replacement content ≡ made → EndsWith before after (replaced_with (bench_attributes before 0) made) → EndsAs (ReplaceText replacement) before given after
text-acts replacement before given after content made begins shown is ends =
    one-acts (ReplaceText replacement) before given after refl begins ends.finished ends.kept
    (λ taken file began alike. of_file file (taken-attributes before taken file began alike) (taken-content before taken file content began alike shown))
  where
    of_file : (file : TakenFile) → file.attributes ≡ bench_attributes before 0 → file.bytes ≡ content → act (ReplaceText replacement) (file ∷ []) given ≡ Some (outcome_of after)
    of_file file attributes same =
        ap Some (replaced-up file (replaced_content replacement file.bytes)
        ∙ ap (λ b. replaced_with file.attributes (replaced_content replacement b)) same
        ∙ ap (replaced_with file.attributes) is
        ∙ ap (λ a. replaced_with a made) attributes ∙ sym ends.outcome)
