-- What a session that took one file is as it begins.
use Rattle.std.proofs.Common.{◌≡◌, ℕ, ◌≤◌, List, [], ◌∷◌, length, None, Some, sym, ◌∙◌, ap, subst, arith}
use Rattle.std.proofs.lemmas.List.Elements.{All-head}
use Rattle.flowfile_record.specs.declared.TheConstants.{CONTENT_MAX}
use Rattle.machine_model.specs.Kinds.{relationships_of, take_rule_of}
use Rattle.machine_model.specs.declared.given.Given.{Given}
use Rattle.machine_model.specs.declared.kind.Kind.{Kind}
use Rattle.machine_model.specs.declared.kind.TakeRule.TheVariants.{One}
use Rattle.process_session.specs.Bench.{Bench, HasItsSize, IsWhole, bench_of, bench_bytes}
use Rattle.process_session.specs.declared.file.Taken.{Taken}
use Rattle.processor_api.specs.Acts.{AreRead, Begins}
use Rattle.processor_api.specs.Sessions.{BeganWithOne}
use Rattle.processor_api.proofs.Began.{one-begins}

pub began-relationships : (kind : Kind) (bench : Bench) (given : Given) → Begins kind bench given → bench.relationships ≡ length (relationships_of kind)
began-relationships kind bench given begins = ap (λ (b : Bench). b.relationships) begins.begun

pub began-one : (kind : Kind) (bench : Bench) (given : Given) → take_rule_of kind ≡ One → Begins kind bench given → BeganWithOne bench
began-one kind bench given rule begins =
    let one = one-begins kind bench given rule begins in
    record { taken = one.0; begun = one.1 ∙ ap (λ n. bench_of n (one.0 ∷ [])) (sym (began-relationships kind bench given begins)) }

-- its content is no longer than one may be
pub content-short : (kind : Kind) (bench : Bench) (given : Given) (content : List ℕ) → Begins kind bench given → bench_bytes bench 0 ≡ Some content → length content ≤ CONTENT_MAX
content-short kind bench given content begins shown = of_taken begins.taken begins.begun begins.handed.read
  where
    of_taken : (taken : List Taken) → bench ≡ bench_of (length (relationships_of kind)) taken → AreRead taken → length content ≤ CONTENT_MAX
    of_taken [] is read = absurd (let no : None ≡ Some content = sym (ap (λ b. bench_bytes b 0) is) ∙ shown in cc)
    of_taken (one ∷ more) is read =
        let same : one.bytes ≡ Some content = sym (ap (λ b. bench_bytes b 0) is) ∙ shown in
        let sized : length content ≡ one.size = subst (λ bytes. HasItsSize bytes one.size) same (All-head IsWhole one more read.whole) in
        let small : one.size ≤ CONTENT_MAX = All-head (λ (file : Taken). file.size ≤ CONTENT_MAX) one more read.small in
        omega (arith, sized, small)
