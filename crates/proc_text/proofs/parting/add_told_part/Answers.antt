use Rattle.std.proofs.Common.{◌≡◌, ℕ, ◌+◌, List, ◌∷◌, drop, length, map, None, Ok, ◌∙◌, ap, subst, arith}
use Rattle.std.specs.Prelude.{Option}
use Rattle.std.proofs.lemmas.List.{drop_all}
use Rattle.flowfile_record.specs.declared.attributes.Put.{Put}
use Rattle.flowfile_record.specs.declared.worked.End.TheVariants.{Removed}
use Rattle.process_session.specs.Changes.{with_end}
use Rattle.process_session.specs.Refusals.{refusal_of_remove}
use Rattle.processor_api.proofs.Answered.{answer_of, changed_so, never_refused}
use Rattle.proc_text.specs.Parting.{IsAnswered, pair_told}
use Rattle.proc_text.proofs.Telling.{MayAdd, Pair, accepted, next-pair, none-begun, none-is, refused, some-is, telling-begins, telling-ends, telling-more, telling-next, telling-refused, telling-removes, unchanged}
use Rattle.proc_text.proofs.parting.add_told_part.Goals as goal

pub returns-in_default : goal.returns-in_default
returns-in_default c =
    let may : MayAdd c.args.session.now c.args.offset c.args.size = record { taken = c.requires.taken; few = c.requires.few; unwritten = c.requires.unwritten; fits = c.requires.inside } in
    let answered : IsAnswered c.clone_range.result None = subst (λ (o : Option ℕ). IsAnswered c.clone_range.result o) c.in_default.is c.in_ok-part.ensures in
    none-begun c.args.session.now c.clone_range.new.self c.args.offset c.args.size (map pair_told c.args.told.now) may (unchanged _ _ _ _ c.clone_range.ensures.after answered) (refused _ _ c.clone_range.ensures.refusal answered)

pub loop-attribute-init : goal.loop-attribute-init
loop-attribute-init c =
    let may : MayAdd c.args.session.now c.args.offset c.args.size = record { taken = c.requires.taken; few = c.requires.few; unwritten = c.requires.unwritten; fits = c.requires.inside } in
    let made : c.clone_range.result ≡ Ok c.in-Some.part = subst (λ (o : Option ℕ). IsAnswered c.clone_range.result o) c.in-Some.is c.in_ok-part.ensures in
    telling-begins c.args.session.now c.clone_range.new.self c.args.offset c.args.size (map pair_told c.args.told.now) may c.requires.keys
    (changed_so _ _ _ _ _ c.clone_range.ensures.after made) (accepted _ _ _ c.clone_range.ensures.refusal made)

pub unwrap-requires : goal.unwrap-requires
unwrap-requires c =
    let made : c.clone_range.result ≡ Ok c.in-Some.part = subst (λ (o : Option ℕ). IsAnswered c.clone_range.result o) c.in-Some.is c.in_ok-part.ensures in
    let last : c.in-Some.part ≡ length c.args.session.now.files = answer_of (λ place. place ≡ length c.args.session.now.files) _ _ c.clone_range.ensures.place made in
    let none = none-is c.in_ok-unless_refused.field-0 c.is_none.result c.is_none.ensures c.if-is_none.true in
    let answered : IsAnswered c.put_attribute-put.result None = subst (λ (o : Option Put). IsAnswered c.put_attribute-put.result o) none c.in_ok-unless_refused.ensures in
    let left = map pair_told (drop c.loop-attribute.attribute-index c.args.told.now) in
    never_refused _ _ c.remove.ensures.refusal
    (ap (λ b. refusal_of_remove b c.in-Some.part) (unchanged _ _ _ _ c.put_attribute-put.ensures.after answered)
    ∙ telling-removes c.args.session.now c.loop-attribute.session c.args.offset c.args.size (map pair_told c.args.told.now) left c.in-Some.part c.loop-attribute.invariant last)

pub returns-then-is_none : goal.returns-then-is_none
returns-then-is_none c =
    let base = c.args.session.now in
    let now = c.loop-attribute.session in
    let told = c.args.told.now in
    let index = c.loop-attribute.attribute-index in
    let one = c.attribute-item.result in
    let pairs : List Pair = map pair_told told in
    let left : List Pair = map pair_told (drop index told) in
    let rest : List Pair = map pair_told (drop (index + 1) told) in
    let pair : Pair = (one.name.now, c.as_str.result.now) in
    let may : MayAdd base c.args.offset c.args.size = record { taken = c.requires.taken; few = c.requires.few; unwritten = c.requires.unwritten; fits = c.requires.inside } in
    let made : c.clone_range.result ≡ Ok c.in-Some.part = subst (λ (o : Option ℕ). IsAnswered c.clone_range.result o) c.in-Some.is c.in_ok-part.ensures in
    let last : c.in-Some.part ≡ length base.files = answer_of (λ place. place ≡ length base.files) _ _ c.clone_range.ensures.place made in
    let are : left ≡ pair ∷ rest = next-pair told index one c.as_str.result.now c.loop-attribute-test.true c.attribute-item.is c.as_str.ensures.value in
    let step = telling-next base now c.args.offset c.args.size pairs left rest pair c.in-Some.part may c.loop-attribute.invariant are last in
    let none = none-is c.in_ok-unless_refused.field-0 c.is_none.result c.is_none.ensures c.if-is_none.true in
    let answered : IsAnswered c.put_attribute-put.result None = subst (λ (o : Option Put). IsAnswered c.put_attribute-put.result o) none c.in_ok-unless_refused.ensures in
    telling-refused base now c.remove.new.self c.args.offset c.args.size pairs left rest pair c.in-Some.part c.loop-attribute.invariant step last
    (refused _ _ c.put_attribute-put.ensures.refusal answered)
    (changed_so _ _ _ _ _ c.remove.ensures.after c.unwrap.ensures ∙ ap (λ b. with_end b c.in-Some.part Removed) (unchanged _ _ _ _ c.put_attribute-put.ensures.after answered))

pub loop-attribute-preserved : goal.loop-attribute-preserved
loop-attribute-preserved c =
    let base = c.args.session.now in
    let now = c.loop-attribute.session in
    let told = c.args.told.now in
    let index = c.loop-attribute.attribute-index in
    let one = c.attribute-item.result in
    let pairs : List Pair = map pair_told told in
    let left : List Pair = map pair_told (drop index told) in
    let rest : List Pair = map pair_told (drop (index + 1) told) in
    let pair : Pair = (one.name.now, c.as_str.result.now) in
    let may : MayAdd base c.args.offset c.args.size = record { taken = c.requires.taken; few = c.requires.few; unwritten = c.requires.unwritten; fits = c.requires.inside } in
    let made : c.clone_range.result ≡ Ok c.in-Some.part = subst (λ (o : Option ℕ). IsAnswered c.clone_range.result o) c.in-Some.is c.in_ok-part.ensures in
    let last : c.in-Some.part ≡ length base.files = answer_of (λ place. place ≡ length base.files) _ _ c.clone_range.ensures.place made in
    let are : left ≡ pair ∷ rest = next-pair told index one c.as_str.result.now c.loop-attribute-test.true c.attribute-item.is c.as_str.ensures.value in
    let step = telling-next base now c.args.offset c.args.size pairs left rest pair c.in-Some.part may c.loop-attribute.invariant are last in
    let some = some-is c.in_ok-unless_refused.field-0 c.is_none.result c.is_none.ensures c.if-is_none.false in
    let put : c.put_attribute-put.result ≡ Ok some.0 = subst (λ (o : Option Put). IsAnswered c.put_attribute-put.result o) some.1 c.in_ok-unless_refused.ensures in
    telling-more base now c.put_attribute-put.new.self c.args.offset c.args.size pairs left rest pair c.in-Some.part c.loop-attribute.invariant step
    (accepted _ _ _ c.put_attribute-put.ensures.refusal put) (changed_so _ _ _ _ _ c.put_attribute-put.ensures.after put)

pub returns : goal.returns
returns c =
    let told = c.args.told.now in
    let index = c.loop-attribute.attribute-index in
    telling-ends c.args.session.now c.loop-attribute.session c.args.offset c.args.size (map pair_told told) (map pair_told (drop index told)) c.loop-attribute.invariant
    (ap (map pair_told) (drop_all index told (omega (arith, c.loop-attribute-test.false))))
