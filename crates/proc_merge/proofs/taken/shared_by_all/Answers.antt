use Rattle.std.proofs.Common.{◌<◌, ◌≤◌, length, sym, ◌∙◌, ap, subst, arith}
use Rattle.std.specs.List.{All}
use Rattle.std.proofs.lemmas.List.{take_all}
use Rattle.std.proofs.lemmas.List.Elements.{All-more}
use Rattle.flowfile_record.specs.Attributes.{encoded_size, shared}
use Rattle.flowfile_record.specs.declared.attributes.TheConstants.{ATTRIBUTES_MAX}
use Rattle.proc_merge.specs.Taken.{IsSmall}
use Rattle.proc_merge.proofs.Benches.{no_file}
use Rattle.proc_merge.proofs.Child.{some-files}
use Rattle.proc_merge.proofs.Reading.{as-many, drop-past}
use Rattle.proc_merge.proofs.Shared.{attributes-there, shared-more, shared_with}
use Rattle.proc_merge.proofs.taken.shared_by_all.Goals as goal

pub attributes_of-requires : goal.attributes_of-requires
attributes_of-requires c = omega (arith, some-files c.args.session.now c.requires)

pub attributes_of-requires-in-loop-place : goal.attributes_of-requires-in-loop-place
attributes_of-requires-in-loop-place c = omega (arith, c.loop-place-test.true, c.taken-place-end.ensures, as-many c.args.session.now c.requires)

pub loop-place-preserved : goal.loop-place-preserved
loop-place-preserved c =
    let bench = c.args.session.now in
    let place = c.loop-place.place in
    let within : place < length bench.files = omega (arith, c.loop-place-test.true, c.taken-place-end.ensures, as-many bench c.requires) in
    let attributes = c.attributes_of-in-loop-place.ensures.attributes ∙ attributes-there bench place no_file within in
    let limits = c.attributes_of-in-loop-place.ensures.limits in
    record {
      same = c.loop-place.invariant.same
          ∙ shared-more c.loop-place.shared c.keep_shared.new.self bench.files place no_file within (c.keep_shared.ensures ∙ ap (shared c.loop-place.shared) attributes);
      small = All-more IsSmall bench.files place no_file within c.loop-place.invariant.small (subst (λ a. encoded_size a ≤ ATTRIBUTES_MAX) attributes limits);
    }

pub returns-clause-shared : goal.returns-clause-shared
returns-clause-shared c =
    let bench = c.args.session.now in
    let place = c.loop-place.place in
    let long : length bench.files ≤ place = omega (arith, c.loop-place-test.false, c.taken-place-end.ensures, as-many bench c.requires) in
    sym (c.loop-place.invariant.same ∙ ap (shared_with c.loop-place.shared) (drop-past bench.files place long))

pub returns-clause-limits : goal.returns-clause-limits
returns-clause-limits c =
    let bench = c.args.session.now in
    let place = c.loop-place.place in
    let long : length bench.files ≤ place = omega (arith, c.loop-place-test.false, c.taken-place-end.ensures, as-many bench c.requires) in
    subst (All IsSmall) (take_all place bench.files long) c.loop-place.invariant.small
