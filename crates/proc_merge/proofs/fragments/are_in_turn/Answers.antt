use Rattle.std.proofs.Common.{◌+◌, ◌<◌, ◌≤◌, length, sym, ◌∙◌, ap, arith}
use Rattle.machine_model.specs.Taking.{fragment_of, is_fragment_at}
use Rattle.machine_model.specs.Fragments.{fragment_seen}
use Rattle.proc_merge.proofs.Benches.{no_file}
use Rattle.proc_merge.proofs.Parts.{in_turn, turn-breaks, turn-goes-on}
use Rattle.proc_merge.proofs.Reading.{as-many, drop-past}
use Rattle.proc_merge.proofs.Shared.{attributes-there}
use Rattle.proc_merge.proofs.fragments.are_in_turn.Goals as goal

pub attributes_of-requires : goal.attributes_of-requires
attributes_of-requires c = omega (arith, c.loop-place-test.true, c.taken-place-end.ensures, as-many c.args.session.now c.requires)

pub returns-then-not-is_fragment_at : goal.returns-then-not-is_fragment_at
returns-then-not-is_fragment_at c =
    let bench = c.args.session.now in
    let place = c.loop-place.place in
    let within : place < length bench.files = omega (arith, c.loop-place-test.true, c.taken-place-end.ensures, as-many bench c.requires) in
    let attributes = c.attributes_of.ensures.attributes ∙ attributes-there bench place no_file within in
    let at = ap (λ n. is_fragment_at (fragment_seen c.args.fragment) (n + 1) (fragment_of c.attributes_of.result.now)) (sym c.from-index.ensures) in
    sym (c.loop-place.invariant
    ∙ turn-breaks (fragment_seen c.args.fragment) bench.files place no_file c.attributes_of.result.now within attributes (at ∙ sym c.is_fragment_at.ensures ∙ c.if-not-is_fragment_at.true))

pub loop-place-preserved : goal.loop-place-preserved
loop-place-preserved c =
    let bench = c.args.session.now in
    let place = c.loop-place.place in
    let within : place < length bench.files = omega (arith, c.loop-place-test.true, c.taken-place-end.ensures, as-many bench c.requires) in
    let attributes = c.attributes_of.ensures.attributes ∙ attributes-there bench place no_file within in
    let at = ap (λ n. is_fragment_at (fragment_seen c.args.fragment) (n + 1) (fragment_of c.attributes_of.result.now)) (sym c.from-index.ensures) in
    c.loop-place.invariant
    ∙ turn-goes-on (fragment_seen c.args.fragment) bench.files place no_file c.attributes_of.result.now within attributes (at ∙ sym c.is_fragment_at.ensures ∙ c.if-not-is_fragment_at.false)

pub returns : goal.returns
returns c =
    let bench = c.args.session.now in
    let place = c.loop-place.place in
    let long : length bench.files ≤ place = omega (arith, c.loop-place-test.false, c.taken-place-end.ensures, as-many bench c.requires) in
    sym (c.loop-place.invariant ∙ ap (in_turn (fragment_seen c.args.fragment) (place + 1)) (drop-past bench.files place long))
