use Rattle.std.proofs.Common.{◌≡◌, ◌<◌, None, Some, get_or, length, sym, ◌∙◌, ap, arith}
use Rattle.std.specs.Option.{option_map}
use Rattle.machine_model.specs.Taking.{fragment_of}
use Rattle.machine_model.specs.Fragments.{fragment_seen}
use Rattle.proc_merge.proofs.Benches.{no_file}
use Rattle.proc_merge.proofs.Child.{some-files}
use Rattle.proc_merge.proofs.Parts.{first-decides}
use Rattle.proc_merge.proofs.Shared.{attributes-there}
use Rattle.proc_merge.proofs.fragments.are_fragments.Goals as goal

pub attributes_of-requires : goal.attributes_of-requires
attributes_of-requires c = omega (arith, some-files c.args.session.now c.requires)

pub returns-in-Some : goal.returns-in-Some
returns-in-Some c =
    let bench = c.args.session.now in
    let some : 0 < length bench.files = omega (arith, some-files bench c.requires) in
    let found : fragment_of (get_or bench.files 0 no_file).attributes ≡ Some (fragment_seen c.in-Some.first) =
    ap fragment_of (sym (c.attributes_of.ensures.attributes ∙ attributes-there bench 0 no_file some)) ∙ sym c.fragment_of.ensures ∙ ap (option_map fragment_seen) c.in-Some.is in
    c.are_fragments_of.ensures ∙ first-decides bench.files no_file (Some (fragment_seen c.in-Some.first)) some found

pub returns-in-None : goal.returns-in-None
returns-in-None c =
    let bench = c.args.session.now in
    let some : 0 < length bench.files = omega (arith, some-files bench c.requires) in
    let found : fragment_of (get_or bench.files 0 no_file).attributes ≡ None =
    ap fragment_of (sym (c.attributes_of.ensures.attributes ∙ attributes-there bench 0 no_file some)) ∙ sym c.fragment_of.ensures ∙ ap (option_map fragment_seen) c.in-None.is in
    first-decides bench.files no_file None some found
