use Rattle.std.proofs.Common.{false, true, length, sym, ◌∙◌, ap, subst}
use Rattle.std.specs.Option.{option_map}
use Rattle.machine_model.specs.Making.{with_set}
use Rattle.machine_model.specs.MergeContent.{counted, named_as_whole, without_fragment}
use Rattle.process_session.specs.Bench.{bench_attributes}
use Rattle.std.specs.Prelude.{codes}
use Rattle.proc_merge.specs.Joining.{IsDescribed, described, of_parents}
use Rattle.proc_merge.proofs.Described.{IsNamed, count-described, name-refused, named-joined, no-fragment, ok-weaker, unnamed-joined}
use Rattle.proc_merge.proofs.describing.describe.Goals as goal
use Rattle.proc_merge.proofs.describing.describe.Goals.{in-Some+in_ok-set+else-not-branch, in_default}

pub set-requires-clause-joined : goal.set-requires-clause-joined
set-requires-clause-joined c = (no-fragment c.args.session.now c.remove_fragment.new.session c.args.file c.args.shared.now c.requires.joined c.requires.shared c.remove_fragment.ensures).joined

pub returns-then-not-branch : goal.returns-then-not-branch
returns-then-not-branch c =
    let bench = c.args.session.now in
    let now = c.remove_fragment.new.session in
    let none = no-fragment bench now c.args.file c.args.shared.now c.requires.joined c.requires.shared c.remove_fragment.ensures in
    let name = c.in-Some.name.now in
    let set : IsDescribed now c.set.new.session c.args.file (with_set of_parents (bench_attributes now c.args.file) (codes "filename", name)) false =
    subst (IsDescribed now c.set.new.session c.args.file (with_set of_parents (bench_attributes now c.args.file) (codes "filename", name))) c.if-not-branch.true c.in_ok-set.ensures in
    name-refused bench now c.set.new.session c.args.file c.args.strategy c.args.shared.now name (length bench.sources) c.requires.joined none
    (sym c.name_of_whole.ensures ∙ ap (option_map (λ n. n.now)) c.in-Some.is) set

pub count-requires : goal.count-requires
count-requires c =
    let bench = c.args.session.now in
    let now = c.remove_fragment.new.session in
    let file = c.args.file in
    let shared = c.args.shared.now in
    let wanted = named_as_whole c.args.strategy of_parents (without_fragment shared) in
    let none = no-fragment bench now file shared c.requires.joined c.requires.shared c.remove_fragment.ensures in
    let named : IsNamed bench c.match-name_of_whole.session file wanted =
    elim c.match-name_of_whole.branch [
      | in-Some+in_ok-set+else-not-branch w ↦
          let name = w.in-Some.name.now in
          let set : IsDescribed now w.set.new.session file (with_set of_parents (bench_attributes now file) (codes "filename", name)) true =
          subst (IsDescribed now w.set.new.session file (with_set of_parents (bench_attributes now file) (codes "filename", name))) w.if-not-branch.false w.in_ok-set.ensures in
          subst (λ s. IsNamed bench s file wanted) (sym w.session-is)
          (named-joined bench now w.set.new.session file c.args.strategy shared name c.requires.joined none (sym c.name_of_whole.ensures ∙ ap (option_map (λ n. n.now)) w.in-Some.is) set)
      | in_default w ↦
          subst (λ s. IsNamed bench s file wanted) (sym w.session-is)
          (unnamed-joined bench now file c.args.strategy shared none (sym c.name_of_whole.ensures ∙ ap (option_map (λ n. n.now)) w.in_default.is))
    ] in
    named.joined

pub returns : goal.returns
returns c =
    let bench = c.args.session.now in
    let now = c.remove_fragment.new.session in
    let file = c.args.file in
    let shared = c.args.shared.now in
    let wanted = named_as_whole c.args.strategy of_parents (without_fragment shared) in
    let none = no-fragment bench now file shared c.requires.joined c.requires.shared c.remove_fragment.ensures in
    let named : IsNamed bench c.match-name_of_whole.session file wanted =
    elim c.match-name_of_whole.branch [
      | in-Some+in_ok-set+else-not-branch w ↦
          let name = w.in-Some.name.now in
          let set : IsDescribed now w.set.new.session file (with_set of_parents (bench_attributes now file) (codes "filename", name)) true =
          subst (IsDescribed now w.set.new.session file (with_set of_parents (bench_attributes now file) (codes "filename", name))) w.if-not-branch.false w.in_ok-set.ensures in
          subst (λ s. IsNamed bench s file wanted) (sym w.session-is)
          (named-joined bench now w.set.new.session file c.args.strategy shared name c.requires.joined none (sym c.name_of_whole.ensures ∙ ap (option_map (λ n. n.now)) w.in-Some.is) set)
      | in_default w ↦
          subst (λ s. IsNamed bench s file wanted) (sym w.session-is)
          (unnamed-joined bench now file c.args.strategy shared none (sym c.name_of_whole.ensures ∙ ap (option_map (λ n. n.now)) w.in_default.is))
    ] in
    let left = c.match-name_of_whole.session in
    ok-weaker c.count.result (λ done. IsDescribed left c.count.new.session file (counted (length left.sources) of_parents (bench_attributes left file)) done)
    (λ done. IsDescribed bench c.count.new.session file (described c.args.strategy (length bench.sources) shared) done)
    (λ done. count-described bench left c.count.new.session file c.args.strategy shared done c.requires.joined named) c.count.ensures
