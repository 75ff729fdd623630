use Rattle.std.proofs.Common.{◌≡◌, ◌<◌, ◌≤◌, false, true, None, Some, length, refl, sym, ◌∙◌, ap, subst, arith}
use Rattle.std.specs.Option.{option_map}
use Rattle.flowfile_record.specs.declared.attributes.TheConstants.{ATTRIBUTES_MAX}
use Rattle.machine_model.specs.MergeContent.{shared_by_all}
use Rattle.process_session.specs.Bench.{made_size}
use Rattle.processor_api.proofs.Answered.{changed_so, never_refused}
use Rattle.proc_merge.specs.Joining.{IsDescribed, described, file_joined, joined_file, with_joined_child}
use Rattle.proc_merge.specs.Taken.{bytes_read, files_seen}
use Rattle.proc_merge.proofs.Child.{child-attributes, child-joined, child-remove, child-removed, child-transfer, child-written, described-fits, done-child, has-joined, large-none, nothing-made, refused-child, short-read, unread-none, wanted-is, write-free}
use Rattle.proc_merge.proofs.joining.join.Goals as goal

pub returns-then-made_size-gt-ATTRIBUTES_MAX : goal.returns-then-made_size-gt-ATTRIBUTES_MAX
returns-then-made_size-gt-ATTRIBUTES_MAX c =
    let bench = c.args.session.now in
    let same = ap made_size c.in_ok-shared.ensures.shared in
    let large : ATTRIBUTES_MAX < made_size (shared_by_all (files_seen bench)) = omega (arith, c.if-made_size-gt-ATTRIBUTES_MAX.true, c.made_size.ensures, same) in
    nothing-made bench _ (large-none c.args.strategy (files_seen bench) (bytes_read bench.sources) large)

pub returns-in_default : goal.returns-in_default
returns-in_default c =
    let bench = c.args.session.now in
    let none : bytes_read bench.sources ≡ None = sym c.in_ok-content.ensures ∙ ap (option_map (λ content. content.items)) c.in_default.is in
    nothing-made bench _ (unread-none c.args.strategy (files_seen bench) (bytes_read bench.sources) none)

pub describe-requires-clause-joined : goal.describe-requires-clause-joined
describe-requires-clause-joined c =
    let shared = c.in_ok-shared.shared in
    let fits : made_size shared ≤ ATTRIBUTES_MAX = omega (arith, c.if-made_size-gt-ATTRIBUTES_MAX.false, c.made_size.ensures) in
    has-joined c.args.session.now c.create.new.session c.in_ok-file.file shared c.requires.took c.in_ok-shared.ensures.limits c.in_ok-shared.ensures.shared fits c.in_ok-file.ensures.place c.in_ok-file.ensures.after

pub describe-requires-clause-shared : goal.describe-requires-clause-shared
describe-requires-clause-shared c =
    child-attributes c.args.session.now c.create.new.session c.in_ok-file.file c.in_ok-shared.shared c.in_ok-shared.ensures.shared c.in_ok-file.ensures.place c.in_ok-file.ensures.after

pub unwrap-requires : goal.unwrap-requires
unwrap-requires c =
    let bench = c.args.session.now in
    let made = c.create.new.session in
    let now = c.describe.new.session in
    let file = c.in_ok-file.file in
    let shared = c.in_ok-shared.shared in
    let is : made ≡ with_joined_child bench shared = c.in_ok-file.ensures.after ∙ ap (with_joined_child bench) (sym c.in_ok-shared.ensures.shared) in
    let wanted = described c.args.strategy (length made.sources) shared in
    let isnt : IsDescribed made now file wanted false = subst (IsDescribed made now file wanted) c.if-not-branch.true c.in_ok-describe.ensures in
    let child = refused-child bench made now file shared wanted c.in_ok-file.ensures.place is isnt in
    never_refused _ _ c.remove.ensures.refusal (child-remove bench now file child.0 c.in_ok-file.ensures.place child.2)

pub returns-then-not-branch : goal.returns-then-not-branch
returns-then-not-branch c =
    let bench = c.args.session.now in
    let made = c.create.new.session in
    let now = c.describe.new.session in
    let file = c.in_ok-file.file in
    let shared = c.in_ok-shared.shared in
    let fits : made_size shared ≤ ATTRIBUTES_MAX = omega (arith, c.if-made_size-gt-ATTRIBUTES_MAX.false, c.made_size.ensures) in
    let is : made ≡ with_joined_child bench shared = c.in_ok-file.ensures.after ∙ ap (with_joined_child bench) (sym c.in_ok-shared.ensures.shared) in
    let wanted = described c.args.strategy (length made.sources) shared in
    let isnt : IsDescribed made now file wanted false = subst (IsDescribed made now file wanted) c.if-not-branch.true c.in_ok-describe.ensures in
    let child = refused-child bench made now file shared wanted c.in_ok-file.ensures.place is isnt in
    let none : file_joined c.args.strategy (files_seen bench) (bytes_read bench.sources) ≡ None =
    wanted-is bench made c.args.strategy shared None (bytes_read bench.sources) c.requires.took c.in_ok-shared.ensures.shared fits is child.1 in
    child-removed bench now c.remove.new.self file child.0 _ c.in_ok-file.ensures.place child.2 (changed_so _ _ _ _ _ c.remove.ensures.after c.unwrap.ensures) none

pub unwrap-requires-2 : goal.unwrap-requires-2
unwrap-requires-2 c =
    let bench = c.args.session.now in
    let made = c.create.new.session in
    let now = c.describe.new.session in
    let file = c.in_ok-file.file in
    let shared = c.in_ok-shared.shared in
    let is : made ≡ with_joined_child bench shared = c.in_ok-file.ensures.after ∙ ap (with_joined_child bench) (sym c.in_ok-shared.ensures.shared) in
    let wanted = described c.args.strategy (length made.sources) shared in
    let done : IsDescribed made now file wanted true = subst (IsDescribed made now file wanted) c.if-not-branch.false c.in_ok-describe.ensures in
    let child = done-child bench made now file shared wanted c.in_ok-file.ensures.place is done in
    let bytes : bytes_read bench.sources ≡ Some c.in-Some.content.items = sym c.in_ok-content.ensures ∙ ap (option_map (λ content. content.items)) c.in-Some.is in
    never_refused _ _ c.write.ensures.refusal
    (write-free bench now file child.0 c.in-Some.content.items c.requires.took c.in_ok-shared.ensures.limits c.in_ok-file.ensures.place child.2
    (described-fits c.args.strategy (length made.sources) shared child.0 child.1) (short-read bench c.in-Some.content.items c.requires.took bytes))

pub unwrap-requires-3 : goal.unwrap-requires-3
unwrap-requires-3 c =
    let bench = c.args.session.now in
    let made = c.create.new.session in
    let now = c.describe.new.session in
    let file = c.in_ok-file.file in
    let shared = c.in_ok-shared.shared in
    let is : made ≡ with_joined_child bench shared = c.in_ok-file.ensures.after ∙ ap (with_joined_child bench) (sym c.in_ok-shared.ensures.shared) in
    let wanted = described c.args.strategy (length made.sources) shared in
    let done : IsDescribed made now file wanted true = subst (IsDescribed made now file wanted) c.if-not-branch.false c.in_ok-describe.ensures in
    let child = done-child bench made now file shared wanted c.in_ok-file.ensures.place is done in
    let written = child-written bench now c.write.new.self file child.0 c.in-Some.content.items c.in_ok-file.ensures.place child.2 (changed_so _ _ _ _ _ c.write.ensures.after c.unwrap-2.ensures) in
    never_refused _ _ c.transfer.ensures.refusal (child-transfer bench c.write.new.self file _ 0 _ c.in_ok-file.ensures.place written refl c.requires.there)

pub returns : goal.returns
returns c =
    let bench = c.args.session.now in
    let made = c.create.new.session in
    let now = c.describe.new.session in
    let file = c.in_ok-file.file in
    let shared = c.in_ok-shared.shared in
    let content = c.in-Some.content.items in
    let fits : made_size shared ≤ ATTRIBUTES_MAX = omega (arith, c.if-made_size-gt-ATTRIBUTES_MAX.false, c.made_size.ensures) in
    let is : made ≡ with_joined_child bench shared = c.in_ok-file.ensures.after ∙ ap (with_joined_child bench) (sym c.in_ok-shared.ensures.shared) in
    let wanted = described c.args.strategy (length made.sources) shared in
    let done : IsDescribed made now file wanted true = subst (IsDescribed made now file wanted) c.if-not-branch.false c.in_ok-describe.ensures in
    let child = done-child bench made now file shared wanted c.in_ok-file.ensures.place is done in
    let written = child-written bench now c.write.new.self file child.0 content c.in_ok-file.ensures.place child.2 (changed_so _ _ _ _ _ c.write.ensures.after c.unwrap-2.ensures) in
    let bytes : bytes_read bench.sources ≡ Some content = sym c.in_ok-content.ensures ∙ ap (option_map (λ content. content.items)) c.in-Some.is in
    let some : file_joined c.args.strategy (files_seen bench) (bytes_read bench.sources) ≡ Some (joined_file (length bench.sources) child.0 content) =
    wanted-is bench made c.args.strategy shared (Some child.0) (bytes_read bench.sources) c.requires.took c.in_ok-shared.ensures.shared fits is child.1
    ∙ ap (option_map (joined_file (length bench.sources) child.0)) bytes in
    child-joined bench c.write.new.self c.transfer.new.self file _ child.0 content _ c.in_ok-file.ensures.place written (changed_so _ _ _ _ _ c.transfer.ensures.after c.unwrap-3.ensures) some
