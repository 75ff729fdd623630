use Rattle.std.proofs.Common.{◌≡◌, ◌∙◌, ℕ, List, Err, length, take, drop, min, get_or, sym, ap, subst, arith, length-take, is_ok}
use Rattle.std.proofs.lemmas.List.{get_or-take}
use Rattle.disk_trait.specs.Files.{Files}
use Rattle.disk_trait.specs.declared.damage.Damage.TheVariants.{Form}
use Rattle.record_codec.proofs.Blocks.{whole_fits}
use Rattle.checkpoint_store.specs.Memory.{head_front_at}
use Rattle.checkpoint_store.proofs.Bytes.{kind_stands, length_read, front_stands, not_a_head, no_head_front, form_told}
use Rattle.checkpoint_store.proofs.Takes.{first_takes}
use Rattle.checkpoint_store.proofs.unread.check_head.Goals as goal

pub read-requires : goal.read-requires
read-requires g c told =
    let past = c.requires told in
    omega (arith, whole_fits (g.D.Disk.held c.args.disk.now c.args.source.file) past.kind past.payload past.whole)

pub returns-then-header-code-clause-damaged : goal.returns-then-header-code-clause-damaged
returns-then-header-code-clause-damaged g c damage is told =
    let file = c.args.source.file in
    let bytes = g.D.Disk.held c.args.disk.now file in
    let past = c.requires told in
    let fourth : get_or c.read.new.into 4 0 ≡ get_or bytes 4 0 = ap (λ (l : List ℕ). get_or l 4 0) (c.in_ok-read.ensures.bytes told) ∙ get_or-take 5 bytes 4 0 (omega arith) in
    not_a_head c.args.version file bytes past.kind past.payload past.whole (λ e. c.if-header-code.true (fourth ∙ e ∙ sym c.code.ensures))
    ∙ ap Err (form_told c.bad_form.result (Form file 0) damage c.bad_form.ensures is)

pub has_head_front-requires-after_bounds : goal.has_head_front-requires-after_bounds
has_head_front-requires-after_bounds g c κs within told =
    let file = c.args.source.file in
    let bytes = g.D.Disk.held c.args.disk.now file in
    let past = c.requires told in
    let same : length (g.D.Disk.held c.read.new.self file) ≡ length bytes = ap (λ (f : Files). length (f file)) c.in_ok-read.ensures.stays.files in
    let size = length_read bytes c.read.new.into past.kind past.payload past.whole (c.in_ok-read.ensures.bytes told) in
    let len = c.from_be_bytes-length.ensures ∙ size in
    omega (arith, length-take {A = ℕ}, same, len, c.min.ensures, whole_fits bytes past.kind past.payload past.whole)

pub returns-then-not-branch-clause-damaged : goal.returns-then-not-branch-clause-damaged
returns-then-not-branch-clause-damaged g c damage is told =
    let file = c.args.source.file in
    let bytes = g.D.Disk.held c.args.disk.now file in
    let past = c.requires told in
    let size = length_read bytes c.read.new.into past.kind past.payload past.whole (c.in_ok-read.ensures.bytes told) in
    let len = c.from_be_bytes-length.ensures ∙ size in
    let count : c.min.result ≡ min (length past.payload) 41 = omega (arith, len, c.min.ensures) in
    let found = subst (λ (f : Files). c.in_ok-has_head_front.field-0 ≡ is_ok (head_front_at c.args.version (take c.min.result (drop 5 (f file))))) c.in_ok-read.ensures.stays.files
    (c.in_ok-has_head_front.ensures.found told c.min.result (omega (arith, length-take {A = ℕ}, c.min.ensures))) in
    no_head_front c.args.version file bytes past.kind past.payload c.min.result past.whole count (sym found ∙ c.if-not-branch.true)
    ∙ ap Err (form_told c.bad_form-then-not-branch.result (Form file 0) damage c.bad_form-then-not-branch.ensures is)

pub returns-clause-front : goal.returns-clause-front
returns-clause-front g c told =
    let file = c.args.source.file in
    let bytes = g.D.Disk.held c.args.disk.now file in
    let past = c.requires told in
    let fourth : get_or c.read.new.into 4 0 ≡ get_or bytes 4 0 = ap (λ (l : List ℕ). get_or l 4 0) (c.in_ok-read.ensures.bytes told) ∙ get_or-take 5 bytes 4 0 (omega arith) in
    let size = length_read bytes c.read.new.into past.kind past.payload past.whole (c.in_ok-read.ensures.bytes told) in
    let len = c.from_be_bytes-length.ensures ∙ size in
    let count : c.min.result ≡ min (length past.payload) 41 = omega (arith, len, c.min.ensures) in
    let found = subst (λ (f : Files). c.in_ok-has_head_front.field-0 ≡ is_ok (head_front_at c.args.version (take c.min.result (drop 5 (f file))))) c.in_ok-read.ensures.stays.files
    (c.in_ok-has_head_front.ensures.found told c.min.result (omega (arith, length-take {A = ℕ}, c.min.ensures))) in
    let kind = sym (kind_stands bytes past.kind past.payload past.whole) ∙ sym fourth ∙ c.if-header-code.false ∙ c.code.ensures in
    first_takes c.args.version bytes past.kind past.payload past.whole kind (sym (front_stands c.args.version bytes past.kind past.payload c.min.result past.whole count) ∙ sym found ∙ c.if-not-branch.false)
