use Rattle.std.proofs.Common.{◌∙◌, ℕ, List, Err, drop, get_or, sym, ap, arith}
use Rattle.disk_trait.specs.declared.damage.Damage.TheVariants.{Form}
use Rattle.checkpoint_store.proofs.Bytes.{kind_stands, kind_read, not_a_file, form_told}
use Rattle.checkpoint_store.proofs.unread.check_is_file.Goals as goal

pub returns-then-kind-code-clause-damaged : goal.returns-then-kind-code-clause-damaged
returns-then-kind-code-clause-damaged g c damage is told k most =
    let file = c.args.source.file in
    let bytes = g.D.Disk.held c.args.disk.now file in
    let past = c.requires.whole told in
    let byte = ap (λ (l : List ℕ). get_or l 0 0) (c.in_ok-read.ensures.bytes told) ∙ kind_read bytes c.args.at in
    not_a_file file c.args.at most k (drop c.args.at bytes) past.kind past.payload past.whole (omega (arith, past.long)) (λ e. c.if-kind-code.true (byte ∙ e ∙ sym c.code.ensures))
    ∙ ap Err (form_told c.bad_form.result (Form file c.args.at) damage c.bad_form.ensures is)

pub returns-clause-file : goal.returns-clause-file
returns-clause-file g c told payload kind is =
    let bytes = g.D.Disk.held c.args.disk.now c.args.source.file in
    let byte = ap (λ (l : List ℕ). get_or l 0 0) (c.in_ok-read.ensures.bytes told) ∙ kind_read bytes c.args.at in
    sym (kind_stands (drop c.args.at bytes) kind payload is) ∙ sym byte ∙ c.if-kind-code.false ∙ c.code.ensures
