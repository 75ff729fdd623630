use Rattle.std.proofs.Common.{cond, Some, None, ap, sym, ◌∙◌, true≢false}
use Rattle.serde_json.specs.View.{view}
use Rattle.flow_definition.proofs.Answered.{object_read, object_unread}
use Rattle.flow_definition.proofs.text.read_object.Goals as goal

pub returns-then-is_object : goal.returns-then-is_object
returns-then-is_object c =
    let d = view c.in-Ok.value in
    sym (object_read c.args.bytes.now d c.in-Ok.ensures.ok.0 c.in-Ok.ensures.ok.1
    ∙ ap (λ b. cond b (Some d) None) (sym c.is_object.ensures ∙ c.if-is_object.true))

pub returns-else-is_object : goal.returns-else-is_object
returns-else-is_object c =
    let d = view c.in-Ok.value in
    sym (object_read c.args.bytes.now d c.in-Ok.ensures.ok.0 c.in-Ok.ensures.ok.1
    ∙ ap (λ b. cond b (Some d) None) (sym c.is_object.ensures ∙ c.if-is_object.false))

pub returns-else-is_memory : goal.returns-else-is_memory
returns-else-is_memory c =
    sym (object_unread c.args.bytes.now
    (λ utf8. c.in-Err.ensures.err (λ m. true≢false (sym (c.is_memory.ensures.1 m) ∙ c.if-is_memory.false)) utf8))
