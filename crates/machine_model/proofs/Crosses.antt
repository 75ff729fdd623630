-- That a regular expression, and what holds one, may be shared by threads and sent to another.
use denote.Param.Send.{IsSend, IsSync, sendable}
use denote.Param.SendFields.{declared_send, declared_sync, variants_send, variants_sync}
use Rattle.std.proofs.Crossing.{crosses}
use Rattle.regex_hir.specs.contracts.hir.Hir as Hir
use Rattle.regex_hir.proofs.hir.Hir.TheLaws.TheKnot.{sync-Hir, send-Hir}
use Rattle.regex_literal.proofs.prefilter.Prefilter.TheSendSync as prefilter
use Rattle.regex_literal.proofs.byte_set.ByteSet.TheSendSync as byte_set
use Rattle.regex_literal.proofs.caseless.Caseless.TheSendSync as caseless
use Rattle.regex_dfa.proofs.dfa.Dfa.TheSendSync as dfa
use Rattle.regex_meta.specs.contracts.plan.Plan as Plan
use Rattle.regex_meta.specs.contracts.plan.Plans as Plans
use Rattle.regex_meta.specs.contracts.signs.Signs as Signs
use Rattle.regex_meta.specs.contracts.program.Program as Program
use Rattle.regex.specs.contracts.pattern.Pattern as Inside
use Rattle.regex.specs.contracts.string.regex.Regex as Regex
use Rattle.expr_lang.proofs.syntax.Call.TheLaws.TheKnot.{sync-Embedded, send-Embedded}
use Rattle.expr_lang.specs.contracts.syntax.Embedded as Embedded
use Rattle.expr_lang.specs.contracts.syntax.Piece as Piece
use Rattle.expr_lang.specs.contracts.syntax.Expr as Expr
use Rattle.flowfile_record.proofs.text.Text.TheSendSync as text
use Rattle.machine_model.specs.contracts.kind.OwnExpression as OwnExpression
use Rattle.machine_model.specs.contracts.kind.OwnPattern as OwnPattern
use Rattle.machine_model.specs.contracts.kind.Replacement as Replacement
use Rattle.machine_model.specs.contracts.pattern.Pattern as Pattern
use Rattle.machine_model.specs.contracts.kind.Kind as Kind
use Rattle.machine_model.specs.contracts.flow.Processor as Processor
use Rattle.machine_model.specs.contracts.flow.Flow as Flow

hir_sync : IsSync Hir.the_row
hir_sync = search (sendable, crosses, sync-Hir) depth 60 fits 50000

plan_sync : IsSync Plan.the_row
plan_sync = search (sendable, crosses, hir_sync, prefilter.the_sync) depth 60 fits 50000

plans_sync : IsSync Plans.the_row
plans_sync = search (sendable, crosses, plan_sync) depth 60 fits 50000

signs_sync : IsSync Signs.the_row
signs_sync = search (sendable, crosses, hir_sync, caseless.the_sync) depth 60 fits 50000

program_sync : IsSync Program.the_row
program_sync = declared_sync Program.the_type (
  hir_sync,
  (
    dfa.the_sync,
    (
      plans_sync,
      (
        search (sendable, crosses, signs_sync) depth 60 fits 50000,
        (
          search (sendable, crosses, byte_set.the_sync) depth 60 fits 50000,
          (search sendable, (search sendable, (search (sendable, crosses) depth 60, tt))),
        ),
      ),
    ),
  ),
)

inside_sync : IsSync Inside.the_row
inside_sync = declared_sync Inside.the_type (
  search (sendable, crosses) depth 60 fits 50000,
  (search (sendable, crosses) depth 60 fits 50000, (search (sendable, crosses) depth 60 fits 50000, (program_sync, tt))),
)

regex_sync : IsSync Regex.the_row
regex_sync = declared_sync Regex.the_type (inside_sync, tt)

pub pattern_sync : IsSync Pattern.the_row
pattern_sync = search (sendable, crosses, regex_sync) depth 60 fits 50000

hir_send : IsSend Hir.the_row
hir_send = search (sendable, crosses, send-Hir) depth 60 fits 50000

plan_send : IsSend Plan.the_row
plan_send = search (sendable, crosses, hir_send, prefilter.the_send) depth 60 fits 50000

plans_send : IsSend Plans.the_row
plans_send = search (sendable, crosses, plan_send) depth 60 fits 50000

signs_send : IsSend Signs.the_row
signs_send = search (sendable, crosses, hir_send, caseless.the_send) depth 60 fits 50000

program_send : IsSend Program.the_row
program_send = declared_send Program.the_type (
  hir_send,
  (
    dfa.the_send,
    (
      plans_send,
      (
        search (sendable, crosses, signs_send) depth 60 fits 50000,
        (
          search (sendable, crosses, byte_set.the_send) depth 60 fits 50000,
          (search sendable, (search sendable, (search (sendable, crosses) depth 60, tt))),
        ),
      ),
    ),
  ),
)

inside_send : IsSend Inside.the_row
inside_send = declared_send Inside.the_type (
  search (sendable, crosses) depth 60 fits 50000,
  (search (sendable, crosses) depth 60 fits 50000, (search (sendable, crosses) depth 60 fits 50000, (program_send, tt))),
)

regex_send : IsSend Regex.the_row
regex_send = declared_send Regex.the_type (inside_send, tt)

pub pattern_send : IsSend Pattern.the_row
pattern_send = search (sendable, crosses, regex_send) depth 60 fits 50000

embedded_sync : IsSync Embedded.the_row
embedded_sync = search (sendable, crosses, sync-Embedded) depth 60 fits 50000

piece_sync : IsSync Piece.the_row
piece_sync = variants_sync Piece.enum (
  (search (sendable, crosses) depth 60 fits 50000, tt),
  ((embedded_sync, tt), tt),
)

expr_sync : IsSync Expr.the_row
expr_sync = variants_sync Expr.enum (
  (embedded_sync, tt),
  ((search (sendable, crosses, piece_sync) depth 60 fits 50000, tt), tt),
)

own_expression_sync : IsSync OwnExpression.the_row
own_expression_sync = declared_sync OwnExpression.the_type (text.the_sync, (expr_sync, tt))

own_pattern_sync : IsSync OwnPattern.the_row
own_pattern_sync = declared_sync OwnPattern.the_type (text.the_sync, (pattern_sync, tt))

replacement_sync : IsSync Replacement.the_row
replacement_sync = variants_sync Replacement.enum (
  (pattern_sync, (text.the_sync, tt)),
  ((text.the_sync, (text.the_sync, tt)), tt),
)

pub kind_sync : IsSync Kind.the_row
kind_sync = variants_sync Kind.enum (
  (search (sendable, crosses, pattern_sync) depth 60 fits 50000, tt),
  (
    (search sendable depth 20, (expr_sync, tt)),
    (
      (search sendable depth 20, tt),
      (
        (search (sendable, crosses, own_expression_sync) depth 60 fits 50000, tt),
        (
          (search (sendable, crosses, own_expression_sync) depth 60 fits 50000, tt),
          (
            (search sendable depth 20, (search (sendable, crosses, text.the_sync) depth 60 fits 50000, tt)),
            (
              (search sendable depth 20, tt),
              (
                tt,
                (
                  (search sendable depth 20, tt),
                  (
                    (replacement_sync, tt),
                    (
                      (search (sendable, crosses, own_pattern_sync) depth 60 fits 50000, tt),
                      (
                        (search sendable depth 20, (search (sendable, crosses, own_pattern_sync) depth 60 fits 50000, tt)),
                        (
                          (search sendable depth 20, (search sendable depth 20, (search sendable depth 20, tt))),
                          (
                            (search sendable depth 20, tt),
                            ((search sendable depth 20, (search sendable depth 20, tt)), tt),
                          ),
                        ),
                      ),
                    ),
                  ),
                ),
              ),
            ),
          ),
        ),
      ),
    ),
  ),
)

pub processor_sync : IsSync Processor.the_row
processor_sync = declared_sync Processor.the_type (text.the_sync, (kind_sync, (search sendable depth 20, (search sendable depth 20, (search (sendable, crosses, text.the_sync) depth 60 fits 50000, tt)))))

pub flow_sync : IsSync Flow.the_row
flow_sync = search (sendable, crosses, processor_sync) depth 60 fits 50000

embedded_send : IsSend Embedded.the_row
embedded_send = search (sendable, crosses, send-Embedded) depth 60 fits 50000

piece_send : IsSend Piece.the_row
piece_send = variants_send Piece.enum (
  (search (sendable, crosses) depth 60 fits 50000, tt),
  ((embedded_send, tt), tt),
)

expr_send : IsSend Expr.the_row
expr_send = variants_send Expr.enum (
  (embedded_send, tt),
  ((search (sendable, crosses, piece_send) depth 60 fits 50000, tt), tt),
)

own_expression_send : IsSend OwnExpression.the_row
own_expression_send = declared_send OwnExpression.the_type (text.the_send, (expr_send, tt))

own_pattern_send : IsSend OwnPattern.the_row
own_pattern_send = declared_send OwnPattern.the_type (text.the_send, (pattern_send, tt))

replacement_send : IsSend Replacement.the_row
replacement_send = variants_send Replacement.enum (
  (pattern_send, (text.the_send, tt)),
  ((text.the_send, (text.the_send, tt)), tt),
)

pub kind_send : IsSend Kind.the_row
kind_send = variants_send Kind.enum (
  (search (sendable, crosses, pattern_send) depth 60 fits 50000, tt),
  (
    (search sendable depth 20, (expr_send, tt)),
    (
      (search sendable depth 20, tt),
      (
        (search (sendable, crosses, own_expression_send) depth 60 fits 50000, tt),
        (
          (search (sendable, crosses, own_expression_send) depth 60 fits 50000, tt),
          (
            (search sendable depth 20, (search (sendable, crosses, text.the_send) depth 60 fits 50000, tt)),
            (
              (search sendable depth 20, tt),
              (
                tt,
                (
                  (search sendable depth 20, tt),
                  (
                    (replacement_send, tt),
                    (
                      (search (sendable, crosses, own_pattern_send) depth 60 fits 50000, tt),
                      (
                        (search sendable depth 20, (search (sendable, crosses, own_pattern_send) depth 60 fits 50000, tt)),
                        (
                          (search sendable depth 20, (search sendable depth 20, (search sendable depth 20, tt))),
                          (
                            (search sendable depth 20, tt),
                            ((search sendable depth 20, (search sendable depth 20, tt)), tt),
                          ),
                        ),
                      ),
                    ),
                  ),
                ),
              ),
            ),
          ),
        ),
      ),
    ),
  ),
)

pub processor_send : IsSend Processor.the_row
processor_send = declared_send Processor.the_type (text.the_send, (kind_send, (search sendable depth 20, (search sendable depth 20, (search (sendable, crosses, text.the_send) depth 60 fits 50000, tt)))))

pub flow_send : IsSend Flow.the_row
flow_send = search (sendable, crosses, processor_send) depth 60 fits 50000
