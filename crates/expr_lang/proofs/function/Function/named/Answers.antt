use Rattle.std.proofs.Common.{sym}
use Rattle.expr_lang.proofs.Named.{named_none}
use Rattle.expr_lang.proofs.function.Function.named.Goals as goal

pub returns-in_default : goal.returns-in_default
returns-in_default c =
    let d = c.in_default in
    sym (named_none c.args.name.now (
      d.not-isEmpty,
      (
        d.not-length,
        (
          d.not-toUpper,
          (
            d.not-toLower,
            (
              d.not-not,
              (
                d.not-equals,
                (
                  d.not-startsWith,
                  (
                    d.not-endsWith,
                    (
                      d.not-contains,
                      (
                        d.not-append,
                        (
                          d.not-prepend,
                          (
                            d.not-substringBefore,
                            (
                              d.not-substringAfter,
                              (
                                d.not-gt,
                                (
                                  d.not-lt,
                                  (
                                    d.not-plus,
                                    (
                                      d.not-minus,
                                      (
                                        d.not-and,
                                        (
                                          d.not-or,
                                          (d.not-replace, tt),
                                        ),
                                      ),
                                    ),
                                  ),
                                ),
                              ),
                            ),
                          ),
                        ),
                      ),
                    ),
                  ),
                ),
              ),
            ),
          ),
        ),
      ),
    ))
