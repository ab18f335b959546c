use Rattle.std.proofs.Common.{sym, ◌∙◌}
use Rattle.mea_family.specs.contracts.answer.Answer.{enum}
use Rattle.mea_recorded.proofs.Equals.{values_of_one, bare, number, numbers, account}
use Rattle.mea_recorded.proofs.closing.is_answer.Goals as goal

-- a test for each variant, in their order
pub returns-clause-same : goal.returns-clause-same
returns-clause-same c = λ same. values_of_one enum _ (
  bare,
  (
    bare,
    (
      bare,
      (
        bare,
        (
          bare,
          (
            bare,
            (
              bare,
              (
                bare,
                (
                  bare,
                  (
                    bare,
                    (
                      number,
                      (
                        number,
                        (
                          number,
                          (
                            bare,
                            (
                              bare,
                              (
                                number,
                                (
                                  number,
                                  (
                                    number,
                                    (number, (number, (number, (number, (number, (numbers, (number, (number, (account, tt))))))))),
                                  ),
                                ),
                              ),
                            ),
                          ),
                        ),
                      ),
                    ),
                  ),
                ),
              ),
            ),
          ),
        ),
      ),
    ),
  ),
)
    c.args.one.now c.args.other.now (sym c.eq.ensures ∙ same)
