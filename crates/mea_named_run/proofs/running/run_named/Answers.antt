use Rattle.mea_named_run.proofs.running.run_named.Goals as goal

pub returns-in-Some-clause-usage : goal.returns-in-Some-clause-usage
returns-in-Some-clause-usage g c =
    let named = (c.workers_and_rounds.ensures.named c.in-Some.workers c.in-Some.rounds).0 c.in-Some.is in
    (λ usage. absurd (c.play.ensures.usage usage), λ none. absurd (none (c.in-Some.workers, c.in-Some.rounds, named)))
