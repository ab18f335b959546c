use Rattle.mea_job_run.proofs.Follows.{are_orderly}
use Rattle.mea_job_run.proofs.running.run_jobs.Goals as goal

pub returns-in-Some-clause-usage : goal.returns-in-Some-clause-usage
returns-in-Some-clause-usage g c =
    let jobs = (c.numbers_of_jobs.ensures.jobs c.in-Some.permits c.in-Some.most_queued c.in-Some.results).0 c.in-Some.is in
    (λ usage. absurd (c.play.ensures.usage usage), λ none. absurd (none (c.in-Some.permits, c.in-Some.most_queued, c.in-Some.results, jobs)))

pub returns-in-Some-clause-orderly : goal.returns-in-Some-clause-orderly
returns-in-Some-clause-orderly g c = λ permits most_queued results script _ _. are_orderly permits most_queued results script

pub returns-in-None-clause-orderly : goal.returns-in-None-clause-orderly
returns-in-None-clause-orderly g c = λ permits most_queued results script _ _. are_orderly permits most_queued results script

pub play-requires : goal.play-requires
play-requires g c =
    let jobs = (c.numbers_of_jobs.ensures.jobs c.in-Some.permits c.in-Some.most_queued c.in-Some.results).0 c.in-Some.is in
    (jobs.1, jobs.2, jobs.3)
