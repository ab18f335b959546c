use Rattle.std.proofs.Common.{rules, ◌≡◌, Option, None, Some, map, string_bytes, ap, sym, ◌∙◌}
use Rattle.mea_text.specs.declared.numbers.Numbers.{Numbers}
use Rattle.mea_text.specs.declared.numbers.Numbers.TheVariants.{Three}
use Rattle.mea_job_run.proofs.Sizes.{no_jobs, not_three, jobs_of}
use Rattle.mea_job_run.proofs.running.numbers_of_jobs.Goals as goal

pub returns-in_err-permits : goal.returns-in_err-permits
returns-in_err-permits c = record {
  jobs = λ permits most_queued results.
      let none : c.from_residual.result ≡ None = search rules in
      let jobs = no_jobs (map string_bytes c.args.words.now) c.command_numbers.result c.command_numbers.ensures (λ a b d is. absurd (let no : ◌≡◌ {A = Option Numbers} None (Some (Three a b d)) = sym c.in_err-permits.was ∙ is in cc)) permits most_queued results in
      (λ is. jobs.0 (sym none ∙ is), λ is. none ∙ jobs.1 is);
}

pub returns-in-Three : goal.returns-in-Three
returns-in-Three c = record {
  jobs = jobs_of (map string_bytes c.args.words.now) c.command_numbers.result c.command_numbers.ensures c.in-Three.permits c.in-Three.most_queued c.in-Three.results
      (c.in_ok-permits.was ∙ ap (λ (n : Numbers). Some n) c.in-Three.is) c.in_range.result c.in_range.ensures.range c.in_range.ensures.all;
}

pub returns-in_default : goal.returns-in_default
returns-in_default c = record {
  jobs = not_three (map string_bytes c.args.words.now) c.command_numbers.result c.command_numbers.ensures c.in_ok-permits.field-0 c.in_ok-permits.was (λ a b d is. c.in_default.not-Three a b d is);
}
