use Rattle.std.proofs.Common.{rules, ◌≡◌, Option, None, Some, map, string_bytes, ap, sym, ◌∙◌}
use Rattle.mea_text.specs.declared.numbers.Numbers.{Numbers}
use Rattle.mea_text.specs.declared.numbers.Numbers.TheVariants.{One}
use Rattle.mea_pool_run.proofs.Sizes.{no_pool, not_one, one_of}
use Rattle.mea_pool_run.proofs.running.size_of.Goals as goal

pub returns-in_err-size : goal.returns-in_err-size
returns-in_err-size c = record {
  pool = λ size.
      let none : c.from_residual.result ≡ None = search rules in
      let pool = no_pool (map string_bytes c.args.words.now) c.command_numbers.result c.command_numbers.ensures (λ n is. absurd (let no : ◌≡◌ {A = Option Numbers} None (Some (One n)) = sym c.in_err-size.was ∙ is in cc)) size in
      (λ is. pool.0 (sym none ∙ is), λ is. none ∙ pool.1 is);
}

pub returns-in-One : goal.returns-in-One
returns-in-One c = record {
  pool = one_of (map string_bytes c.args.words.now) c.command_numbers.result c.command_numbers.ensures c.in-One.size (c.in_ok-size.was ∙ ap (λ (n : Numbers). Some n) c.in-One.is)
      c.in_range.result c.in_range.ensures.range c.in_range.ensures.all;
}

pub returns-in_default : goal.returns-in_default
returns-in_default c = record {
  pool = not_one (map string_bytes c.args.words.now) c.command_numbers.result c.command_numbers.ensures c.in_ok-size.field-0 c.in_ok-size.was (λ n is. c.in_default.not-One n is);
}
