use Rattle.std.proofs.Common.{arith, ap}
use Rattle.mea_hall.proofs.families.Families.new.Goals as goal

pub returns-clause-empty : goal.returns-clause-empty
returns-clause-empty c = λ i. record {
  semaphores = (c.new.ensures i).hall;
  meets = (c.new-2.ensures.empty i).hall;
  locks = (c.new-3.ensures.empty i).hall;
  chans = (c.new-4.ensures.empty i).hall;
  shares = (c.new-5.ensures.empty i).hall;
  onces = (c.new-6.ensures.empty i).hall;
}

pub returns-clause-below : goal.returns-clause-below
returns-clause-below c = record {
  semaphores = omega (arith, ap (λ p. p.next) c.new.ensures);
  meets = omega (arith, ap (λ p. p.next) c.new-2.ensures.empty);
  locks = omega (arith, ap (λ p. p.next) c.new-3.ensures.empty);
  chans = omega (arith, ap (λ p. p.next) c.new-4.ensures.empty);
  shares = omega (arith, ap (λ p. p.next) c.new-5.ensures.empty);
  onces = omega (arith, ap (λ p. p.next) c.new-6.ensures.empty);
}
