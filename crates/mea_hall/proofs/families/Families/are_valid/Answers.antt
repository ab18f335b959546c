use Rattle.mea_once_model.proofs.Validity.{valid_later}
use Rattle.mea_hall.proofs.families.Families.are_valid.Goals as goal

pub returns : goal.returns
returns c = λ n low.
    let meets = c.args.self.now.meets in
    let onces = c.args.self.now.onces in
    record {
      semaphores = c.is_valid.ensures.valid;
      meets = c.validity_is_kept.ensures.later meets.hall meets.next n c.is_valid-2.ensures low.meets;
      locks = c.is_valid-3.ensures;
      chans = c.is_valid-4.ensures;
      shares = c.is_valid-5.ensures.0;
      settled = c.is_valid-5.ensures.1;
      onces = valid_later onces.next n low.onces onces.hall c.is_valid-6.ensures;
    }
