use Rattle.mea_picture.proofs.Puts.{puts_five}
use Rattle.mea_picture.proofs.picture.put_head.Goals as goal

pub returns : goal.returns
returns c =
    puts_five _ _ _ _ _ _ _ _ _ _ _ c.in_ok-put_text.ensures.ok c.in_ok-put_decimal.ensures c.in_ok-put_text-2.ensures.ok
    c.in_ok-put_decimal-2.ensures c.in_ok-put_text-3.ensures.ok
