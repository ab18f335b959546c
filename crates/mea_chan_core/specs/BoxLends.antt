-- what a box ends as, where a `&mut` to its content is returned
use Rattle.std.specs.Borrow.{Lends, Fml, RattleType, MutBor}
use Rattle.std.specs.Box.{with_value}
use Rattle.mea_chan_core.specs.declared.box_core.BoxCore.{BoxCore}
use Rattle.mea_chan_core.specs.contracts.box_core.BoxCore.{the_row}

-- once the borrow r ends, the content is the last value written through r
abbrev pub lends_content : (T : RattleType) → MutBor (BoxCore T.Denot) → MutBor T.Denot → Fml
lends_content T s r = Lends (the_row T) T s r (λ v. record { content = with_value s.now.content v })
