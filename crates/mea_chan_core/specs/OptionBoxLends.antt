-- what a box that may be empty ends as, where a `&mut` to its content is returned
use Rattle.std.specs.Prelude.{Option}
use Rattle.std.specs.Borrow.{LendsIf, Fml, RattleType, MutBor}
use Rattle.std.specs.Box.{with_value}
use Rattle.std.specs.Option.{option_map}
use Rattle.mea_chan_core.specs.declared.option_box_core.OptionBoxCore.{OptionBoxCore}
use Rattle.mea_chan_core.specs.contracts.option_box_core.OptionBoxCore.{the_row}

-- once the borrow, if there is one, ends, the content is the last value written through it
abbrev pub lends_content : (T : RattleType) → MutBor (OptionBoxCore T.Denot) → Option (MutBor T.Denot) → Fml
lends_content T s r = LendsIf (the_row T) T s r (λ v. record { content = option_map (λ content. with_value content v) s.now.content }) s.now
