use Rattle.std.proofs.Common.{ap, false, true}
use Rattle.mea_chan_model.specs.ChanHall.{Unbounded, Oneshots, Full, Optional}
use Rattle.mea_chan.specs.Actions.{meant, unbounded_action, oneshot_action}
use Rattle.mea_chan.specs.Halls.{parts}
use Rattle.mea_chan.proofs.Playing.{mail_acts, bounded_acts, broadcasts_act, boxes_act}
use Rattle.mea_chan.proofs.kinds.Kinds.act.Goals as goal

pub returns-in-Bounded : goal.returns-in-Bounded
returns-in-Bounded c = bounded_acts (parts c.args.self.now) c.args.number (meant c.args.meaning) c.in-Bounded.action c.act.result c.act.new.self c.args.ready.now c.act.new.ready (ap meant c.in-Bounded.is) c.act.ensures

pub returns-in-Broadcasts : goal.returns-in-Broadcasts
returns-in-Broadcasts c = broadcasts_act (parts c.args.self.now) c.args.number (meant c.args.meaning) c.in-Broadcasts.action c.act-in-Broadcasts.result c.act-in-Broadcasts.new.self c.args.ready.now c.act-in-Broadcasts.new.ready (ap meant c.in-Broadcasts.is) c.act-in-Broadcasts.ensures

pub returns-in-Unbounded : goal.returns-in-Unbounded
returns-in-Unbounded c = mail_acts (parts c.args.self.now) c.args.number (meant c.args.meaning) Unbounded (unbounded_action false c.in-Unbounded.action) c.act_unbounded.result c.act_unbounded.new.self c.args.ready.now c.act_unbounded.new.ready (ap meant c.in-Unbounded.is) c.act_unbounded.ensures

pub returns-in-Oneshots : goal.returns-in-Oneshots
returns-in-Oneshots c = mail_acts (parts c.args.self.now) c.args.number (meant c.args.meaning) Oneshots (oneshot_action true c.in-Oneshots.action) c.act_oneshot.result c.act_oneshot.new.self c.args.ready.now c.act_oneshot.new.ready (ap meant c.in-Oneshots.is) c.act_oneshot.ensures

pub returns-in-Boxes : goal.returns-in-Boxes
returns-in-Boxes c = boxes_act (parts c.args.self.now) c.args.number (meant c.args.meaning) Full c.in-Boxes.action c.act-in-Boxes.result c.act-in-Boxes.new.self c.args.ready.now (ap meant c.in-Boxes.is) c.act-in-Boxes.ensures

pub returns-in-OptionBoxes : goal.returns-in-OptionBoxes
returns-in-OptionBoxes c = boxes_act (parts c.args.self.now) c.args.number (meant c.args.meaning) Optional c.in-OptionBoxes.action c.act-in-OptionBoxes.result c.act-in-OptionBoxes.new.self c.args.ready.now (ap meant c.in-OptionBoxes.is) c.act-in-OptionBoxes.ensures
