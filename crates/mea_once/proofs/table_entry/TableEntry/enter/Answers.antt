use Rattle.std.proofs.Common.{◌≡◌, None, Some, sym, subst, ◌∙◌}
use Rattle.std.specs.FinMap.{get}
use Rattle.mea_base.proofs.Maps.{value_in, get-there}
use Rattle.mea_once.specs.KeyEntries.{Stays, Joins, Opens, IsOwn, joined, new_round}
use Rattle.mea_once.proofs.table_entry.TableEntry.enter.Goals as goal

pub returns-in-Some-clause-enters : goal.returns-in-Some-clause-enters
returns-in-Some-clause-enters g c = Stays c.in-Some.at.0 (subst (IsOwn c.args.self.now c.args.future.now.round) c.in-Some.is c.requires.own).0

pub returns-in-Some-clause-round : goal.returns-in-Some-clause-round
returns-in-Some-clause-round g c = (subst (IsOwn c.args.self.now c.args.future.now.round) c.in-Some.is c.requires.own).1

pub returns-in-Some-current_of-clause-enters : goal.returns-in-Some-current_of-clause-enters
returns-in-Some-current_of-clause-enters g c =
    let of : c.args.future.now.round ≡ None = subst (IsOwn c.args.self.now c.args.future.now.round) c.in_default.is c.requires.own in
    let now : get c.args.self.now.current c.args.future.now.key ≡ Some c.in-Some-current_of.n = sym c.current_of.ensures ∙ c.in-Some-current_of.is in
    let there = value_in (get c.args.self.now.rounds c.in-Some-current_of.n) (c.requires.there c.in-Some-current_of.n now) in
    rw (c.join.ensures.is there.0 there.1) (Joins c.in-Some-current_of.n there.0 of now there.1)

pub returns-in-Some-current_of-clause-round : goal.returns-in-Some-current_of-clause-round
returns-in-Some-current_of-clause-round g c =
    let now : get c.args.self.now.current c.args.future.now.key ≡ Some c.in-Some-current_of.n = sym c.current_of.ensures ∙ c.in-Some-current_of.is in
    let there = value_in (get c.args.self.now.rounds c.in-Some-current_of.n) (c.requires.there c.in-Some-current_of.n now) in
    rw (c.join.ensures.round there.0 there.1, c.join.ensures.is there.0 there.1) (get-there c.args.self.now.rounds c.in-Some-current_of.n (joined there.0))

pub returns-in-Ok-clause-enters : goal.returns-in-Ok-clause-enters
returns-in-Ok-clause-enters g c =
    let of : c.args.future.now.round ≡ None = subst (IsOwn c.args.self.now c.args.future.now.round) c.in_default.is c.requires.own in
    rw c.in-Ok.ensures.ok.1 (Opens of (sym c.current_of.ensures ∙ c.in-None.is))

pub returns-in-Ok-clause-round : goal.returns-in-Ok-clause-round
returns-in-Ok-clause-round g c = rw (c.in-Ok.ensures.ok.1, c.in-Ok.ensures.ok.0) (get-there c.args.self.now.rounds c.args.number (new_round c.args.future.now.key))
