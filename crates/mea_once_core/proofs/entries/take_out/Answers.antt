use Rattle.std.proofs.Common.{◌∙◌, refl, ap, sym}
use Rattle.std.specs.Option.{option_map}
use Rattle.slab.specs.Slab as slab
use Rattle.mea_once_core.proofs.Links.{unlisted-moved, unlisted-last, told-there, told-moved, told-last, forgets}
use Rattle.mea_once_core.proofs.entries.take_out.Goals as goal

pub seat-requires-in-Some : goal.seat-requires-in-Some
seat-requires-in-Some g c =
    told-there c.args.entries.now c.seat.new.entries c.args.numbers.now.entries c.swap_remove_index.new.self.entries c.args.place c.args.number c.in-Some.moved.now c.in-Some.field-0-0.now
    c.requires.linked (slab.get c.args.entries.now c.args.number) refl c.requires.there c.requires.here c.seat.ensures.seated
    c.swap_remove_index.result c.swap_remove_index.ensures.entry c.swap_remove_index.ensures.entries
    (sym c.get_index-2.ensures.entry ∙ ap (option_map (λ p. (p.0.now, p.1.now))) c.in-Some.is)

pub returns-in-Some-clause-linked : goal.returns-in-Some-clause-linked
returns-in-Some-clause-linked g c =
    unlisted-moved c.args.entries.now c.seat.new.entries c.seat-in-Some.new.entries c.args.numbers.now.entries c.swap_remove_index.new.self.entries c.args.place c.args.number c.in-Some.moved.now c.in-Some.field-0-0.now
    c.requires.linked (slab.get c.args.entries.now c.args.number) refl c.requires.there c.requires.here c.seat.ensures.seated
    c.swap_remove_index.result c.swap_remove_index.ensures.entry c.swap_remove_index.ensures.entries
    (sym c.get_index-2.ensures.entry ∙ ap (option_map (λ p. (p.0.now, p.1.now))) c.in-Some.is)
    (slab.get c.seat.new.entries c.in-Some.moved.now) refl c.seat-in-Some.ensures.seated

pub returns-in-Some-clause-entries : goal.returns-in-Some-clause-entries
returns-in-Some-clause-entries g c = λ e there.
    told-moved c.args.entries.now c.seat.new.entries c.seat-in-Some.new.entries c.args.numbers.now.entries c.swap_remove_index.new.self.entries c.args.place c.args.number c.in-Some.moved.now c.in-Some.field-0-0.now
    c.requires.linked (slab.get c.args.entries.now c.args.number) refl c.requires.there c.requires.here c.seat.ensures.seated
    c.swap_remove_index.result c.swap_remove_index.ensures.entry c.swap_remove_index.ensures.entries
    (sym c.get_index-2.ensures.entry ∙ ap (option_map (λ p. (p.0.now, p.1.now))) c.in-Some.is)
    (slab.get c.seat.new.entries c.in-Some.moved.now) refl c.seat-in-Some.ensures.seated e there

pub returns-in-Some-clause-numbers : goal.returns-in-Some-clause-numbers
returns-in-Some-clause-numbers g c =
    forgets g.K.PartialEq.eq c.args.entries.now c.args.numbers.now c.swap_remove_index.new.self c.args.number c.args.place c.requires.linked (slab.get c.args.entries.now c.args.number) refl c.requires.there c.requires.here
    c.get_index.result c.get_index.ensures.entry c.get_index.ensures.value c.swap_remove_index.result c.swap_remove_index.ensures.entry c.swap_remove_index.ensures.updates

pub returns-in_default-clause-linked : goal.returns-in_default-clause-linked
returns-in_default-clause-linked g c =
    unlisted-last c.args.entries.now c.seat.new.entries c.args.numbers.now.entries c.swap_remove_index.new.self.entries c.args.place c.args.number
    c.requires.linked (slab.get c.args.entries.now c.args.number) refl c.requires.there c.requires.here c.seat.ensures.seated
    c.swap_remove_index.result c.swap_remove_index.ensures.entry c.swap_remove_index.ensures.entries
    (sym c.get_index-2.ensures.entry ∙ ap (option_map (λ p. (p.0.now, p.1.now))) c.in_default.is)

pub returns-in_default-clause-entries : goal.returns-in_default-clause-entries
returns-in_default-clause-entries g c = λ e there. told-last c.args.entries.now c.seat.new.entries c.args.number (slab.get c.args.entries.now c.args.number) refl c.seat.ensures.seated e there

pub returns-in_default-clause-numbers : goal.returns-in_default-clause-numbers
returns-in_default-clause-numbers g c =
    forgets g.K.PartialEq.eq c.args.entries.now c.args.numbers.now c.swap_remove_index.new.self c.args.number c.args.place c.requires.linked (slab.get c.args.entries.now c.args.number) refl c.requires.there c.requires.here
    c.get_index.result c.get_index.ensures.entry c.get_index.ensures.value c.swap_remove_index.result c.swap_remove_index.ensures.entry c.swap_remove_index.ensures.updates
