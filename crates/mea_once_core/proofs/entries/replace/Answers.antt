use Rattle.std.proofs.Common.{rules, ◌∙◌, Some, refl, sym, subst}
use Rattle.slab.specs.Slab as slab
use Rattle.mea_once_core.specs.declared.entry.Entry.{Entry}
use Rattle.mea_once_core.proofs.Links.{keyed}
use Rattle.mea_once_core.proofs.Inserts.{old-there, replaces, replaced-linked}
use Rattle.mea_once_core.proofs.entries.replace.Goals as goal

pub seat-requires : goal.seat-requires
seat-requires g c =
    let e : Entry g.row.V.Denot g.row.W.Denot = record { cell = c.args.cell; callers = 0; place = Some c.in-Ok.place } in
    old-there c.args.entries.now c.insert_reserved.new.self c.vacant_key-fresh.result c.args.number e c.vacant_key-fresh.ensures.vacant
    (keyed c.args.entries.now c.args.numbers.now.entries (g.K.PartialEq.eq c.args.key) c.args.number c.requires.linked c.requires.there)
    (subst (λ n. slab.Updates c.args.entries.now c.insert_reserved.new.self n (Some e)) (c.insert_reserved.ensures.key ∙ sym c.vacant_key-fresh.ensures.value) c.insert_reserved.ensures.updates)

pub returns : goal.returns
returns g c =
    let e : Entry g.row.V.Denot g.row.W.Denot = record { cell = c.args.cell; callers = 0; place = Some c.in-Ok.place } in
    let there = keyed c.args.entries.now c.args.numbers.now.entries (g.K.PartialEq.eq c.args.key) c.args.number c.requires.linked c.requires.there in
    let made = subst (λ n. slab.Updates c.args.entries.now c.insert_reserved.new.self n (Some e)) (c.insert_reserved.ensures.key ∙ sym c.vacant_key-fresh.ensures.value) c.insert_reserved.ensures.updates in
    let all = replaces c.args.entries.now c.insert_reserved.new.self c.seat.new.entries c.drop_unused.new.entries c.vacant_key-fresh.result c.args.number e c.vacant_key-fresh.ensures.vacant there made
    (slab.get c.insert_reserved.new.self c.args.number) refl c.seat.ensures.seated (slab.get c.seat.new.entries c.args.number) refl c.drop_unused.ensures.used c.drop_unused.ensures.unused in
    record {
      linked = replaced-linked g.K.PartialEq.eq c.args.entries.now c.insert_reserved.new.self c.seat.new.entries c.drop_unused.new.entries c.args.numbers.now.entries c.insert_full.new.self.entries c.args.key
          c.vacant_key-fresh.result c.args.number c.in-Ok.place e c.requires.linked c.vacant_key-fresh.ensures.vacant there refl made
          c.requires.there c.in-Ok.ensures.index c.in-Ok.ensures.entries (slab.get c.insert_reserved.new.self c.args.number) refl c.seat.ensures.seated
          (slab.get c.seat.new.entries c.args.number) refl c.drop_unused.ensures.absent c.drop_unused.ensures.used c.drop_unused.ensures.unused;
      fresh = search rules;
      entry = all.entry;
      replaced = all.replaced;
      others = all.others;
      numbers = search rules;
    }
