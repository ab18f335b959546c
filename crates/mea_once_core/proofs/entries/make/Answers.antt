use Rattle.std.proofs.Common.{rules, ◌≡◌, ◌∙◌, Some, ap, sym, subst}
use Rattle.mea_once_core.specs.declared.entry.Entry.{Entry}
use Rattle.mea_once_core.specs.Links.{AreLinked, shown, Changes}
use Rattle.slab.specs.Slab as slab
use Rattle.slab.specs.Slab.{Slab}
use Rattle.indexmap.proofs.CallerLemmas.{insert_entry-new}
use Rattle.mea_once_core.proofs.Links.{linked-same, linked-new, shown-updates}
use Rattle.mea_once_core.proofs.entries.make.Goals as goal

pub returns-in-Err-clause-linked : goal.returns-in-Err-clause-linked
returns-in-Err-clause-linked g c = linked-same c.args.entries.now c.reserve_one.new.entries c.args.numbers.now.entries (λ n. search rules) c.requires.linked

pub returns-in-Ok-insert-clause-linked : goal.returns-in-Ok-insert-clause-linked
returns-in-Ok-insert-clause-linked g c =
    let same : c.insert_reserved.result ≡ c.vacant_key-number.result = c.insert_reserved.ensures.key ∙ sym c.vacant_key-number.ensures.value in
    let e : Entry g.row.V.Denot g.row.W.Denot = record { cell = c.args.cell; callers = c.args.callers; place = Some c.len-place.result } in
    linked-new c.reserve_one.new.entries c.insert_reserved.new.self c.args.numbers.now.entries c.insert.new.self.entries c.vacant_key-number.result c.args.key e
    (linked-same c.args.entries.now c.reserve_one.new.entries c.args.numbers.now.entries (λ n. search rules) c.requires.linked)
    c.vacant_key-number.ensures.vacant (ap (λ i. Some i) c.len-place.ensures.len)
    (subst (λ n. slab.Updates c.reserve_one.new.entries c.insert_reserved.new.self n (Some e)) same c.insert_reserved.ensures.updates)
    (c.in-Ok-insert.ensures.entries ∙ insert_entry-new g.K.PartialEq.eq c.args.numbers.now c.args.key c.vacant_key-number.result c.requires.new)

pub returns-in-Ok-insert-clause-entries : goal.returns-in-Ok-insert-clause-entries
returns-in-Ok-insert-clause-entries g c =
    let same : c.insert_reserved.result ≡ c.vacant_key-number.result = c.insert_reserved.ensures.key ∙ sym c.vacant_key-number.ensures.value in
    let e : Entry g.row.V.Denot g.row.W.Denot = record { cell = c.args.cell; callers = c.args.callers; place = Some c.len-place.result } in
    let slots : c.reserve_one.new.entries.slots ≡ c.args.entries.now.slots = ap (λ (s : Slab (Entry g.row.V.Denot g.row.W.Denot)). s.slots) c.reserve_one.ensures.rest_kept in
    subst (λ ss. Changes ss c.insert_reserved.new.self.slots c.vacant_key-number.result (Some (shown e))) slots
    (shown-updates c.reserve_one.new.entries c.insert_reserved.new.self c.vacant_key-number.result (Some e)
    (subst (λ n. slab.Updates c.reserve_one.new.entries c.insert_reserved.new.self n (Some e)) same c.insert_reserved.ensures.updates))

pub returns-in-Err-insert-clause-linked : goal.returns-in-Err-insert-clause-linked
returns-in-Err-insert-clause-linked g c =
    subst (λ ps. AreLinked c.reserve_one.new.entries ps) (sym c.in-Err-insert.ensures.err)
    (linked-same c.args.entries.now c.reserve_one.new.entries c.args.numbers.now.entries (λ n. search rules) c.requires.linked)
