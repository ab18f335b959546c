use Rattle.std.proofs.Common.{◌++◌, ◌∷◌, [], sym, ap, ◌∙◌}
use Rattle.std.specs.Option.{option_copied}
use Rattle.mea_sem.specs.declared.entries.EndedEntry.{EndedEntry}
use Rattle.mea_sem.proofs.Meets.{kept_store, seen_store}
use Rattle.mea_sem.proofs.Endings.{moved}
use Rattle.mea_sem.proofs.Lists.{alone, own}
use Rattle.mea_sem.proofs.Inside.{seen_alone, part_of}
use Rattle.mea_sem.proofs.family.SemFamily.settle.Goals as goal

pub invariant_of-self : goal.invariant_of-self
invariant_of-self c = own (kept_store (alone c.self.inside) c.self.invariant (
    moved (alone c.self.inside) c.args.s c.in-Some.entry.now _ _ c.self.invariant (sym c.get.ensures.value ∙ ap option_copied c.in-Some.is)
    (c.is_over.ensures c.if-not-is_over.false) c.remove-entry.ensures.updates.0
    (c.push_reserved.ensures.items ∙ ap (λ (x : EndedEntry). c.self.inside.ended.items ++ x ∷ []) c.account.ensures)))

pub returns : goal.returns
returns c = ap part_of (seen_store (alone c.self.inside) (seen_alone c.self.view_is) (
    moved (alone c.self.inside) c.args.s c.in-Some.entry.now _ _ c.self.invariant (sym c.get.ensures.value ∙ ap option_copied c.in-Some.is)
    (c.is_over.ensures c.if-not-is_over.false) c.remove-entry.ensures.updates.0
    (c.push_reserved.ensures.items ∙ ap (λ (x : EndedEntry). c.self.inside.ended.items ++ x ∷ []) c.account.ensures)))
